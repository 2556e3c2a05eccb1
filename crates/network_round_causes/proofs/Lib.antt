pub mod CauseLaws
