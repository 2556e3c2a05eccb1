pub mod LastWriteLaws
