pub mod RenamedLaws
