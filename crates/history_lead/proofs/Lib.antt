pub mod LeadLaws
