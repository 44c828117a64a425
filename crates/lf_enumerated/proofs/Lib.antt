pub mod LeadingLaws
