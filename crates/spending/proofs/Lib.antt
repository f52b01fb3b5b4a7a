pub mod SpendLaws
