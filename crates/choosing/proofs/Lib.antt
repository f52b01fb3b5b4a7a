pub mod ChooseLaws
