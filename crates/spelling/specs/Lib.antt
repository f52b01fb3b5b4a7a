pub mod WellSpelled
