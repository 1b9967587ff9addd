pub mod OwnFacts
