pub mod FirstRounds
