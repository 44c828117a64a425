pub mod TurnedLines
