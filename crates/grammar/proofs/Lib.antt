pub mod Cells
pub mod Looking
pub mod Automaton
pub mod Places
pub mod Standings
pub mod Verdict
pub mod Outcome
pub mod Firsts
mod Pulling
mod Tallies
