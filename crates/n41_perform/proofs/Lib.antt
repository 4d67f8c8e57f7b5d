mod Scripts
mod Readings
mod Printings
mod Runs
mod Outcomes
