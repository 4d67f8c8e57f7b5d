mod Printings
mod One
