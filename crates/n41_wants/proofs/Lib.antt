pub mod OneWant
