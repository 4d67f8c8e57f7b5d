mod Ended
mod Given
mod Begun
mod Steps
