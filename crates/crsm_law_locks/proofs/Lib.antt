mod Rows
mod Stepping
mod Events
mod Following
mod Held
mod Hands
