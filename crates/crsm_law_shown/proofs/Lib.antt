mod Known
mod Done
mod Rules
mod Locks
