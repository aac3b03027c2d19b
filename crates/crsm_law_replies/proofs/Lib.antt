mod Lines
mod First
mod Prefixes
mod Laws
