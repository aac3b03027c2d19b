mod Last
mod Times
mod Laws
mod Spacing
mod Example
