mod Values
mod Asked
