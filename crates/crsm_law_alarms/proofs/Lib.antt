mod Written
mod Whole
mod Agreeing
