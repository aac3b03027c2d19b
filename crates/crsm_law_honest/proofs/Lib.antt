mod Telling
mod Steps
mod Agreeing
mod Whole
mod Cutting
