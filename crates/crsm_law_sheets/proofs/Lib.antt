mod Prefixes
mod Effects
mod Drafts
mod Runs
mod Agreeing
