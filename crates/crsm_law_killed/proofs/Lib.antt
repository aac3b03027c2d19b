mod Disks
mod Handed
mod Runs
