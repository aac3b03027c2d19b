mod Boots
mod Cuts
mod Disks
mod PacketPorts
mod Sendings
mod Stops
mod Turns
mod Ups
