pub mod Paxos
