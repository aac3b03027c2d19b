mod Kept
mod Clusters
mod Passings
