mod Filters
mod Timely
mod Merge
mod Tables
mod Law
mod Clusters
mod Seen
mod Example
