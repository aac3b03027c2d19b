mod Iterated
mod Sizes
mod Parts
