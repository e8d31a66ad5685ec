mod Ranges
mod Lengths
mod Sums
