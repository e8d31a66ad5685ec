mod Decimals
mod LongText
mod Ranges
mod LineEnds
