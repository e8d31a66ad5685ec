mod Digits
mod Parts
mod Reading
