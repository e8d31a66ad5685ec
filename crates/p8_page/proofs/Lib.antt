mod Changing
mod Escapes
mod Joining
