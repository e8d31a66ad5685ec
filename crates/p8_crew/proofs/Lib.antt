mod Places
mod Endings
mod Turning
