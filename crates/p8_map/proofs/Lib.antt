mod Naming
mod Ending
mod Places
mod Inside
mod Examples
mod AcceptedFiles
mod Stretches
