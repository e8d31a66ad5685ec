mod Rows
mod Following
mod Tabling
mod Others
mod Lined
mod AcceptedFiles
mod OneText
