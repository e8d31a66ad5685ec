mod Numbers
mod Eights
mod Answering
