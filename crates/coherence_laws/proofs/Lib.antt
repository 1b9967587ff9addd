mod Advanced
mod Copied
mod Weighed
mod Rested
