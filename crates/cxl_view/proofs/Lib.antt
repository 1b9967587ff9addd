mod Digits
mod Within
mod Counted
mod Fronts
mod Streams
mod Sums
