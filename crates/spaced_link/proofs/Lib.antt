mod Spaced
mod Tails
