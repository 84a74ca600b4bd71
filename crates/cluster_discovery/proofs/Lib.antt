mod Growth
mod Joining
