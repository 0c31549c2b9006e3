mod Lengths
mod Once
mod Rows
