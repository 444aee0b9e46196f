mod PageRead
mod Parts
mod Rows
