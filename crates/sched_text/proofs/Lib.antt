mod Numbers
mod Splits
mod ReadLines
