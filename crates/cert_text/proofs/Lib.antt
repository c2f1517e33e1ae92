mod Literals
mod Words
mod ReadLines
