mod Members
mod Ranks
