mod Listing
mod Covering
mod Tracing
