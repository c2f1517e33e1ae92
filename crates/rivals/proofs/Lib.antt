mod Listing
mod Touching
mod Reservations
