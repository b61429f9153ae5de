mod Listing
mod Numbers
