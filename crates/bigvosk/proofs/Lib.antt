mod Cutting
mod Working
mod Pointing
mod Lining
mod Counting
mod Listing
