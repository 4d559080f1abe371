mod HeadCodes
mod Readings
mod FirstBooks
mod Stores
