mod Bits
mod Numbers
