-- Laws of bitmaps of runs.
mod Packing
mod RunBits
