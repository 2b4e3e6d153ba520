-- Laws of the places at which parts of a line end, and of the bytes that their words give.
mod Putting
mod Ends
