-- Laws of bitmaps marked run by run.
mod RunMarks
