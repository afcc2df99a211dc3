mod Words
mod Pieces
