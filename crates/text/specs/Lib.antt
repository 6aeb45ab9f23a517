-- In reading order: lines of a text, hex, numbers in decimal, the sheet of an input, and lines that answer.
pub mod Lines
pub mod Hex
pub mod Numerals
pub mod Input
pub mod Answers
