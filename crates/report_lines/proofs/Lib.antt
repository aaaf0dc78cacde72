mod WorkedRefusals
pub mod Streams
mod Turns
mod WorkedTexts
