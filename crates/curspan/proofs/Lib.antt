-- What is printed, by whether a script ended with a fault; for `paint_screen`
pub mod PrintedPictures
