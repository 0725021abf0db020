-- Laws of what is printed.
mod Texts
