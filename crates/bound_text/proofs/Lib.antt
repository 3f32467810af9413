mod Texts
mod Refused
