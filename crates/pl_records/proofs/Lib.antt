mod Newest
mod Keeps
mod Following
mod Plain
