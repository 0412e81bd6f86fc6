mod Cleaned
mod HoldLists
mod HeldThrough
mod RunChains
mod RunSingles
