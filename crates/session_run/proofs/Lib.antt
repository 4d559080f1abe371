mod Commits
mod Others
mod Showing
mod Undos
