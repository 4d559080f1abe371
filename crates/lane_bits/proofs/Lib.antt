mod Between
mod Counted
mod Joined
mod Masks
mod Next
mod Places
mod Rows
mod Spans
