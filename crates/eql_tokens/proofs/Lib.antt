mod Behind
mod Cuts
