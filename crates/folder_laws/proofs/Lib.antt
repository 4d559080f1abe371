mod Members
mod Ordered
mod Stems
mod Listed
