mod CallLemmas
mod Completes
mod Images
mod Opened
mod Told
