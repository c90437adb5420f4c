mod Backs
mod Comes
mod Cuts
mod Digits
mod Named
mod Turns
mod Values
