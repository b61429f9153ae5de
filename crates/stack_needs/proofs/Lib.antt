mod Looking
mod Loops
mod Main
mod Needs
mod Paths
mod Sizes
mod Standing
mod Suffices
