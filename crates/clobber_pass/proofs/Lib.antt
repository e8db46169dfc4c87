mod bits
mod steps
mod derived
mod closed
mod marked
mod Topical
mod Waking
mod Recalling
