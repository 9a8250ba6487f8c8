mod Sums
mod Padding
mod Passing
mod FirstNo
mod Asking
mod Summing
mod Deciding
