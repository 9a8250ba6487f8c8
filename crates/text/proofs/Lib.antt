-- Chapters: a line that was read; a walk over term lines; terms clamped; the words of a term's line; how long texts are, texts written one after the
-- other, and where each part of a text comes to stand; a loop over the polynomials of a store; the polynomials of a text entered one after the other; what follows where Fill answers; a text that was written reads back.
pub mod Passing
pub mod Walking
pub mod Clamping
pub mod Words
pub mod Sizes
pub mod Parts
pub mod Placing
pub mod Turns
pub mod Entering
pub mod Filled
pub mod RoundTrip
pub mod Mapped
