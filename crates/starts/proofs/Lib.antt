-- What the tail holds on the way; and the promise, by the answer.
pub mod Into
pub mod Promise
