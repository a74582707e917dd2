-- What is known at an all-in, and on a street after it.
pub mod KnownCards
