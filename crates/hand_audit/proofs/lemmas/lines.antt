-- The walk over the lines of a hand: what is kept stands for the lines so far. Each law on accepted hands begins with `AcceptedHand` and `AcceptedLines`.
pub mod EventRanges
pub mod LineSteps
pub mod KeptInvariant
pub mod ReadOnce
pub mod FollowWalk
pub mod HandVerdict
pub mod AcceptedLines
pub mod AcceptedHand
pub mod ReadHands
