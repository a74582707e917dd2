-- The lemmas that other crates may cite.

-- The units that are closed in some bytes stay the first, whatever follows.
pub use Rattle.hand_cuts.proofs.UnitLaws.{closed_units_stay}
-- The closed hands are the hands of the bytes before the last header line that has its newline.
pub use Rattle.hand_cuts.proofs.ClosedFacts.{closed_hands_by_bytes}
