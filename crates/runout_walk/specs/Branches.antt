-- Where a walk over the slots of a deal stands.
use Rattle.std.specs.Prelude.{◌≡◌, ℕ, suc, ◌+◌, ◌<◌, ◌≤◌, ◌^◌, List, ◌∷◌, ◌++◌, length}
use Rattle.runout_ranges.specs.Runouts.{HasMember}
use Rattle.runout_ranges.specs.Slots.{slots, unseen, counts_of}
use Rattle.runout_ranges.specs.declared.shapes.Receiver.TheVariants.{Board}
use Rattle.runout_ranges.specs.declared.shapes.Slot.{Slot}
use Rattle.showdown_tally.specs.Showdown.{Showdown}
use Rattle.showdown_tally.specs.Tallies.{runouts_after}
use Rattle.runout_walk.specs.Listing.{going_on, left_after, last_count, IsBranch}

-- the slots before one have the sets dealt before, which leave these cards, and the one has some cards and gets `left` more of the rest;
-- each way to go on is a runout, and the last slot takes at least `depth` cards at once
pub record IsAt (deal : Showdown) (depth : ℕ) (front : List (List ℕ)) (cards taken rest : List ℕ) (left : ℕ) (later : List Slot) (each : ℕ) : Type 0 where
  pub place : suc (length front + length later) ≡ length (slots deal.state)
  pub kept : left_after (unseen deal.state) front ≡ cards
  pub branch : IsBranch cards taken rest left (counts_of later) each
  pub members : (more : List (List ℕ)) → HasMember (going_on cards taken rest left (counts_of later)) more → HasMember (runouts_after deal.state) (front ++ more)
  pub deep : depth ≤ last_count (record { receiver = Board; count = left } ∷ later)
  pub few : length (going_on cards taken rest left (counts_of later)) < 2 ^ 64
