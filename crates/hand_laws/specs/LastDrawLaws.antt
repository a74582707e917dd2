-- How a player drew on the last draw, by the events before its street began and by those since.
use Rattle.std.specs.Prelude.{◌≡◌, ◌++◌, ℕ, true, false, List, [], ◌∷◌}
use Rattle.hand_events.specs.declared.events.Header.{Header}
use Rattle.hand_events.specs.declared.events.Event.{Event}
use Rattle.betting_replay.specs.Dealing.{gathered, marked, hides, stands_pat, discards_five, last_draw_of}
use Rattle.betting_replay.specs.Hands.{held}
use Rattle.betting_replay.specs.Places.{thrown_by}
use Rattle.betting_replay.specs.Sums.{last_begun}

-- how he drew on the last draw
pub record TellsLastDraw (header : Header) (all since before : List Event) (p : ℕ) : Type 0 where
  -- what he held, and whether a discard before it was hidden, is told by the events before
  pub held_then : (last_draw_of header all p).held ≡ held before p
  pub hidden_then : (last_draw_of header all p).hidden_before ≡ marked hides before p
  -- what he threw away, and how, is told by the events since
  pub thrown_since : (last_draw_of header all p).thrown ≡ gathered thrown_by since p
  pub hidden_since : (last_draw_of header all p).hidden ≡ marked hides since p
  pub pat_since : (last_draw_of header all p).pat ≡ marked stands_pat since p
  pub five_since : (last_draw_of header all p).five ≡ marked discards_five since p

-- where the last street begins with an event, after others and before others; the latest event stands first
abbrev pub PartsLastDraw : Type 0
PartsLastDraw = (header : Header) (later : List Event) (e : Event) (before : List Event) (p : ℕ)
    → last_begun header before ≡ false → last_begun header (e ∷ before) ≡ true
    → TellsLastDraw header (later ++ e ∷ before) (later ++ e ∷ []) before p
