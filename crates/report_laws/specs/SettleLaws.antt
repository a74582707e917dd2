-- What the lines of a settlement add up to.
use Rattle.std.specs.Prelude.{◌≡◌, ℕ, ◌==◌, ◌&&◌, not, if◌then◌else◌, Bool, List, [], filter, sum_by}
use Rattle.std.specs.List.{flat_map, list_any}
use Rattle.card_sets.specs.PlayerSets.{seats_in}
use Rattle.hand_verdict.specs.SeatSums.{due_of, got_of}
use Rattle.hand_verdict.specs.declared.settlement.Settlement.{Settlement}
use Rattle.even_luck.specs.Seats.{Seated}
use Rattle.report_sheet.specs.Lines.{line_in}
use Rattle.hand_blocks.specs.Settles.{are_checked, settle_line, settle_lines}
use Rattle.report_sheet.specs.declared.form.Form.{Form}

-- the players who must still receive something or give it back, by rising seat: if the winners of each pot are known,
-- those whose dues over all pots differ from what they received
abbrev pub to_settle : Settlement → ℕ → List ℕ
to_settle s players =
    if are_checked s.pots
    then filter (λ seat. not (due_of s seat == got_of s seat)) (seats_in players) else []

-- the seat is one of these
abbrev pub is_one_of : List ℕ → ℕ → Bool
is_one_of seats seat = list_any (λ p. p == seat) seats

-- a settlement has a line for each of these players and no other; a player is one of them exactly if the winners of
-- each pot are known and the player's dues differ from what they received; together their dues equal what they
-- received, so the lines add up to 0
pub record SettlesUp (s : Settlement) (players : ℕ) : Type 0 where
  pub lines : (form : Form) (names : Seated) → settle_lines form s names players
      ≡ flat_map (λ seat. line_in form
      (settle_line s.hundredths names (due_of s seat) (got_of s seat) seat)) (to_settle s players)
  pub one : (seat : ℕ) → is_one_of (to_settle s players) seat
      ≡ (are_checked s.pots && is_one_of (seats_in players) seat && not (due_of s seat == got_of s seat))
  pub whole : sum_by (due_of s) (to_settle s players) ≡ sum_by (got_of s) (to_settle s players)
