-- The table of what is known at a point, and the all-in that has it.
use Rattle.std.proofs.Common.{◌≡◌, ℕ, List, [], ◌∷◌, refl, sym, ap, ◌∙◌, true, false, length, map}
use Rattle.std.specs.Prelude.{Some, None, is_some, slice_index_or}
use Rattle.std.specs.List.{list_all}
use Rattle.std.proofs.lemmas.List.{length-map}
use Rattle.card_sets.specs.PlayerSets.{seats_in}
use Rattle.card_sets.specs.declared.games.Game.{Game}
use Rattle.card_sets.specs.declared.streets.Street.{Street}
use Rattle.pot_layers.specs.Pots.{pots}
use Rattle.betting_replay.specs.AllIn.{point_street}
use Rattle.betting_replay.specs.Table.{ReplayState}
use Rattle.hand_audit.specs.Showings.{paid_in}
use Rattle.hand_verdict.specs.declared.settlement.PotLine.{PotLine}
use Rattle.hand_audit.specs.KnownTables.{ten, places_in, Bare, table_from}
use Rattle.hand_audit.specs.PotSeats.{eligible_of}
use Rattle.hand_audit.specs.AllIns.{cards_or_none, bare_of, all_in_at, known_with, known_there, eligible_in, all_in_on, all_in_by}
use Rattle.hand_audit.specs.declared.at_point.AtPoint.{AtPoint}
use Rattle.hand_verdict.specs.declared.verdicts.AllIn.TheVariants.{None as NoAllIn, Unknown}

map_twice : (f : ℕ → ℕ) (pots : List PotLine) → map (λ pot. f pot.eligible) pots ≡ map f (eligible_of pots)
map_twice f [] = refl
map_twice f (pot ∷ pots) = ap (λ ys. f pot.eligible ∷ ys) (map_twice f pots)

-- what the code puts together is what the point has
pub same_bare : (point : AtPoint) (pots : List PotLine) (b : Bare) → b.game ≡ point.game → b.count ≡ length (seats_in point.contenders) → b.hands ≡ ten [] (map (cards_or_none point.cards) (seats_in point.contenders)) → b.board ≡ point.board → b.dead ≡ point.dead
    → b.pots ≡ length pots → b.eligible ≡ ten 0 (map (λ pot. places_in (seats_in point.contenders) pot.eligible) pots) → b ≡ bare_of point (eligible_of pots)
unfolding bare_of
same_bare point pots b game count hands board dead number eligible =
    let n : b.pots ≡ length (eligible_of pots) = number ∙ sym (length-map pots (λ pot. pot.eligible)) in
    let e : b.eligible ≡ ten 0 (map (places_in (seats_in point.contenders)) (eligible_of pots)) = eligible ∙ ap (ten 0) (map_twice (places_in (seats_in point.contenders)) pots) in
    rw (game, count, hands, board, dead, n, e) refl

pub unknown_at : (point : AtPoint) (pots : List ℕ) → list_all (λ p. is_some (slice_index_or point.cards p None)) (seats_in point.contenders) ≡ false → Unknown ≡ all_in_at point pots
unfolding all_in_at
unknown_at point pots none = rw none refl

pub known_at : (point : AtPoint) (pots : List ℕ) → list_all (λ p. is_some (slice_index_or point.cards p None)) (seats_in point.contenders) ≡ true → known_with point.street (seats_in point.contenders) (table_from (bare_of point pots)) ≡ all_in_at point pots
unfolding all_in_at
known_at point pots all = rw all refl

pub all_in_point : (game : Game) (t : ReplayState) (street : Street) (lines : List PotLine) → point_street t.point ≡ Some street → eligible_of lines ≡ eligible_in (pots (paid_in t)) → all_in_at (known_there game t street) (eligible_of lines) ≡ all_in_by game t
unfolding all_in_by
all_in_point game t street lines is same = ap (all_in_at (known_there game t street)) same ∙ ap (all_in_on game t) (sym is)

pub no_point : (game : Game) (t : ReplayState) → point_street t.point ≡ None → NoAllIn ≡ all_in_by game t
unfolding all_in_by
no_point game t is = ap (all_in_on game t) (sym is)
