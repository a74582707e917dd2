use Rattle.std.proofs.Common.{◌≡◌, ℕ, zero, suc, ◌<◌, refl, Bool, arith, List, ap}
use Rattle.std.specs.Prelude.{Option, Some, None}
use Rattle.card_sets.specs.Cards.{union}
use Rattle.betting_replay.specs.declared.points.Point.{Point}
use Rattle.betting_replay.specs.Table.{own_at}
use Rattle.betting_replay.specs.TableAfter.{table_of, point}
use Rattle.betting_replay.specs.Places.{owned, thrown}
use Rattle.betting_replay.specs.AllIn.{had_folded, cards_of_seats, dead_by, dead_at}
use Rattle.betting_replay.proofs.lemmas.seats.SeatStates.{own_is}
use Rattle.betting_replay.proofs.laws.law_a_table_shows_dead_cards.Goals as goal

same_seats : (test : ℕ → Bool) (f g : ℕ → List ℕ) (n : ℕ) → ((p : ℕ) → p < n → f p ≡ g p) → cards_of_seats test f n ≡ cards_of_seats test g n
same_seats test f g zero h = refl
same_seats test f g (suc n) h =
    let rest : cards_of_seats test f n ≡ cards_of_seats test g n = same_seats test f g n (λ p l. h p (omega arith)) in
    let here : f n ≡ g n = h n (omega arith) in
    rw (rest, here) refl

same_dead : (players : ℕ) (found : Option Point) (f g : ℕ → List ℕ) (gone : List ℕ) → ((p : ℕ) → p < 11 → f p ≡ g p) → dead_by players found f gone ≡ dead_by players found g gone
same_dead players None f g gone h = refl
same_dead players (Some pt) f g gone h = ap (union gone) (same_seats (had_folded players pt) f g 11 h)

pub returns : goal.returns
unfolding dead_at
returns c header players h = same_dead players (point header players h) (own_at (table_of header players h)) (owned header.game h) (thrown h) (λ p small. own_is header players h (point header players h) p small)
