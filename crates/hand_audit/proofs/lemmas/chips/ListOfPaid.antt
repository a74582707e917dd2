-- The walk over the seats that lists what the players have put in.
use Rattle.std.proofs.Common.{◌≡◌, ℕ, ◌+◌, ◌-◌, ◌*◌, ◌^◌, ◌<◌, ◌≤◌, List, [], ◌∷◌, ◌++◌, sym, ap, ◌∙◌, true, false, arith, append_assoc}
use Rattle.std.proofs.lemmas.List.Sums.{sum_by_push}
use Rattle.card_sets.specs.PlayerSets.{has_player}
use Rattle.pot_layers.specs.declared.paid.Paid.{Paid}
use Rattle.pot_layers.specs.Pots.{put_in_all}
use Rattle.betting_replay.specs.Accounts.{paid_by}
use Rattle.betting_replay.specs.TableAfter.{ReplayState}
use Rattle.hand_audit.specs.Showings.{paid_from}
use Rattle.hand_audit.proofs.lemmas.chips.SumOfPaid.{next_none, next_some}

pub list_none : (t : ReplayState) (p : ℕ) (old all : List Paid) → has_player t.players p ≡ false → p < 11 → old ++ paid_from t p (11 - p) ≡ all → old ++ paid_from t (p + 1) (11 - (p + 1)) ≡ all
list_none t p old all none h so_far = ap (λ xs. old ++ xs) (sym (next_none t p none h)) ∙ so_far

pub list_some : (t : ReplayState) (p : ℕ) (old new all : List Paid) (paid : Paid) → has_player t.players p ≡ true → p < 11 → paid ≡ paid_by t p → new ≡ old ++ paid ∷ [] → old ++ paid_from t p (11 - p) ≡ all
    → new ++ paid_from t (p + 1) (11 - (p + 1)) ≡ all
list_some t p old new all paid some h is push so_far =
    let rest : List Paid = paid_from t (p + 1) (11 - (p + 1)) in
    ap (λ xs. xs ++ rest) push ∙ append_assoc old (paid ∷ []) rest ∙ ap (λ x. old ++ x ∷ rest) is ∙ ap (λ xs. old ++ xs) (sym (next_some t p some h)) ∙ so_far

pub room_more : (old new : List Paid) (paid : Paid) (n : ℕ) → new ≡ old ++ paid ∷ [] → put_in_all old ≤ n * 10 ^ 15 → paid.live + paid.dead < 10 ^ 15 → put_in_all new ≤ (n + 1) * 10 ^ 15
room_more old new paid n push room small =
    let sum : put_in_all new ≡ put_in_all old + (paid.live + paid.dead) = ap put_in_all push ∙ sum_by_push (λ (p : Paid). p.live + p.dead) old paid in
    omega (arith, sum, room, small)
