-- The walk over the seats that sums what the players have put in.
use Rattle.std.proofs.Common.{◌≡◌, ℕ, suc, ◌+◌, ◌-◌, ◌<◌, ◌∷◌, refl, sym, ap, ◌∙◌, true, false, arith}
use Rattle.std.proofs.lemmas.List.Sums.{sum_by-cons}
use Rattle.card_sets.specs.PlayerSets.{has_player}
use Rattle.pot_layers.specs.declared.paid.Paid.{Paid}
use Rattle.pot_layers.specs.Pots.{put_in_all}
use Rattle.betting_replay.specs.Accounts.{paid_by}
use Rattle.betting_replay.specs.TableAfter.{ReplayState}
use Rattle.hand_audit.specs.Showings.{paid_from}

pub next_none : (t : ReplayState) (p : ℕ) → has_player t.players p ≡ false → p < 11 → paid_from t p (11 - p) ≡ paid_from t (p + 1) (11 - (p + 1))
next_none t p none h = let more : 11 - p ≡ suc (11 - (p + 1)) = omega arith in rw (more, none) refl

pub next_some : (t : ReplayState) (p : ℕ) → has_player t.players p ≡ true → p < 11 → paid_from t p (11 - p) ≡ paid_by t p ∷ paid_from t (p + 1) (11 - (p + 1))
next_some t p some h = let more : 11 - p ≡ suc (11 - (p + 1)) = omega arith in rw (more, some) refl

pub sum_none : (t : ReplayState) (p units all : ℕ) → has_player t.players p ≡ false → p < 11 → units + put_in_all (paid_from t p (11 - p)) ≡ all → units + put_in_all (paid_from t (p + 1) (11 - (p + 1))) ≡ all
sum_none t p units all none h so_far = ap (λ xs. units + put_in_all xs) (sym (next_none t p none h)) ∙ so_far

pub sum_some : (t : ReplayState) (p units all : ℕ) (paid : Paid) → has_player t.players p ≡ true → p < 11 → paid ≡ paid_by t p → units + put_in_all (paid_from t p (11 - p)) ≡ all
    → units + (paid.live + paid.dead) + put_in_all (paid_from t (p + 1) (11 - (p + 1))) ≡ all
sum_some t p units all paid some h is so_far =
    let here : (paid_by t p).live + (paid_by t p).dead ≡ paid.live + paid.dead = ap (λ x. x.live + x.dead) (sym is) in
    let next : put_in_all (paid_from t p (11 - p)) ≡ put_in_all (paid_by t p ∷ paid_from t (p + 1) (11 - (p + 1))) = ap put_in_all (next_some t p some h) in
    omega (arith, so_far, next, here, sum_by-cons (λ (x : Paid). x.live + x.dead) (paid_by t p) (paid_from t (p + 1) (11 - (p + 1))))
