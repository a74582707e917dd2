-- What the players put in is what all seats put in, and what a seat has left.
use Rattle.std.proofs.Common.{◌≡◌, ℕ, zero, suc, ◌+◌, ◌<◌, ◌≤◌, List, ◌∷◌, refl, ap, Bool, true, false, arith}
use Rattle.std.specs.Prelude.{if◌then◌else◌}
use Rattle.std.proofs.lemmas.List.Sums.{sum_by-cons}
use Rattle.card_sets.specs.PlayerSets.{has_player}
use Rattle.hand_events.specs.declared.events.Header.{Header}
use Rattle.hand_events.specs.declared.events.Event.{Event}
use Rattle.pot_layers.specs.declared.paid.Paid.{Paid}
use Rattle.pot_layers.specs.Pots.{put_in_all}
use Rattle.betting_replay.specs.Accepted.{opening}
use Rattle.betting_replay.specs.Accounts.{paid_by}
use Rattle.betting_replay.specs.Sums.{paid, dead}
use Rattle.betting_replay.specs.TableAfter.{ReplayState, table_of}
use Rattle.hand_laws.specs.Chips.{sum_from, over_seats, closing, collected_at}
use Rattle.hand_audit.specs.Departs.{put_in_by}
use Rattle.hand_audit.specs.Showings.{paid_from, paid_in}
use Rattle.hand_audit.proofs.CallerLemmas.{paid_is}

-- what the players have put in is what all seats have, where the others have put in nothing
abbrev pub Idle : Header → ℕ → List Event → Type 0
Idle g players h = (p : ℕ) → p < 11 → has_player players p ≡ false → paid g h p + dead g h p ≡ 0

put_from : (g : Header) (players : ℕ) (h : List Event) → Idle g players h → (p n : ℕ) → p + n ≤ 11 → put_in_all (paid_from (table_of g players h) p n) ≡ sum_from (λ q. paid g h q + dead g h q) p n
put_from g players h others p zero l = refl
put_from g players h others p (suc n) l = by (has_player players p) refl (put_from g players h others (p + 1) n (omega arith))
  where
    t : ReplayState
    t = table_of g players h

    by : (b : Bool) → has_player players p ≡ b → put_in_all (paid_from t (p + 1) n) ≡ sum_from (λ q. paid g h q + dead g h q) (p + 1) n
        → put_in_all (if b then paid_by t p ∷ paid_from t (p + 1) n else paid_from t (p + 1) n) ≡ paid g h p + dead g h p + sum_from (λ q. paid g h q + dead g h q) (p + 1) n
    by true e ih =
        let is = paid_is g players h p (omega arith) in
        let here : (paid_by t p).live + (paid_by t p).dead ≡ paid g h p + dead g h p = ap (λ x. x.live + x.dead) is in
        omega (arith, ih, here, sum_by-cons (λ (x : Paid). x.live + x.dead) (paid_by t p) (paid_from t (p + 1) n))
    by false e ih = let none = others p (omega arith) e in omega (arith, ih, none)

pub put_is_sum : (g : Header) (players : ℕ) (h : List Event) → Idle g players h → put_in_by g players h ≡ over_seats (λ p. paid g h p + dead g h p)
unfolding put_in_by paid_in
put_is_sum g players h others = put_from g players h others 1 10 (omega arith)

-- what is left and what was put in
pub closing_is : (g : Header) (h : List Event) (p : ℕ) → paid g h p + dead g h p ≤ opening h p → closing g h p + (paid g h p + dead g h p) ≡ opening h p + collected_at h p
closing_is g h p l = omega (arith, l)
