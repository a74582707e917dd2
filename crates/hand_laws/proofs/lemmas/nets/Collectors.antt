-- Who isn't a player collects nothing, so sums over the players are sums over all seats.
use Rattle.std.proofs.Common.{◌≡◌, ℕ, zero, suc, ◌+◌, ◌<◌, ◌≤◌, List, [], ◌∷◌, refl, sym, ap, ◌∙◌, Bool, true, false, ◌==◌, ◌||◌, not, arith}
use Rattle.std.specs.Prelude.{None, sum_by, if◌then◌else◌}
use Rattle.std.proofs.lemmas.List.Sums.{sum_by-append, sum_by-cons}
use Rattle.card_sets.specs.PlayerSets.{has_player, players_from, seats_in}
use Rattle.hand_events.specs.declared.events.Header.{Header}
use Rattle.hand_events.specs.declared.events.Event.{Event}
use Rattle.hand_events.specs.declared.events.Event.TheVariants.{Collect}
use Rattle.hand_events.specs.declared.faults.BetFault.TheVariants.{NotInHand}
use Rattle.betting_replay.specs.Accepted.{IsAccepted}
use Rattle.betting_replay.specs.Faults.{not_in_hand}
use Rattle.betting_replay.specs.TableAfter.{ReplayState, acts_at, table_of}
use Rattle.betting_replay.proofs.CallerLemmas.{not_failed, passed}
use Rattle.hand_audit.specs.declared.collections.Collection.{Collection}
use Rattle.hand_laws.specs.Chips.{collected_at, over_seats, sum_from}
use Rattle.hand_audit.specs.Collections.{collected_by, collections, got_from}

second_false : (a b : Bool) → (a || not b) ≡ false → b ≡ true
second_false true b h = cc
second_false false true h = refl
second_false false false h = cc

-- who collects is a player
collector_plays : (t : ReplayState) (e : Event) (p : ℕ) → not_in_hand t e ≡ None → has_player t.players p ≡ false → got_from (λ pot. true) p (collected_by e) ≡ 0
unfolding not_in_hand
collector_plays t (Collect seat units pot) p none other =
    let plays : has_player t.players seat ≡ true = second_false (acts_at t seat).folded (has_player t.players seat) (not_failed _ NotInHand none) in
    by (seat == p) refl plays
  where
    by : (b : Bool) → (seat == p) ≡ b → has_player t.players seat ≡ true → got_from (λ pot. true) p (record { seat = seat; units = units; pot = pot } ∷ []) ≡ 0
    by true e plays = let same : seat ≡ p = grind (arith, e) in let is : has_player t.players p ≡ true = ap (has_player t.players) (sym same) ∙ plays in cc
    by false e plays = rw e refl
collector_plays t _ p none other = refl

pub others_collect : (g : Header) (players : ℕ) (h : List Event) (p : ℕ) → IsAccepted g players h → has_player players p ≡ false → collected_at h p ≡ 0
others_collect g players [] p ok other = refl
others_collect g players (e ∷ h) p ok other =
    let split = sum_by-append (λ (c : Collection). if c.seat == p then c.units else 0) (collections h) (collected_by e) in
    let before : got_from (λ pot. true) p (collections h) ≡ 0 = others_collect g players h p ok.2 other in
    let here : got_from (λ pot. true) p (collected_by e) ≡ 0 = collector_plays (table_of g players h) e p (passed (table_of g players h) e ok.1).in_hand other in
    omega (arith, split, before, here)

-- a sum over the players is that over all seats of what is the same of each, and nothing of the others
players_sum : (f g : ℕ → ℕ) (players p n : ℕ) → p + n ≤ 11 → ((q : ℕ) → p ≤ q → q < 11 → f q ≡ g q) → ((q : ℕ) → p ≤ q → q < 11 → has_player players q ≡ false → g q ≡ 0)
    → sum_by f (players_from players p n) ≡ sum_from g p n
players_sum f g players p zero l same none = refl
players_sum f g players p (suc n) l same none =
    by (has_player players p) refl (players_sum f g players (p + 1) n (omega (arith, l)) (λ q low small. same q (omega (arith, low)) small) (λ q low small other. none q (omega (arith, low)) small other))
  where
    by : (b : Bool) → has_player players p ≡ b → sum_by f (players_from players (p + 1) n) ≡ sum_from g (p + 1) n → sum_by f (if b then p ∷ players_from players (p + 1) n else players_from players (p + 1) n) ≡ g p + sum_from g (p + 1) n
    by true e rest = let here = same p (omega arith) (omega (arith, l)) in omega (arith, sum_by-cons f p (players_from players (p + 1) n), rest, here)
    by false e rest = let nothing = none p (omega arith) (omega (arith, l)) e in omega (arith, nothing, rest)

pub over_players : (f g : ℕ → ℕ) (players : ℕ) → ((q : ℕ) → 1 ≤ q → q ≤ 10 → f q ≡ g q) → ((q : ℕ) → q < 11 → has_player players q ≡ false → g q ≡ 0) → sum_by f (seats_in players) ≡ over_seats g
over_players f g players same none = players_sum f g players 1 10 (omega arith) (λ q low small. same q low (omega (arith, small))) (λ q low small other. none q small other)
