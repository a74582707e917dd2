-- Each pot has a player who may win it.
use Rattle.std.proofs.Common.{◌≡◌, ℕ, zero, suc, ◌+◌, ◌<◌, ◌≤◌, List, [], ◌∷◌, refl, ◌∙◌, Bool, true, false, ◌==◌, ◌&&◌, ◌||◌, length, arith}
use Rattle.std.specs.Prelude.{nat_le, nat_lt, slice_index_or, if◌then◌else◌}
use Rattle.std.specs.Int.{bit_at}
use Rattle.std.specs.List.{list_any}
use Rattle.card_sets.specs.PlayerSetLaws.{has_player-where}
use Rattle.card_sets.specs.PlayerSets.{has_player, seats_in}
use Rattle.betting_replay.specs.Accounts.{paid_by}
use Rattle.betting_replay.specs.Table.{ReplayState}
use Rattle.pot_layers.specs.declared.paid.Paid.{Paid}
use Rattle.pot_layers.specs.declared.paid.Pot.{Pot}
use Rattle.pot_layers.specs.Pots.{with_level, levels, reaches, reaching, pots_from, more_first, more_last, all_dead, above, highest, any_contender, or_one, pots}
use Rattle.hand_audit.specs.Showings.{paid_from, paid_in}
use Rattle.hand_audit.proofs.CallerLemmas.{among_seats}

-- the players have seats of the table
abbrev pub AtTable : List Paid → Type 0
AtTable [] = Unit {0}
AtTable (p ∷ ps) = (1 ≤ p.seat) × (p.seat ≤ 10) × AtTable ps

-- a seat of the table reaches a level
record IsReached (ps : List Paid) (level : ℕ) : Type 0 where
  seat : ℕ
  low : 1 ≤ seat
  high : seat ≤ 10
  on : reaches ps level seat ≡ true

or_second : (a b : Bool) → b ≡ true → (a || b) ≡ true
or_second true b e = refl
or_second false b e = e

-- also beside another player
still : (p : Paid) (ps : List Paid) (level : ℕ) → IsReached ps level → IsReached (p ∷ ps) level
still p ps level r = record { seat = r.seat; low = r.low; high = r.high; on = or_second ((p.seat == r.seat) && p.contender && nat_le level p.live) (reaches ps level r.seat) r.on }

own : (p : Paid) (ps : List Paid) (level : ℕ) → 1 ≤ p.seat → p.seat ≤ 10 → p.contender ≡ true → level ≤ p.live → IsReached (p ∷ ps) level
own p ps level low high is l =
    let same : (p.seat == p.seat) ≡ true = grind arith in
    let up : nat_le level p.live ≡ true = grind arith in
    record { seat = p.seat; low = low; high = high; on = rw (same, is, up) refl }

abbrev AreReached : List Paid → List ℕ → Type 0
AreReached ps [] = Unit {0}
AreReached ps (level ∷ levels) = IsReached ps level × AreReached ps levels

still_all : (p : Paid) (ps : List Paid) (ls : List ℕ) → AreReached ps ls → AreReached (p ∷ ps) ls
still_all p ps [] r = tt
still_all p ps (l ∷ ls) r = (still p ps l r.0, still_all p ps ls r.1)

with_reached : (ps : List Paid) (x : ℕ) (ls : List ℕ) → IsReached ps x → AreReached ps ls → AreReached ps (with_level x ls)
with_reached ps x [] r rs = (r, tt)
with_reached ps x (y ∷ ys) r rs = by (nat_lt x y) (x == y) (with_reached ps x ys r rs.1)
  where
    by : (a b : Bool) → AreReached ps (with_level x ys) → AreReached ps (if a then x ∷ y ∷ ys else (if b then y ∷ ys else y ∷ with_level x ys))
    by true b rest = (r, rs)
    by false true rest = rs
    by false false rest = (rs.0, rest)

reached : (ps : List Paid) → AtTable ps → AreReached ps (levels ps)
reached [] t = tt
reached (p ∷ ps) t = by p.contender (nat_lt 0 p.live) refl (still_all p ps (levels ps) (reached ps t.2))
  where
    by : (a b : Bool) → p.contender ≡ a → AreReached (p ∷ ps) (levels ps) → AreReached (p ∷ ps) (if a && b then with_level p.live (levels ps) else levels ps)
    by true true e rest = with_reached (p ∷ ps) p.live (levels ps) (own p ps p.live t.0 t.1 e (omega arith)) rest
    by true false e rest = rest
    by false b e rest = rest

anybody : (ps : List Paid) → AtTable ps → any_contender ps ≡ true → IsReached ps 0
anybody [] t some = cc
anybody (p ∷ ps) t some = by p.contender refl some (λ rest. still p ps 0 (anybody ps t.2 rest))
  where
    by : (a : Bool) → p.contender ≡ a → (a || any_contender ps) ≡ true → (any_contender ps ≡ true → IsReached (p ∷ ps) 0) → IsReached (p ∷ ps) 0
    by true e h later = own p ps 0 t.0 t.1 e (omega arith)
    by false e h later = later h

-- so its pot has a seat
abbrev pub IsOpen : ℕ → Type 0
IsOpen eligible = 1 ≤ length (seats_in eligible)

some_seat : (xs : List ℕ) (p : ℕ) → list_any (λ q. q == p) xs ≡ true → 1 ≤ length xs
some_seat [] p h = cc
some_seat (x ∷ xs) p h = omega arith

open_at : (ps : List Paid) (level : ℕ) → IsReached ps level → IsOpen (reaching ps level)
open_at ps level r =
    let low = r.low in
    let high = r.high in
    let l : r.seat < 11 = omega (arith, high) in
    let bit : (bit_at (reaching ps level) r.seat == 1) ≡ true = has_player-where (reaches ps level) 11 r.seat l ∙ r.on in
    let above : nat_lt 0 r.seat ≡ true = (let m : 0 < r.seat = omega (arith, low) in grind arith) in
    some_seat (seats_in (reaching ps level)) r.seat (among_seats (reaching ps level) r.seat l ∙ rw (above, bit) refl)

abbrev pub AreOpen : List Pot → Type 0
AreOpen [] = Unit {0}
AreOpen (pot ∷ all) = IsOpen pot.eligible × AreOpen all

open_from : (ps : List Paid) (low : ℕ) (ls : List ℕ) → AreReached ps ls → AreOpen (pots_from ps low ls)
open_from ps low [] r = tt
open_from ps low (l ∷ ls) r = (open_at ps l r.0, open_from ps l ls r.1)

open_one : (ps : List Paid) (all : List Pot) → AtTable ps → AreOpen all → AreOpen (or_one ps all)
open_one ps [] t open_all = by (any_contender ps) refl
  where
    by : (b : Bool) → any_contender ps ≡ b → AreOpen (if b then record { units = 0; eligible = reaching ps 0 } ∷ [] else [])
    by true e = (open_at ps 0 (anybody ps t e), tt)
    by false e = tt
open_one ps (pot ∷ all) t open_all = open_all

open_last : (units : ℕ) (all : List Pot) → AreOpen all → AreOpen (more_last units all)
open_last units [] o = tt
open_last units (pot ∷ []) o = (o.0, tt)
open_last units (pot ∷ next ∷ all) o = (o.0, open_last units (next ∷ all) o.1)

open_first : (units : ℕ) (all : List Pot) → AreOpen all → AreOpen (more_first units all)
open_first units [] o = tt
open_first units (pot ∷ all) o = (o.0, o.1)

open_pots : (ps : List Paid) → AtTable ps → AreOpen (pots ps)
unfolding pots
open_pots ps t = open_first (all_dead ps) _ (open_last (above ps (highest ps)) _ (open_one ps (pots_from ps 0 (levels ps)) t (open_from ps 0 (levels ps) (reached ps t))))

at_table : (t : ReplayState) (p n : ℕ) → 1 ≤ p → p + n ≤ 11 → AtTable (paid_from t p n)
unfolding paid_by
at_table t p zero l h = tt
at_table t p (suc n) l h = by (has_player t.players p) (at_table t (p + 1) n (omega arith) (omega arith))
  where
    by : (b : Bool) → AtTable (paid_from t (p + 1) n) → AtTable (if b then paid_by t p ∷ paid_from t (p + 1) n else paid_from t (p + 1) n)
    by true rest = (l, omega arith, rest)
    by false rest = rest

pub pots_open : (t : ReplayState) → AreOpen (pots (paid_in t))
unfolding paid_in
pots_open t = open_pots (paid_from t 1 10) (at_table t 1 10 (omega arith) (omega arith))

pub open_in : (all : List Pot) (i : ℕ) (d : Pot) → AreOpen all → i < length all → IsOpen (slice_index_or all i d).eligible
open_in [] i d o l = absurd (omega arith)
open_in (pot ∷ all) zero d o l = o.0
open_in (pot ∷ all) (suc i) d o l = open_in all i d o.1 (omega (arith, l))
