-- No two pots are for the same players: at each level a contender stops.
use Rattle.std.proofs.Common.{◌≡◌, ℕ, ◌<◌, ◌≤◌, List, [], ◌∷◌, refl, sym, ap, ◌∙◌, Bool, true, false, ◌==◌, ◌&&◌, ◌||◌, arith, subst}
use Rattle.std.specs.Prelude.{if◌then◌else◌, nat_lt, nat_le}
use Rattle.card_sets.specs.PlayerSets.{has_player}
use Rattle.std.proofs.lemmas.Bool.Decides.{nat_tests}
use Rattle.pot_layers.specs.declared.paid.Paid.{Paid}
use Rattle.pot_layers.specs.declared.paid.Pot.{Pot}
use Rattle.hand_laws.specs.Different.{seats_of, players_of}
use Rattle.pot_layers.specs.Pots.{with_level, levels, reaches, reaching, pots_from, pots, or_one, more_first, more_last, all_dead, above, highest, any_contender}
use Rattle.pot_layers.specs.Split.{is_among, Differ, InRange}
use Rattle.pot_layers.proofs.CallerLemmas.{eligible, RisesAbove, levels_rise}

-- a contender has paid up to a level and no further
record Stops (ps : List Paid) (level : ℕ) : Type 0 where
  pub seat : ℕ
  pub few : seat < 11
  pub here : reaches ps level seat ≡ true
  pub beyond : (high : ℕ) → level < high → reaches ps high seat ≡ false

-- a seat of none of some players reaches nothing
nobody : (ps : List Paid) (level seat : ℕ) → is_among seat (seats_of ps) ≡ false → reaches ps level seat ≡ false
nobody [] level seat none = refl
nobody (p ∷ ps) level seat none = by (p.seat == seat) p.contender (nat_le level p.live) (is_among seat (seats_of ps)) (reaches ps level seat) none (nobody ps level seat)
  where
    by : (s c l a r : Bool) → (s || a) ≡ false → (a ≡ false → r ≡ false) → ((s && c && l) || r) ≡ false
    by true c l a r none go = cc
    by false c l a r none go = go none

-- whoever reaches a level is among the players
somebody : (ps : List Paid) (level seat : ℕ) → reaches ps level seat ≡ true → is_among seat (seats_of ps) ≡ true
somebody ps level seat here = by (is_among seat (seats_of ps)) refl
  where
    by : (a : Bool) → is_among seat (seats_of ps) ≡ a → a ≡ true
    by true e = refl
    by false e = (let none : reaches ps level seat ≡ false = nobody ps level seat e in cc)

-- one player more, of another seat
others : (p : Paid) (ps : List Paid) (level seat : ℕ) → (p.seat == seat) ≡ false → reaches (p ∷ ps) level seat ≡ reaches ps level seat
others p ps level seat other = rw other refl

-- the player of a seat that no other has
own : (p : Paid) (ps : List Paid) (level : ℕ) → is_among p.seat (seats_of ps) ≡ false → p.contender ≡ true → reaches (p ∷ ps) level p.seat ≡ nat_le level p.live
own p ps level none in_it = (let same : (p.seat == p.seat) ≡ true = grind arith in let rest : reaches ps level p.seat ≡ false = nobody ps level p.seat none in rw (same, in_it, rest) (by (nat_le level p.live)))
  where
    by : (b : Bool) → (b || false) ≡ b
    by true = refl
    by false = refl

stops_more : (p : Paid) (ps : List Paid) (level : ℕ) → is_among p.seat (seats_of ps) ≡ false → Stops ps level → Stops (p ∷ ps) level
stops_more p ps level differ s =
    let other : (p.seat == s.seat) ≡ false = by (p.seat == s.seat) refl in
    record {
      seat = s.seat;
      few = s.few;
      here = others p ps level s.seat other ∙ s.here;
      beyond = λ high more. others p ps high s.seat other ∙ s.beyond high more;
    }
  where
    by : (b : Bool) → (p.seat == s.seat) ≡ b → b ≡ false
    by true e = (let is : p.seat ≡ s.seat = grind arith in let among : is_among s.seat (seats_of ps) ≡ true = somebody ps level s.seat s.here in let none : is_among s.seat (seats_of ps) ≡ false = ap (λ q. is_among q (seats_of ps)) (sym is) ∙ differ in cc)
    by false e = refl

stops_here : (p : Paid) (ps : List Paid) → p.seat ≤ 10 → is_among p.seat (seats_of ps) ≡ false → p.contender ≡ true → Stops (p ∷ ps) p.live
stops_here p ps few differ in_it = record {
  seat = p.seat;
  few = omega (arith, few);
  here = own p ps p.live differ in_it ∙ (let here : nat_le p.live p.live ≡ true = grind (arith, nat_tests) in here);
  beyond = λ high more. own p ps high differ in_it ∙ (let over : nat_le high p.live ≡ false = grind (arith, nat_tests) in over);
}

-- a level of some with one more is that one or one of them
among_with : (x y : ℕ) (ls : List ℕ) → is_among y (with_level x ls) ≡ true → (x == y) ≡ false → is_among y ls ≡ true
among_with x y [] h other = (let none : is_among y (x ∷ []) ≡ false = rw other refl in cc)
among_with x y (z ∷ zs) h other = by (nat_lt x z) (x == z) h (among_with x y zs)
  where
    by : (a b : Bool) → is_among y (if a then x ∷ z ∷ zs else (if b then z ∷ zs else z ∷ with_level x zs)) ≡ true → (is_among y (with_level x zs) ≡ true → (x == y) ≡ false → is_among y zs ≡ true) → is_among y (z ∷ zs) ≡ true
    by true b h go = (let less : is_among y (x ∷ z ∷ zs) ≡ is_among y (z ∷ zs) = rw other refl in sym less ∙ h)
    by false true h go = h
    by false false h go = either (z == y) h go
      where
        either : (c : Bool) → (c || is_among y (with_level x zs)) ≡ true → (is_among y (with_level x zs) ≡ true → (x == y) ≡ false → is_among y zs ≡ true) → (c || is_among y zs) ≡ true
        either true h go = refl
        either false h go = go h other

-- at each level a contender stops
stops_at : (ps : List Paid) → InRange (seats_of ps) → Differ (seats_of ps) → (level : ℕ) → is_among level (levels ps) ≡ true → Stops ps level
stops_at [] range differ level h = cc
stops_at (p ∷ ps) range differ level h = by p.contender refl (nat_lt 0 p.live) h (stops_at ps range.2 differ.1 level)
  where
    by : (c : Bool) → p.contender ≡ c → (z : Bool) → is_among level (if c && z then with_level p.live (levels ps) else levels ps) ≡ true → (is_among level (levels ps) ≡ true → Stops ps level) → Stops (p ∷ ps) level
    by true in_it true h go = here (p.live == level) refl
      where
        here : (b : Bool) → (p.live == level) ≡ b → Stops (p ∷ ps) level
        here true e = (let is : p.live ≡ level = grind arith in subst (Stops (p ∷ ps)) is (stops_here p ps range.1 differ.0 in_it))
        here false e = stops_more p ps level differ.0 (go (among_with p.live level (levels ps) h e))
    by true in_it false h go = stops_more p ps level differ.0 (go h)
    by false in_it z h go = stops_more p ps level differ.0 (go h)

equal : (a b : ℕ) → (a == b) ≡ true → a ≡ b
equal a b e = grind arith

-- so a pot and a later one have different players
apart_from : (ps : List Paid) (low high : ℕ) → Stops ps low → low < high → (reaching ps low == reaching ps high) ≡ false
apart_from ps low high s over = by (reaching ps low == reaching ps high) refl
  where
    by : (b : Bool) → (reaching ps low == reaching ps high) ≡ b → b ≡ false
    by true e =
        (let is : reaching ps low ≡ reaching ps high = equal _ _ e in
        let first : has_player (reaching ps low) s.seat ≡ true = eligible ps low s.seat s.few ∙ s.here in
        let later : has_player (reaching ps high) s.seat ≡ false = eligible ps high s.seat s.few ∙ s.beyond high over in
        let same : has_player (reaching ps low) s.seat ≡ has_player (reaching ps high) s.seat = ap (λ w. has_player w s.seat) is in cc)
    by false e = refl

none_later : (ps : List Paid) (low : ℕ) (ls : List ℕ) (under : ℕ) → Stops ps low → low ≤ under → RisesAbove under ls → is_among (reaching ps low) (players_of (pots_from ps under ls)) ≡ false
none_later ps low [] under s below rises = refl
none_later ps low (level ∷ ls) under s below rises =
    let over : low < level = (let h : under < level = rises.0 in omega (arith, h, below)) in
    let here : (reaching ps level == reaching ps low) ≡ false = turned (reaching ps low) (reaching ps level) (apart_from ps low level s over) in
    let rest : is_among (reaching ps low) (players_of (pots_from ps level ls)) ≡ false = none_later ps low ls level s (omega (arith, over)) rises.1 in
    rw (here, rest) refl
  where
    turned : (a b : ℕ) → (a == b) ≡ false → (b == a) ≡ false
    turned a b e = grind arith

differ_from : (ps : List Paid) (under : ℕ) (ls : List ℕ) → ((level : ℕ) → is_among level ls ≡ true → Stops ps level) → RisesAbove under ls → Differ (players_of (pots_from ps under ls))
differ_from ps under [] stops rises = tt
differ_from ps under (level ∷ ls) stops rises = (
  none_later ps level ls level (stops level (let same : (level == level) ≡ true = grind arith in rw same refl)) (omega arith) rises.1,
  differ_from ps level ls (λ l h. stops l (later (level == l) (is_among l ls) h)) rises.1,
)
  where
    later : (a b : Bool) → b ≡ true → (a || b) ≡ true
    later true b h = refl
    later false b h = h

-- more units change nobody
first_same : (units : ℕ) (all : List Pot) → players_of (more_first units all) ≡ players_of all
first_same units [] = refl
first_same units (pot ∷ all) = refl

last_same : (units : ℕ) (all : List Pot) → players_of (more_last units all) ≡ players_of all
last_same units [] = refl
last_same units (pot ∷ []) = refl
last_same units (pot ∷ next ∷ all) = ap (λ xs. pot.eligible ∷ xs) (last_same units (next ∷ all))

one_differs : (ps : List Paid) (all : List Pot) → Differ (players_of all) → Differ (players_of (or_one ps all))
one_differs ps [] h = by (any_contender ps)
  where
    by : (b : Bool) → Differ (players_of (if b then record { units = 0; eligible = reaching ps 0 } ∷ [] else []))
    by true = (refl, tt)
    by false = tt
one_differs ps (pot ∷ all) h = h

pub pots_differ : (ps : List Paid) → InRange (seats_of ps) → Differ (seats_of ps) → Differ (players_of (pots ps))
unfolding pots
pots_differ ps range differ =
    let made : List Pot = or_one ps (pots_from ps 0 (levels ps)) in
    let last : List Pot = more_last (above ps (highest ps)) made in
    let same : players_of (more_first (all_dead ps) last) ≡ players_of made = first_same (all_dead ps) last ∙ last_same (above ps (highest ps)) made in
    subst Differ (sym same) (one_differs ps (pots_from ps 0 (levels ps)) (differ_from ps 0 (levels ps) (stops_at ps range differ) (levels_rise ps)))
