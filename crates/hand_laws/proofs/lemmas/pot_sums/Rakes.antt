-- What was collected from the pots, and that their rakes add up to the stated one.
use Rattle.std.proofs.Common.{◌≡◌, ℕ, zero, suc, ◌+◌, ◌-◌, ◌<◌, ◌≤◌, List, [], ◌∷◌, refl, ap, ◌∙◌, Bool, true, false, ◌==◌, ◌&&◌, ◌||◌, length, arith}
use Rattle.std.specs.Prelude.{nat_le, nat_lt, sum_by, is_some, slice_index_or, Option, Some, None, if◌then◌else◌}
use Rattle.std.specs.List.{list_all}
use Rattle.std.proofs.lemmas.List.Sums.{sum_by-cons}
use Rattle.hand_events.specs.declared.events.PotName.{PotName}
use Rattle.hand_events.specs.declared.events.PotName.TheVariants.{Only, Main, Side, SideNumber}
use Rattle.pot_layers.specs.declared.paid.Paid.{Paid}
use Rattle.pot_layers.specs.declared.paid.Pot.{Pot}
use Rattle.pot_layers.specs.Pots.{pots, held, levels, with_level, is_in, any_contender, or_one, pots_from, more_first, more_last, above, highest, all_dead, put_in_all}
use Rattle.pot_layers.proofs.CallerLemmas.{pots_hold_all}
use Rattle.betting_replay.specs.Places.{is_at}
use Rattle.hand_audit.specs.declared.collections.Collection.{Collection}
use Rattle.hand_verdict.specs.declared.settlement.PotLine.{PotLine}
use Rattle.hand_audit.specs.declared.pot_names.Source.TheVariants.{Numbered}
use Rattle.hand_audit.specs.Collections.{taken, taken_from, any_from}
use Rattle.hand_audit.specs.PotNames.{pot_named, names_pot, each_taken, fits}
use Rattle.hand_audit.specs.Settle.{Showing, net_of, pot_line, pot_lines}

-- a name is for one of the pots that there are
named_within : (count : ℕ) (pot : PotName) (k : ℕ) → pot_named count pot ≡ Some k → k < count
unfolding pot_named
named_within count Only k is = by (count == 1) refl is
  where
    by : (b : Bool) → (count == 1) ≡ b → (if b then Some 0 else None) ≡ Some k → k < count
    by true e h = let one : count ≡ 1 = grind arith in let none : 0 ≡ k = cc in omega (arith, one, none)
    by false e h = cc
named_within count Main k is = by (nat_le 2 count) refl is
  where
    by : (b : Bool) → nat_le 2 count ≡ b → (if b then Some 0 else None) ≡ Some k → k < count
    by true e h = let two : 2 ≤ count = grind arith in let none : 0 ≡ k = cc in omega (arith, two, none)
    by false e h = cc
named_within count Side k is = by (count == 2) refl is
  where
    by : (b : Bool) → (count == 2) ≡ b → (if b then Some 1 else None) ≡ Some k → k < count
    by true e h = let two : count ≡ 2 = grind arith in let one : 1 ≡ k = cc in omega (arith, two, one)
    by false e h = cc
named_within count (SideNumber n) k is = by (nat_le 3 count) (nat_le 1 n) (nat_lt n count) refl is
  where
    by : (a b c : Bool) → nat_lt n count ≡ c → (if a && b && c then Some n else None) ≡ Some k → k < count
    by true true true e h = let l : n < count = grind arith in let same : n ≡ k = cc in omega (arith, l, same)
    by true true false e h = cc
    by true false c e h = cc
    by false b c e h = cc

-- what was collected from the pots numbered from one on, of so many
abbrev pub taken_by : ℕ → ℕ → ℕ → List Collection → ℕ
taken_by count k zero all = 0
taken_by count k (suc n) all = taken_from (names_pot count k) all + taken_by count (k + 1) n all

-- a collection counts for one pot, if that is among them
abbrev counted_by : ℕ → Option ℕ → ℕ → ℕ → ℕ
counted_by units place k zero = 0
counted_by units place k (suc n) = (if is_at k place then units else 0) + counted_by units place (k + 1) n

one_more : (count k n : ℕ) (c : Collection) (all : List Collection) → taken_by count k n (c ∷ all) ≡ counted_by c.units (pot_named count c.pot) k n + taken_by count k n all
one_more count k zero c all = refl
one_more count k (suc n) c all =
    let here = sum_by-cons (λ (d : Collection). if names_pot count k d.pot then d.units else 0) c all in
    let rest : taken_by count (k + 1) n (c ∷ all) ≡ counted_by c.units (pot_named count c.pot) (k + 1) n + taken_by count (k + 1) n all = one_more count (k + 1) n c all in
    omega (arith, here, rest)

counted_past : (units j k n : ℕ) → j < k → counted_by units (Some j) k n ≡ 0
counted_past units j k zero l = refl
counted_past units j k (suc n) l =
    let other : is_at k (Some j) ≡ false = grind arith in
    let rest : counted_by units (Some j) (k + 1) n ≡ 0 = counted_past units j (k + 1) n (omega (arith, l)) in
    rw other (omega (arith, rest))

counted_once : (units j k n : ℕ) → k ≤ j → j < k + n → counted_by units (Some j) k n ≡ units
counted_once units j k zero l h = absurd (omega arith)
counted_once units j k (suc n) l h = by (is_at k (Some j)) refl (λ far. counted_once units j (k + 1) n far (omega (arith, h)))
  where
    by : (b : Bool) → is_at k (Some j) ≡ b → (k + 1 ≤ j → counted_by units (Some j) (k + 1) n ≡ units) → (if b then units else 0) + counted_by units (Some j) (k + 1) n ≡ units
    by true e later = let same : k ≡ j = grind arith in let rest = counted_past units j (k + 1) n (omega (arith, same)) in omega (arith, rest)
    by false e later = let far : k + 1 ≤ j = grind arith in let rest = later far in omega (arith, rest)

nothing_taken : (count k n : ℕ) → taken_by count k n [] ≡ 0
nothing_taken count k zero = refl
nothing_taken count k (suc n) = let rest : taken_by count (k + 1) n [] ≡ 0 = nothing_taken count (k + 1) n in omega (arith, rest)

-- where each collection names a pot, what was collected from all pots is all that was collected
pub taken_in_all : (count : ℕ) (all : List Collection) → list_all (λ c. is_some (pot_named count c.pot)) all ≡ true → taken_by count 0 count all ≡ taken all
taken_in_all count [] named = nothing_taken count 0 count
taken_in_all count (c ∷ all) named = by (pot_named count c.pot) refl named (λ rest. taken_in_all count all rest)
  where
    by : (place : Option ℕ) → pot_named count c.pot ≡ place → (is_some place && list_all (λ c. is_some (pot_named count c.pot)) all) ≡ true
        → (list_all (λ c. is_some (pot_named count c.pot)) all ≡ true → taken_by count 0 count all ≡ taken all) → taken_by count 0 count (c ∷ all) ≡ taken (c ∷ all)
    by None e none later = cc
    by (Some j) e rest later =
        let more = one_more count 0 count c all in
        let once : counted_by c.units (pot_named count c.pot) 0 count ≡ c.units = ap (λ o. counted_by c.units o 0 count) e ∙ counted_once c.units j 0 count (omega arith) (let l = named_within count c.pot j e in omega (arith, l)) in
        omega (arith, more, once, later rest, sum_by-cons (λ (d : Collection). d.units) c all)

-- no more was collected from a pot than it holds; the rest are the rakes
first_two : (a b c : Bool) → (a && b && c) ≡ true → (b ≡ true) × (c ≡ true)
first_two true true c h = (refl, h)
first_two true false c h = cc
first_two false b c h = cc

rakes_of : (s : Showing) (count k : ℕ) (all : List Pot) → each_taken count k all s.collections ≡ true → sum_by (λ (line : PotLine). line.rake) (pot_lines s count k all) + taken_by count k (length all) s.collections ≡ held all
rakes_of s count k [] each = refl
rakes_of s count k (pot ∷ all) each =
    let both = first_two (any_from (names_pot count k) s.collections) (nat_le (taken_from (names_pot count k) s.collections) pot.units) (each_taken count (k + 1) all s.collections) each in
    let few : taken_from (names_pot count k) s.collections ≤ pot.units = (let h = both.0 in grind arith) in
    let rest = rakes_of s count (k + 1) all both.1 in
    omega (arith, few, rest, sum_by-cons (λ (line : PotLine). line.rake) (pot_line s (Numbered count k) pot) (pot_lines s count (k + 1) all), sum_by-cons (λ (p : Pot). p.units) pot all)

-- a hand with a pot has a contender
no_levels : (ps : List Paid) → any_contender ps ≡ false → levels ps ≡ []
no_levels [] none = refl
no_levels (p ∷ ps) none = by p.contender (any_contender ps) refl refl none (no_levels ps)
  where
    by : (a b : Bool) → p.contender ≡ a → any_contender ps ≡ b → (a || b) ≡ false → (any_contender ps ≡ false → levels ps ≡ []) → levels (p ∷ ps) ≡ []
    by true b ea eb h rest = cc
    by false true ea eb h rest = cc
    by false false ea eb h rest =
        let out : is_in p ≡ false = ap (λ x. x && nat_lt 0 p.live) ea in
        ap (λ x. if x then with_level p.live (levels ps) else levels ps) out ∙ rest eb

no_pots : (ps : List Paid) → any_contender ps ≡ false → pots ps ≡ []
unfolding pots
no_pots ps none =
    let empty : or_one ps (pots_from ps 0 (levels ps)) ≡ [] = ap (λ ls. or_one ps (pots_from ps 0 ls)) (no_levels ps none) ∙ rw none refl in
    ap (λ xs. more_first (all_dead ps) (more_last (above ps (highest ps)) xs)) empty

pub contender_of : (ps : List Paid) → 0 < length (pots ps) → any_contender ps ≡ true
contender_of ps some = by (any_contender ps) refl
  where
    by : (b : Bool) → any_contender ps ≡ b → b ≡ true
    by true e = refl
    by false e = let none : length (pots ps) ≡ 0 = ap length (no_pots ps e) in absurd (omega (arith, some, none))

pub both_true : (a b : Bool) → (a && b) ≡ true → (a ≡ true) × (b ≡ true)
both_true true true h = (refl, refl)
both_true true false h = cc
both_true false b h = cc

-- so the rakes of pots whose names fit add up to the stated one
pub rakes_add_up : (s : Showing) (stated : ℕ) → fits (pots s.paid) s.collections ≡ true → put_in_all s.paid ≡ taken s.collections + stated → 0 < length (pots s.paid)
    → sum_by (λ (line : PotLine). line.rake) (pot_lines s (length (pots s.paid)) 0 (pots s.paid)) ≡ stated
unfolding fits
rakes_add_up s stated fit put some =
    let all = pots s.paid in
    let both = both_true (list_all (λ c. is_some (pot_named (length all) c.pot)) s.collections) (each_taken (length all) 0 all s.collections) fit in
    let rest = rakes_of s (length all) 0 all both.1 in
    let taken_all = taken_in_all (length all) s.collections both.0 in
    let whole = pots_hold_all s.paid (contender_of s.paid some) in
    omega (arith, rest, taken_all, whole, put)

-- and of each pot the rest is what was collected
rest_of : (units net : ℕ) → nat_le net units ≡ true → net + (units - net) ≡ units
rest_of units net h = let l : net ≤ units = grind arith in omega (arith, l)

pub net_within : (s : Showing) (count k : ℕ) (all : List Pot) (i : ℕ) (d : Pot) → each_taken count k all s.collections ≡ true → i < length all
    → net_of s (Numbered count (k + i)) + ((slice_index_or all i d).units - net_of s (Numbered count (k + i))) ≡ (slice_index_or all i d).units
net_within s count k [] i d each l = absurd (omega arith)
net_within s count k (pot ∷ all) zero d each l =
    let both = first_two (any_from (names_pot count k) s.collections) (nat_le (taken_from (names_pot count k) s.collections) pot.units) (each_taken count (k + 1) all s.collections) each in
    let same : k + 0 ≡ k = omega arith in
    ap (λ n. net_of s (Numbered count n) + (pot.units - net_of s (Numbered count n))) same ∙ rest_of pot.units (net_of s (Numbered count k)) both.0
net_within s count k (pot ∷ all) (suc i) d each l =
    let both = first_two (any_from (names_pot count k) s.collections) (nat_le (taken_from (names_pot count k) s.collections) pot.units) (each_taken count (k + 1) all s.collections) each in
    let same : k + suc i ≡ (k + 1) + i = omega arith in
    ap (λ n. net_of s (Numbered count n) + ((slice_index_or all i d).units - net_of s (Numbered count n))) same ∙ net_within s count (k + 1) all i d both.1 (omega (arith, l))
