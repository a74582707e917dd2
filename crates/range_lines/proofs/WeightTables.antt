-- A table of the weights of all hands: its hands as a list, and an item added to them.
use Rattle.std.proofs.Common.{◌≡◌, ℕ, ◌+◌, ◌*◌, ◌<◌, ◌≤◌, Bool, true, false, cond, ◌==◌, ◌&&◌, ◌||◌, List, [], ◌∷◌, ◌++◌, map, length, get_or, refl, sym, ap, ◌∙◌, arith}
use Rattle.std.specs.Prelude.{nat_le, nat_lt}
use Rattle.std.specs.List.{list_all, flat_map}
use Rattle.std.proofs.lemmas.Bool.Decides.{nat_tests}
use Rattle.std.proofs.lemmas.Bool.{and_from, leb-true, ltb-true}
use mathlib.Core.Bool.{true≢false}
use Rattle.card_sets.specs.Bits.{has-cards_where}
use Rattle.card_sets.specs.Cards.{cards_above, deck, has_card, rank_of, suit_of}
use Rattle.card_sets.proofs.CallerLemmas.{and_first, and_second}
use Rattle.range_lines.specs.declared.items.Entry.{Entry}
use Rattle.range_lines.specs.declared.items.Item.{Item}
use Rattle.range_lines.specs.declared.items.Item.TheVariants.{Pairs, Ranks, Cards}
use Rattle.range_lines.specs.declared.pairs.Pair.{Pair}
use Rattle.range_lines.specs.Items.{names, suits_fit}
use Rattle.range_lines.specs.Hands.{pair, pairs_of, all_pairs, amount, added, cleared, has_room}
use Rattle.range_lines.specs.Weights.{has_low, weight_at, with_weight, pairs_in, IsTable, AddedWhere, Heavy}
use Rattle.range_lines.proofs.PairOrder.{InOrder, pairs_in_order}

-- the hands of a lower card whose higher card has one of the first suits
abbrev pub first_suits : ℕ → ℕ → ℕ → ℕ → Bool
first_suits low suit l h = (l == low) && nat_lt (suit_of h) suit

-- an item adds nothing to a hand whose lower card it hasn't
and_false : (b : Bool) → (b && false) ≡ false
and_false true = refl
and_false false = refl

names_none : (item : Item) (low high : ℕ) → has_low item low ≡ false → names item low high ≡ false
names_none (Pairs from to) low high h = ap (λ b. (rank_of low == rank_of high) && b) h ∙ and_false (rank_of low == rank_of high)
names_none (Ranks top from to suits) low high h = ap (λ b. (rank_of high == top) && (b && suits_fit suits low high)) h ∙ and_false (rank_of high == top)
names_none (Cards a b) low high h = at (low == a) (low == b) h
  where
    at : (x y : Bool) → (x || y) ≡ false → ((x && (high == b)) || (y && (high == a))) ≡ false
    at true y e = cc
    at false true e = cc
    at false false e = refl

amount_none : (e : Entry) (low high : ℕ) → has_low e.item low ≡ false → amount e low high ≡ 0
amount_none e low high h = ap (λ b. cond b e.weight 0) (names_none e.item low high h)

pub none_before : (e : Entry) (cells : List ℕ) (n : ℕ) → ((low : ℕ) → low < n → has_low e.item low ≡ false) → AddedWhere e (λ low high. nat_lt low n) cells cells
none_before e cells n none low high l h = at (nat_lt low n) refl
  where
    at : (b : Bool) → nat_lt low n ≡ b → weight_at cells low high ≡ weight_at cells low high + cond b (amount e low high) 0
    at true is = let zero : amount e low high ≡ 0 = amount_none e low high (none low (ltb-true low n is)) in omega (arith, zero)
    at false is = omega arith

pub none_past : (e : Entry) (old new : List ℕ) (n : ℕ) → AddedWhere e (λ low high. nat_lt low n) old new → ((low : ℕ) → n ≤ low → low < 52 → has_low e.item low ≡ false) → AddedWhere e (λ low high. true) old new
none_past e old new n more none low high l h = at (nat_lt low n) refl (more low high l h)
  where
    at : (b : Bool) → nat_lt low n ≡ b → weight_at new low high ≡ weight_at old low high + cond b (amount e low high) 0 → weight_at new low high ≡ weight_at old low high + amount e low high
    at true is m = m
    at false is m =
        let past : n ≤ low = grind (arith, nat_tests) in
        let zero : amount e low high ≡ 0 = amount_none e low high (none low past (omega (arith, l, h))) in
        omega (arith, m, zero)

-- an item added to a table is added to the list of its hands
added_each : (e : Entry) (old new : List ℕ) (from : ℕ) (ps : List Pair) → InOrder from ps → AddedWhere e (λ low high. true) old new → map (with_weight new) ps ≡ map (added e) (map (with_weight old) ps)
added_each e old new from [] o more = refl
added_each e old new from (p ∷ ps) o more =
    ap (λ w. record { low = p.low; high = p.high; weight = w } ∷ map (with_weight new) ps) (more p.low p.high o.0 o.1)
    ∙ ap (λ qs. added e (with_weight old p) ∷ qs) (added_each e old new (52 * p.low + p.high + 1) ps o.3 more)

pub table_added : (e : Entry) (old new : List ℕ) → AddedWhere e (λ low high. true) old new → pairs_in new ≡ map (added e) (pairs_in old)
table_added e old new more = added_each e old new 0 all_pairs pairs_in_order more

-- where no hand then weighs more than 100 there was room in each
within : (a : ℕ) → a ≤ 100 → nat_le a 100 ≡ true
within a h = grind (arith, h)

room_each : (e : Entry) (old new : List ℕ) (from : ℕ) (ps : List Pair) → InOrder from ps → AddedWhere e (λ low high. true) old new → IsTable new → list_all (has_room e) (map (with_weight old) ps) ≡ true
room_each e old new from [] o more table = refl
room_each e old new from (p ∷ ps) o more table =
    let sum : weight_at new p.low p.high ≡ weight_at old p.low p.high + amount e p.low p.high = more p.low p.high o.0 o.1 in
    let low : weight_at new p.low p.high ≤ 100 = table.light p.low p.high o.0 o.1 in
    and_from _ _ (within _ (omega (arith, sum, low))) (room_each e old new (52 * p.low + p.high + 1) ps o.3 more table)

pub table_room : (e : Entry) (old new : List ℕ) → AddedWhere e (λ low high. true) old new → IsTable new → list_all (has_room e) (pairs_in old) ≡ true
table_room e old new more table = room_each e old new 0 all_pairs pairs_in_order more table

-- what holds of all hands holds of that of any two cards
of_higher : (f : Pair → Bool) (low high : ℕ) (ys : List ℕ) → list_all f (map (λ h. pair low h) ys) ≡ true → has_card ys high ≡ true → f (pair low high) ≡ true
of_higher f low high [] all has = absurd (true≢false (sym has))
of_higher f low high (y ∷ ys) all has = by (y == high) refl has (λ h. of_higher f low high ys (and_second (f (pair low y)) (list_all f (map (λ h. pair low h) ys)) all) h)
  where
    by : (b : Bool) → (y == high) ≡ b → (b || has_card ys high) ≡ true → (has_card ys high ≡ true → f (pair low high) ≡ true) → f (pair low high) ≡ true
    by true e has go = (let same : y ≡ high = grind arith in ap (λ h. f (pair low h)) (sym same) ∙ and_first (f (pair low y)) (list_all f (map (λ h. pair low h) ys)) all)
    by false e has go = go has

all_split : (f : Pair → Bool) (xs ys : List Pair) → list_all f (xs ++ ys) ≡ true → (list_all f xs ≡ true) × (list_all f ys ≡ true)
all_split f [] ys all = (refl, all)
all_split f (x ∷ xs) ys all =
    let rest = all_split f xs ys (and_second (f x) (list_all f (xs ++ ys)) all) in
    (and_from _ _ (and_first (f x) (list_all f (xs ++ ys)) all) rest.0, rest.1)

of_lower : (f : Pair → Bool) (low : ℕ) (xs : List ℕ) → list_all f (flat_map pairs_of xs) ≡ true → has_card xs low ≡ true → list_all f (pairs_of low) ≡ true
of_lower f low [] all has = absurd (true≢false (sym has))
of_lower f low (x ∷ xs) all has = by (x == low) refl has (λ h. of_lower f low xs (all_split f (pairs_of x) (flat_map pairs_of xs) all).1 h)
  where
    by : (b : Bool) → (x == low) ≡ b → (b || has_card xs low) ≡ true → (has_card xs low ≡ true → list_all f (pairs_of low) ≡ true) → list_all f (pairs_of low) ≡ true
    by true e has go = (let same : x ≡ low = grind arith in ap (λ l. list_all f (pairs_of l)) (sym same) ∙ (all_split f (pairs_of x) (flat_map pairs_of xs) all).0)
    by false e has go = go has

in_deck : (card : ℕ) → card < 52 → has_card deck card ≡ true
in_deck card h = has-cards_where (λ k. true) card h

in_above : (low high : ℕ) → low < high → high < 52 → has_card (cards_above deck low) high ≡ true
in_above low high l h = has-cards_where (λ k. nat_lt low k && has_card deck k) high h ∙ and_from _ _ (grind (arith, l)) (in_deck high h)

of_any : (f : Pair → Bool) (low high : ℕ) → low < high → high < 52 → list_all f all_pairs ≡ true → f (pair low high) ≡ true
unfolding all_pairs
of_any f low high l h all = of_higher f low high (cards_above deck low) (of_lower f low deck all (in_deck low (omega (arith, l, h)))) (in_above low high l h)

room_all : (e : Entry) (cells : List ℕ) (ps : List Pair) → list_all (has_room e) (map (with_weight cells) ps) ≡ list_all (λ p. has_room e (with_weight cells p)) ps
room_all e cells [] = refl
room_all e cells (p ∷ ps) = ap (λ b. has_room e (with_weight cells p) && b) (room_all e cells ps)

pub table_heavy : (e : Entry) (cells : List ℕ) → Heavy e cells → list_all (has_room e) (pairs_in cells) ≡ false
table_heavy e cells heavy = by (list_all (has_room e) (pairs_in cells)) refl
  where
    by : (b : Bool) → list_all (has_room e) (pairs_in cells) ≡ b → b ≡ false
    by false is = refl
    by true is =
        let light : nat_le (weight_at cells heavy.0 heavy.1.high + amount e heavy.0 heavy.1.high) 100 ≡ true = of_any (λ p. has_room e (with_weight cells p)) heavy.0 heavy.1.high heavy.1.order heavy.1.deck (sym (room_all e cells all_pairs) ∙ is) in
        let few : weight_at cells heavy.0 heavy.1.high + amount e heavy.0 heavy.1.high ≤ 100 = leb-true _ _ light in
        absurd (omega (arith, few, heavy.1.heavy))

-- a table of no weights
pub none_table : (cells : List ℕ) → length cells ≡ 52 * 52 → ((i : ℕ) → i < 52 * 52 → get_or cells i 0 ≡ 0) → IsTable cells
none_table cells room none = record {
  room = room;
  light = λ low high l h. (let here : weight_at cells low high ≡ 0 = none (52 * low + high) (omega (arith, l, h)) in omega (arith, here));
}

none_each : (cells : List ℕ) (from : ℕ) (ps : List Pair) → InOrder from ps → ((i : ℕ) → i < 52 * 52 → get_or cells i 0 ≡ 0) → map (with_weight cells) ps ≡ map cleared ps
none_each cells from [] o none = refl
none_each cells from (p ∷ ps) o none =
    ap (λ w. record { low = p.low; high = p.high; weight = w } ∷ map (with_weight cells) ps) (none (52 * p.low + p.high) (omega (arith, o.0, o.1)))
    ∙ ap (λ qs. cleared p ∷ qs) (none_each cells (52 * p.low + p.high + 1) ps o.3 none)

pub none_pairs : (cells : List ℕ) → ((i : ℕ) → i < 52 * 52 → get_or cells i 0 ≡ 0) → pairs_in cells ≡ map cleared all_pairs
none_pairs cells none = none_each cells 0 all_pairs pairs_in_order none
