-- The items of a word, added one after another to all hands.
use Rattle.std.proofs.Common.{◌≡◌, ℕ, ◌+◌, Bool, true, false, ◌&&◌, List, [], ◌∷◌, ◌++◌, map, refl, sym, ap, ◌∙◌, append_assoc, Some, arith}
use Rattle.std.specs.Prelude.{is_some, nat_le}
use Rattle.std.specs.List.{list_all, filter_map, flat_map, cons_option}
use Rattle.std.proofs.lemmas.Bool.{and_from}
use Rattle.std.proofs.lemmas.List.Sums.{sum_by-append, sum_by-cons}
use mathlib.Core.Bool.{true≢false}
use Rattle.card_sets.specs.Cards.{cards_above, deck}
use Rattle.card_sets.proofs.CallerLemmas.{and_first, and_second}
use Rattle.range_lines.specs.declared.items.Entry.{Entry}
use Rattle.range_lines.specs.declared.pairs.Pair.{Pair}
use Rattle.range_lines.specs.Hands.{pair, pairs_of, all_pairs, amount, weight_in, weighed, cleared, added, has_room, entries_of, are_items, are_light, is_range}
use Rattle.range_lines.specs.Items.{entry_of}
use Rattle.range_lines.specs.Texts.{texts_of}

-- hands have no weight once it is taken away, and all hands have none
cleared_twice : (ys : List ℕ) (low : ℕ) → map cleared (map (λ high. pair low high) ys) ≡ map (λ high. pair low high) ys
cleared_twice [] low = refl
cleared_twice (y ∷ ys) low = ap (λ ps. pair low y ∷ ps) (cleared_twice ys low)

map_more : (f : Pair → Pair) (xs ys : List Pair) → map f (xs ++ ys) ≡ map f xs ++ map f ys
map_more f [] ys = refl
map_more f (x ∷ xs) ys = ap (λ ps. f x ∷ ps) (map_more f xs ys)

cleared_flat : (cards : List ℕ) → map cleared (flat_map pairs_of cards) ≡ flat_map pairs_of cards
cleared_flat [] = refl
cleared_flat (c ∷ cards) =
    map_more cleared (pairs_of c) (flat_map pairs_of cards) ∙ ap (λ ps. ps ++ map cleared (flat_map pairs_of cards)) (cleared_twice (cards_above deck c) c) ∙ ap (λ ps. pairs_of c ++ ps) (cleared_flat cards)

pub cleared_all : map cleared all_pairs ≡ all_pairs
unfolding all_pairs
cleared_all = cleared_flat deck

-- no item gives no weight
unweighed : (ps : List Pair) → map (weighed []) ps ≡ map cleared ps
unweighed [] = refl
unweighed (p ∷ ps) = ap (λ qs. cleared p ∷ qs) (unweighed ps)

none_heavy : (ps : List Pair) → list_all (λ p. nat_le (weight_in [] p.low p.high) 100) ps ≡ true
none_heavy [] = refl
none_heavy (p ∷ ps) = none_heavy ps

-- one item more
weight_more : (done : List Entry) (e : Entry) (low high : ℕ) → weight_in (done ++ e ∷ []) low high ≡ weight_in done low high + amount e low high
weight_more done e low high =
    sum_by-append (λ entry. amount entry low high) done (e ∷ []) ∙ ap (λ n. weight_in done low high + n) (sum_by-cons (λ entry. amount entry low high) e [] ∙ omega arith)

weighed_more : (done : List Entry) (e : Entry) (ps : List Pair) → map (added e) (map (weighed done) ps) ≡ map (weighed (done ++ e ∷ [])) ps
weighed_more done e [] = refl
weighed_more done e (p ∷ ps) =
    let here : added e (weighed done p) ≡ weighed (done ++ e ∷ []) p = ap (λ w. record { low = p.low; high = p.high; weight = w }) (sym (weight_more done e p.low p.high)) in
    ap (λ q. q ∷ map (added e) (map (weighed done) ps)) here ∙ ap (λ qs. weighed (done ++ e ∷ []) p ∷ qs) (weighed_more done e ps)

light_more : (done : List Entry) (e : Entry) (ps : List Pair) → list_all (has_room e) (map (weighed done) ps) ≡ true →
    list_all (λ p. nat_le (weight_in (done ++ e ∷ []) p.low p.high) 100) ps ≡ true
light_more done e [] h = refl
light_more done e (p ∷ ps) h =
    and_from _ _ (ap (λ n. nat_le n 100) (weight_more done e p.low p.high) ∙ and_first (has_room e (weighed done p)) (list_all (has_room e) (map (weighed done) ps)) h)
    (light_more done e ps (and_second (has_room e (weighed done p)) (list_all (has_room e) (map (weighed done) ps)) h))

-- a hand that has no room for an item is too heavy with the items after it too
heavy_more : (done : List Entry) (e : Entry) (later : List Entry) (low high : ℕ) → nat_le (weight_in done low high + amount e low high) 100 ≡ false →
    nat_le (weight_in (done ++ e ∷ later) low high) 100 ≡ false
heavy_more done e later low high h =
    let sum : weight_in (done ++ e ∷ later) low high ≡ weight_in done low high + (amount e low high + weight_in later low high) =
    sum_by-append (λ entry. amount entry low high) done (e ∷ later) ∙ ap (λ n. weight_in done low high + n) (sum_by-cons (λ entry. amount entry low high) e later) in
    ap (λ n. nat_le n 100) sum ∙ above (weight_in done low high) (amount e low high) (weight_in later low high) h
  where
    above : (a b c : ℕ) → nat_le (a + b) 100 ≡ false → nat_le (a + (b + c)) 100 ≡ false
    above a b c h = grind arith

right_no : (a b : Bool) → b ≡ false → (a && b) ≡ false
right_no true b k = k
right_no false b k = refl

heavy_list : (done : List Entry) (e : Entry) (later : List Entry) (ps : List Pair) → list_all (has_room e) (map (weighed done) ps) ≡ false →
    list_all (λ p. nat_le (weight_in (done ++ e ∷ later) p.low p.high) 100) ps ≡ false
heavy_list done e later [] h = absurd (true≢false h)
heavy_list done e later (p ∷ ps) h = at (has_room e (weighed done p)) refl h (λ g. heavy_list done e later ps g)
  where
    at : (b : Bool) → has_room e (weighed done p) ≡ b → (b && list_all (has_room e) (map (weighed done) ps)) ≡ false →
        (list_all (has_room e) (map (weighed done) ps) ≡ false → list_all (λ q. nat_le (weight_in (done ++ e ∷ later) q.low q.high) 100) ps ≡ false) →
        (nat_le (weight_in (done ++ e ∷ later) p.low p.high) 100 && list_all (λ q. nat_le (weight_in (done ++ e ∷ later) q.low q.high) 100) ps) ≡ false
    at true f g rest = right_no _ _ (rest g)
    at false f g rest = ap (λ b. b && list_all (λ q. nat_le (weight_in (done ++ e ∷ later) q.low q.high) 100) ps) (heavy_more done e later p.low p.high f)

-- the items done so far, and the texts that are left
pub record Weighing (word : List ℕ) (pairs : List Pair) (left : List (List ℕ)) : Type 0 where
  pub done : List Entry
  pub so_far : pairs ≡ map (weighed done) all_pairs
  pub light : are_light done ≡ true
  pub entries : entries_of word ≡ done ++ filter_map entry_of left
  pub items : are_items word ≡ list_all (λ text. is_some (entry_of text)) left

pub weighing_none : (word : List ℕ) (before pairs : List Pair) (left : List (List ℕ)) → map cleared before ≡ all_pairs → pairs ≡ map cleared before → left ≡ texts_of word → Weighing word pairs left
weighing_none word before pairs left all is first = record {
  done = [];
  so_far = is ∙ all ∙ sym cleared_all ∙ sym (unweighed all_pairs);
  light = none_heavy all_pairs;
  entries = ap (filter_map entry_of) (sym first);
  items = ap (list_all (λ text. is_some (entry_of text))) (sym first);
}

entries_next : (word : List ℕ) (done : List Entry) (left rest : List (List ℕ)) (text : List ℕ) (e : Entry) → entries_of word ≡ done ++ filter_map entry_of left → left ≡ text ∷ rest → entry_of text ≡ Some e →
    entries_of word ≡ done ++ e ∷ filter_map entry_of rest
entries_next word done left rest text e is more some =
    is ∙ ap (λ ts. done ++ filter_map entry_of ts) more ∙ ap (λ o. done ++ cons_option o (filter_map entry_of rest)) some

-- an item for which a hand has no room
pub weighing_full : (word : List ℕ) (pairs : List Pair) (left rest : List (List ℕ)) (text : List ℕ) (e : Entry) → Weighing word pairs left → left ≡ text ∷ rest → entry_of text ≡ Some e →
    list_all (has_room e) pairs ≡ false → false ≡ is_range word
weighing_full word pairs left rest text e w more some full =
    let no : are_light (entries_of word) ≡ false =
    ap are_light (entries_next word w.done left rest text e w.entries more some)
    ∙ heavy_list w.done e (filter_map entry_of rest) all_pairs (ap (list_all (has_room e)) (sym w.so_far) ∙ full) in
    sym (right_no (are_items word) (are_light (entries_of word)) no)

-- one item more
pub weighing_more : (word : List ℕ) (pairs more_pairs : List Pair) (left rest : List (List ℕ)) (text : List ℕ) (e : Entry) → Weighing word pairs left → left ≡ text ∷ rest → entry_of text ≡ Some e →
    list_all (has_room e) pairs ≡ true → more_pairs ≡ map (added e) pairs → Weighing word more_pairs rest
weighing_more word pairs more_pairs left rest text e w more some room is = record {
  done = w.done ++ e ∷ [];
  so_far = is ∙ ap (map (added e)) w.so_far ∙ weighed_more w.done e all_pairs;
  light = light_more w.done e all_pairs (ap (list_all (has_room e)) (sym w.so_far) ∙ room);
  entries = entries_next word w.done left rest text e w.entries more some ∙ sym (append_assoc w.done (e ∷ []) (filter_map entry_of rest));
  items = w.items ∙ ap (list_all (λ t. is_some (entry_of t))) more ∙ ap (λ o. is_some o && list_all (λ t. is_some (entry_of t)) rest) some;
}
