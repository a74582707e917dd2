-- What cards are worth with the best of some others.
use Rattle.std.proofs.Common.{◌≡◌, ℕ, zero, suc, ◌+◌, ◌-◌, ◌≤◌, ◌==◌, ◌||◌, List, [], ◌∷◌, ◌++◌, refl, sym, ap, ◌∙◌, arith, Bool, true, false, cond, length, map, max, inl, inr, subst, Some}
use Rattle.std.specs.Prelude.{slice_get, filter}
use Rattle.std.specs.Option.{option_map}
use mathlib.Core.Bool.{true≢false}
use Rattle.card_sets.specs.Cards.{IsCardSet, RisingFrom, has_card, cards_where, cards_below, union, with_card, without_card}
use Rattle.card_sets.specs.Bits.{cards_where_same, has-cards_where, first_rest, IsCardSet-cards_where}
use Rattle.card_sets.specs.Choose.{choose}
use Rattle.card_sets.specs.Disjoint.{apart}
use Rattle.card_sets.specs.Rising.{IsCardSet-rising, has_card-low}
use Rattle.card_sets.specs.declared.games.Side.{Side}
use Rattle.card_sets.specs.declared.games.Side.TheVariants.{High, Low}
use Rattle.rank_low.specs.Low.{ace_number, best_eight, least_of, low_a5, qualifies}
use Rattle.card_sets.proofs.CallerLemmas.{greatest, choose-all, set-part, has-part, Apart-parts, union-IsCardSet, Apart, Apart-apart, apart-Apart, Apart-union, length-union, IsPart, none_part, greatest_step, greatest_most, greatest_least}
use Rattle.rank_high.proofs.CallerLemmas.{plain_number, best_plain-number}
use Rattle.rank_low.proofs.CallerLemmas.{eight_turned, greatest-filter, eight-AreAceLists, ace_turned, AreAceLists, least_of-IsLeast}
use Rattle.omaha_ranks.specs.Worth.{worth, low_worth, greatest_number, best_with, best_own}

pub same_greatest : (ns : List ℕ) → greatest_number ns ≡ greatest ns
same_greatest [] = refl
same_greatest (n ∷ ns) = ap (λ m. max n m) (same_greatest ns)

-- what one five is worth
abbrev pub five_worth : Side → List ℕ → ℕ
five_worth High five = plain_number five
five_worth Low five = eight_turned five

pub low_worths : (ls : List (List ℕ)) → AreAceLists ls → low_worth (option_map ace_number (least_of ls)) ≡ greatest (map ace_turned ls)
low_worths [] p = refl
low_worths (l ∷ ls) p = let least = least_of-IsLeast l ls p in ap (λ o. low_worth (option_map ace_number o)) least.is ∙ least.turned

-- what cards are worth is the greatest that a five of them is worth
pub worth-is : (side : Side) (cards : List ℕ) → IsCardSet cards → worth side cards ≡ greatest (map (five_worth side) (choose 5 cards))
unfolding worth best_eight
worth-is High cards set = best_plain-number cards
worth-is Low cards set = low_worths (map low_a5 (filter qualifies (choose 5 cards))) (eight-AreAceLists cards set) ∙ greatest-filter (choose 5 cards)

pub worth-five : (side : Side) (five : List ℕ) → IsCardSet five → length five ≡ 5 → worth side five ≡ five_worth side five
worth-five side five set e =
    let only : choose 5 five ≡ five ∷ [] = ap (λ k. choose k five) (sym e) ∙ choose-all five in
    worth-is side five set ∙ ap (λ ls. greatest (map (five_worth side) ls)) only ∙ alone (five_worth side five)
  where
    alone : (n : ℕ) → max n 0 ≡ n
    alone n = omega arith

part_append : (a xs b ys : List ℕ) → IsPart a xs → IsPart b ys → IsPart (a ++ b) (xs ++ ys)
part_append a [] b ys p q = (let P : List ℕ → Type 0 = λ l. IsPart (l ++ b) ys in subst P (sym p) q)
part_append a (x ∷ xs) b ys p q = elim p [
  | inl without ↦ inl (part_append a xs b ys without q)
  | inr with ↦ inr (with.0 ++ b, ap (λ l. l ++ b) with.1, part_append with.0 xs b ys with.2 q)
]

one_part : (n : ℕ) (a b : Bool) → (a ≡ true → b ≡ true) → IsPart (cond a (n ∷ []) []) (cond b (n ∷ []) [])
one_part n true true h = inr ([], refl, refl)
one_part n true false h = absurd (true≢false (sym (h refl)))
one_part n false true h = inl refl
one_part n false false h = refl

below_part : (p q : ℕ → Bool) (n : ℕ) → ((k : ℕ) → p k ≡ true → q k ≡ true) → IsPart (cards_below p n) (cards_below q n)
below_part p q zero h = refl
below_part p q (suc n) h = part_append (cards_below p n) (cards_below q n) (cond (p n) (n ∷ []) []) (cond (q n) (n ∷ []) []) (below_part p q n h) (one_part n (p n) (q n) (h n))

or_more : (a b c : Bool) → (b ≡ true → c ≡ true) → (a || b) ≡ true → (a || c) ≡ true
or_more true b c h e = refl
or_more false b c h e = h e

-- the union with a part is a part of the union
pub union_part : (kept more rest : List ℕ) → IsPart more rest → IsPart (union kept more) (union kept rest)
unfolding cards_where
union_part kept more rest p = below_part (λ k. has_card kept k || has_card more k) (λ k. has_card kept k || has_card rest k) 52 (λ k h. or_more (has_card kept k) (has_card more k) (has_card rest k) (has-part more rest k p) h)

pub self_part : (xs : List ℕ) → IsPart xs xs
self_part [] = refl
self_part (x ∷ xs) = inr (xs, refl, self_part xs)

-- sets that share no card
pub record AreSets (kept rest : List ℕ) : Type 0 where
  pub kept_cards : IsCardSet kept
  pub rest_cards : IsCardSet rest
  pub apart : apart kept rest ≡ true

pub length-sets : (kept rest more : List ℕ) → AreSets kept rest → IsPart more rest → length (union kept more) ≡ length kept + length more
length-sets kept rest more s p = length-union kept more s.kept_cards (set-part more rest p s.rest_cards) (Apart-parts kept kept more rest (self_part kept) p (Apart-apart kept rest s.apart))

-- a five of the kept cards and some of the rest is worth no more than all of them
pub bounded : (side : Side) (kept rest more : List ℕ) → AreSets kept rest → IsPart more rest → length kept + length more ≡ 5 → worth side (union kept more) ≤ worth side (union kept rest)
bounded side kept rest more s p five =
    let e : length (union kept more) ≡ 5 = length-sets kept rest more s p ∙ five in
    let least : five_worth side (union kept more) ≤ greatest (map (five_worth side) (choose 5 (union kept rest))) = greatest_least 5 (union kept rest) (five_worth side) (union kept more) e (union_part kept more rest p) in
    omega (arith, worth-five side (union kept more) (union-IsCardSet kept more) e, worth-is side (union kept rest) (union-IsCardSet kept rest))

pub bound-most : (side : Side) (kept rest : List ℕ) (missing : ℕ) → AreSets kept rest → length kept + missing ≡ 5 → best_with side kept missing rest ≤ worth side (union kept rest)
unfolding best_with
bound-most side kept rest missing s five =
    let most : greatest (map (λ more. worth side (union kept more)) (choose missing rest)) ≤ worth side (union kept rest) =
    greatest_most missing rest (λ more. worth side (union kept more)) (worth side (union kept rest)) (λ part e p. bounded side kept rest part s p (omega arith)) in
    omega (arith, same_greatest (map (λ more. worth side (union kept more)) (choose missing rest)))

-- all of the rest are taken
pub best_with-all : (side : Side) (kept rest : List ℕ) (missing : ℕ) → missing ≡ length rest → best_with side kept missing rest ≡ worth side (union kept rest)
unfolding best_with
best_with-all side kept rest missing e =
    let only : choose missing rest ≡ rest ∷ [] = ap (λ k. choose k rest) e ∙ choose-all rest in
    ap (λ ls. greatest_number (map (λ more. worth side (union kept more)) ls)) only ∙ alone (worth side (union kept rest))
  where
    alone : (n : ℕ) → max n 0 ≡ n
    alone n = omega arith

or-false : (a : Bool) → (a || false) ≡ a
or-false true = refl
or-false false = refl

pub union-none : (kept : List ℕ) → IsCardSet kept → union kept [] ≡ kept
union-none kept set = cards_where_same (λ k. has_card kept k || has_card [] k) (has_card kept) (λ k l. or-false (has_card kept k)) ∙ set

pub none-union : (kept : List ℕ) → IsCardSet kept → union [] kept ≡ kept
none-union kept set = cards_where_same (λ k. has_card [] k || has_card kept k) (has_card kept) (λ k l. refl) ∙ set

-- none of them is taken
pub best_with-none : (side : Side) (kept rest : List ℕ) (missing : ℕ) → IsCardSet kept → missing ≡ 0 → best_with side kept missing rest ≡ worth side kept
unfolding best_with
best_with-none side kept rest missing set e =
    ap (λ k. greatest_number (map (λ more. worth side (union kept more)) (choose k rest))) e ∙ alone (worth side (union kept [])) ∙ ap (worth side) (union-none kept set)
  where
    alone : (n : ℕ) → max n 0 ≡ n
    alone n = omega arith

shuffle : (a b c : Bool) → (a || (b || c)) ≡ ((b || a) || c)
shuffle true true c = refl
shuffle true false c = refl
shuffle false true c = refl
shuffle false false c = refl

eq-sym : (a b : ℕ) → (a == b) ≡ (b == a)
eq-sym a b = grind arith

-- a card more of the rest is a card more that is kept
pub union_step : (kept more : List ℕ) (card : ℕ) → union kept (card ∷ more) ≡ union (with_card kept card) more
union_step kept more card = cards_where_same (λ k. has_card kept k || has_card (card ∷ more) k) (λ k. has_card (with_card kept card) k || has_card more k) (λ k l.
    ap (λ b. has_card kept k || (b || has_card more k)) (eq-sym card k)
    ∙ shuffle (has_card kept k) (k == card) (has_card more k)
    ∙ ap (λ b. b || has_card more k) (sym (has-cards_where (λ k. (k == card) || has_card kept k) k l)))

map_same : (f g : List ℕ → ℕ) → ((l : List ℕ) → f l ≡ g l) → (ls : List (List ℕ)) → map f ls ≡ map g ls
map_same f g h [] = refl
map_same f g h (l ∷ ls) = ap (λ n. n ∷ map f ls) (h l) ∙ ap (λ ns. g l ∷ ns) (map_same f g h ls)

-- a choice with the next card, or without it
choice_step : (f : List ℕ → List ℕ → ℕ) (kept others : List ℕ) (card k : ℕ) → ((more : List ℕ) → f kept (card ∷ more) ≡ f (with_card kept card) more)
    → greatest_number (map (f kept) (choose (suc k) (card ∷ others))) ≡ max (greatest_number (map (f (with_card kept card)) (choose k others))) (greatest_number (map (f kept) (choose (suc k) others)))
choice_step f kept others card k h =
    let with : greatest (map (λ more. f kept (card ∷ more)) (choose k others)) ≡ greatest (map (f (with_card kept card)) (choose k others)) = ap greatest (map_same (λ more. f kept (card ∷ more)) (f (with_card kept card)) h (choose k others)) in
    omega (
      arith,
      greatest_step (f kept) k card others,
      same_greatest (map (f kept) (choose (suc k) (card ∷ others))),
      same_greatest (map (f (with_card kept card)) (choose k others)),
      same_greatest (map (f kept) (choose (suc k) others)),
    )

pub best_with-next : (side : Side) (kept rest others : List ℕ) (card missing : ℕ) → (missing ≡ 0 → ⊥) → rest ≡ card ∷ others
    → best_with side kept missing rest ≡ max (best_with side (with_card kept card) (missing - 1) others) (best_with side kept missing others)
unfolding best_with
best_with-next side kept rest others card zero some e = absurd (some refl)
best_with-next side kept rest others card (suc k) some e =
    let less : suc k - 1 ≡ k = omega arith in
    ap (λ cards. best_with side kept (suc k) cards) e
    ∙ choice_step (λ kept more. worth side (union kept more)) kept others card k (λ more. ap (worth side) (union_step kept more card))
    ∙ ap (λ n. max (best_with side (with_card kept card) n others) (best_with side kept (suc k) others)) (sym less)

pub best_own-next : (side : Side) (taken rest others board : List ℕ) (card missing : ℕ) → (missing ≡ 0 → ⊥) → rest ≡ card ∷ others
    → best_own side taken missing rest board ≡ max (best_own side (with_card taken card) (missing - 1) others board) (best_own side taken missing others board)
unfolding best_own
best_own-next side taken rest others board card zero some e = absurd (some refl)
best_own-next side taken rest others board card (suc k) some e =
    let less : suc k - 1 ≡ k = omega arith in
    ap (λ cards. best_own side taken (suc k) cards board) e
    ∙ choice_step (λ taken more. best_with side (union taken more) 3 board) taken others card k (λ more. ap (λ own. best_with side own 3 board) (union_step taken more card))
    ∙ ap (λ n. max (best_own side (with_card taken card) n others board) (best_own side taken (suc k) others board)) (sym less)

pub best_own-none : (side : Side) (taken rest board : List ℕ) (missing : ℕ) → IsCardSet taken → missing ≡ 0 → best_own side taken missing rest board ≡ best_with side taken 3 board
unfolding best_own
best_own-none side taken rest board missing set e =
    ap (λ k. greatest_number (map (λ more. best_with side (union taken more) 3 board) (choose k rest))) e ∙ alone (best_with side (union taken []) 3 board) ∙ ap (λ own. best_with side own 3 board) (union-none taken set)
  where
    alone : (n : ℕ) → max n 0 ≡ n
    alone n = omega arith

pub best_own-short : (side : Side) (taken rest board : List ℕ) (missing : ℕ) → (missing ≡ 0 → ⊥) → rest ≡ [] → best_own side taken missing rest board ≡ 0
unfolding best_own
best_own-short side taken rest board zero some e = absurd (some refl)
best_own-short side taken rest board (suc k) some e = ap (λ cards. greatest_number (map (λ more. best_with side (union taken more) 3 board) (choose (suc k) cards))) e

-- what is kept with the first card of the rest, and what is left
pub record TakesFirst (kept rest : List ℕ) (card : ℕ) : Type 0 where
  pub first : rest ≡ card ∷ without_card rest card
  pub longer : length (with_card kept card) ≡ length kept + 1
  pub shorter : length rest ≡ length (without_card rest card) + 1
  pub part : IsPart (without_card rest card) rest
  pub with : with_card kept card ≡ union kept (card ∷ [])
  pub one : IsPart (card ∷ []) rest
  pub apart_without : apart kept (without_card rest card) ≡ true
  pub apart_with : apart (with_card kept card) (without_card rest card) ≡ true

pub takes_first : (kept rest : List ℕ) (card : ℕ) → AreSets kept rest → slice_get rest 0 ≡ Some card → TakesFirst kept rest card
takes_first kept rest card s e =
    let others : List ℕ = without_card rest card in
    let first : rest ≡ card ∷ without_card rest card = first_rest rest card s.rest_cards e in
    let P : List ℕ → Type 0 = λ l. IsPart (without_card rest card) l in
    let part : IsPart (without_card rest card) rest = subst P (sym first) (inl (self_part (without_card rest card))) in
    let Q : List ℕ → Type 0 = λ l. IsPart (card ∷ []) l in
    let one : IsPart (card ∷ []) rest = subst Q (sym first) (inr ([], refl, none_part (without_card rest card))) in
    let with : with_card kept card ≡ union kept (card ∷ []) = sym (union_step kept [] card ∙ union-none (with_card kept card) (IsCardSet-cards_where (λ k. (k == card) || has_card kept k))) in
    let all : Apart kept rest = Apart-apart kept rest s.apart in
    let away : Apart kept (without_card rest card) = Apart-parts kept kept (without_card rest card) rest (self_part kept) part all in
    let R : List ℕ → Type 0 = λ l. RisingFrom 0 l in
    let rising : RisingFrom 0 (card ∷ without_card rest card) = subst R first (IsCardSet-rising rest s.rest_cards) in
    let alone : Apart (card ∷ []) (without_card rest card) = λ k x y. not_both card (without_card rest card) k rising.2 x y in
    let S : List ℕ → Type 0 = λ l. Apart l (without_card rest card) in
    let moved : Apart (with_card kept card) (without_card rest card) = subst S (sym with) (Apart-union kept (card ∷ []) (without_card rest card) away alone) in
    record {
      first = first;
      longer = ap length with ∙ length-sets kept rest (card ∷ []) s one;
      shorter = ap length first ∙ omega arith;
      part = part;
      with = with;
      one = one;
      apart_without = apart-Apart kept (without_card rest card) away;
      apart_with = apart-Apart (with_card kept card) (without_card rest card) moved;
    }
  where
    not_both : (card : ℕ) (others : List ℕ) (k : ℕ) → RisingFrom (card + 1) others → has_card (card ∷ []) k ≡ true → has_card others k ≡ true → ⊥
    not_both card others k r x y = only (card == k) refl x
      where
        only : (b : Bool) → (card == k) ≡ b → (b || false) ≡ true → ⊥
        only true e h =
            let same : card ≡ k = grind arith in
            let none : has_card others k ≡ false = has_card-low (card + 1) others k r (omega arith) in
            true≢false (sym y ∙ none)
        only false e h = true≢false (sym h)

pub part_apart : (part rest board : List ℕ) → IsPart part rest → apart rest board ≡ true → apart part board ≡ true
part_apart part rest board p e = apart-Apart part board (Apart-parts part rest board board p (self_part board) (Apart-apart rest board e))

pub with_apart : (taken rest board : List ℕ) (card : ℕ) → TakesFirst taken rest card → apart taken board ≡ true → apart rest board ≡ true → apart (with_card taken card) board ≡ true
with_apart taken rest board card t a b =
    let P : List ℕ → Type 0 = λ l. Apart l board in
    let one : Apart (card ∷ []) board = Apart-parts (card ∷ []) rest board board t.one (self_part board) (Apart-apart rest board b) in
    let both : Apart (with_card taken card) board = subst P (sym t.with) (Apart-union taken (card ∷ []) board (Apart-apart taken board a) one) in
    apart-Apart (with_card taken card) board both
