-- Sums over all ways to pick cards, a card of the deck after another. Where runouts are listed choice by choice, here each
-- card of the list is picked or left, so that two picks one after the other change places freely.
use Rattle.std.proofs.Common.{◌≡◌, ℕ, zero, suc, ◌+◌, ◌*◌, List, [], ◌∷◌, ◌++◌, map, refl, sym, ap, ◌∙◌, append-nil, arith, Bool, true, false, ◌||◌, ◌==◌}
use Rattle.std.proofs.lemmas.List.Folds.{list_any-append}
use Rattle.std.proofs.Math.Nat.{mul_assoc}
use Rattle.card_sets.specs.Cards.{has_card}
use Rattle.runout_ranges.specs.Ways.{binomial}
use Rattle.runout_ranges.proofs.CallerLemmas.{binomial_none}

-- the sum of a number over all ways to pick so many of the cards, by the picked cards and those left
abbrev pub picks : ℕ → List ℕ → (List ℕ → List ℕ → ℕ) → ℕ
picks zero cards f = f [] cards
picks (suc n) [] f = 0
picks (suc n) (x ∷ cards) f = picks n cards (λ c rest. f (x ∷ c) rest) + picks (suc n) cards (λ c rest. f c (x ∷ rest))

pub picks_same : (n : ℕ) (cards : List ℕ) (f g : List ℕ → List ℕ → ℕ) → ((c rest : List ℕ) → f c rest ≡ g c rest) → picks n cards f ≡ picks n cards g
picks_same zero cards f g h = h [] cards
picks_same (suc n) [] f g h = refl
picks_same (suc n) (x ∷ cards) f g h =
    let a = picks_same n cards (λ c rest. f (x ∷ c) rest) (λ c rest. g (x ∷ c) rest) (λ c rest. h (x ∷ c) rest) in
    let b = picks_same (suc n) cards (λ c rest. f c (x ∷ rest)) (λ c rest. g c (x ∷ rest)) (λ c rest. h c (x ∷ rest)) in
    rw (a, b) refl

pub picks_add : (n : ℕ) (cards : List ℕ) (f g : List ℕ → List ℕ → ℕ) → picks n cards (λ c rest. f c rest + g c rest) ≡ picks n cards f + picks n cards g
picks_add zero cards f g = refl
picks_add (suc n) [] f g = refl
picks_add (suc n) (x ∷ cards) f g =
    let a = picks_add n cards (λ c rest. f (x ∷ c) rest) (λ c rest. g (x ∷ c) rest) in
    let b = picks_add (suc n) cards (λ c rest. f c (x ∷ rest)) (λ c rest. g c (x ∷ rest)) in
    omega (arith, a, b)

pub picks_times : (n : ℕ) (cards : List ℕ) (k : ℕ) (f : List ℕ → List ℕ → ℕ) → picks n cards (λ c rest. k * f c rest) ≡ k * picks n cards f
picks_times zero cards k f = refl
picks_times (suc n) [] k f = omega arith
picks_times (suc n) (x ∷ cards) k f =
    let a = picks_times n cards k (λ c rest. f (x ∷ c) rest) in
    let b = picks_times (suc n) cards k (λ c rest. f c (x ∷ rest)) in
    omega (arith, a, b)

-- two picks change places
pub picks_swap : (k m : ℕ) (cards : List ℕ) (g : List ℕ → List ℕ → List ℕ → ℕ)
    → picks k cards (λ a rest. picks m rest (λ b left. g a b left)) ≡ picks m cards (λ b rest. picks k rest (λ a left. g a b left))
picks_swap zero m cards g = refl
picks_swap (suc k) zero cards g = refl
picks_swap (suc k) (suc m) [] g = refl
picks_swap (suc k) (suc m) (x ∷ cards) g =
    let a = picks_swap k (suc m) cards (λ a b left. g (x ∷ a) b left) in
    let b = picks_swap (suc k) m cards (λ a b left. g a (x ∷ b) left) in
    let c = picks_swap (suc k) (suc m) cards (λ a b left. g a b (x ∷ left)) in
    let d = picks_add (suc k) cards (λ a rest. picks m rest (λ b left. g a (x ∷ b) left)) (λ a rest. picks (suc m) rest (λ b left. g a b (x ∷ left))) in
    let e = picks_add (suc m) cards (λ b rest. picks k rest (λ a left. g (x ∷ a) b left)) (λ b rest. picks (suc k) rest (λ a left. g a b (x ∷ left))) in
    omega (arith, a, b, c, d, e)

-- the same cards, in whatever order
abbrev pub Alike : List ℕ → List ℕ → Type 0
Alike a b = (card : ℕ) → has_card a card ≡ has_card b card

pub has_card_joined : (a b : List ℕ) (card : ℕ) → has_card (a ++ b) card ≡ (has_card a card || has_card b card)
has_card_joined a b card = list_any-append (λ c. c == card) a b

or_moves : (a b c : Bool) → (a || (b || c)) ≡ (b || (a || c))
or_moves true true c = refl
or_moves true false c = refl
or_moves false true c = refl
or_moves false false c = refl

-- a card in the middle may stand first
pub alike_moved : (a : List ℕ) (x : ℕ) (b : List ℕ) → Alike (a ++ x ∷ b) (x ∷ (a ++ b))
alike_moved a x b card =
    has_card_joined a (x ∷ b) card ∙ or_moves (has_card a card) (x == card) (has_card b card) ∙ ap (λ t. (x == card) || t) (sym (has_card_joined a b card))

pub alike_behind : (x : ℕ) (a b : List ℕ) → Alike a b → Alike (x ∷ a) (x ∷ b)
alike_behind x a b h card = ap (λ t. (x == card) || t) (h card)

binomial_all : (n : ℕ) → binomial n n ≡ 1
binomial_all zero = refl
binomial_all (suc n) = omega (arith, binomial_all n, binomial_none n (suc n) (omega arith))

-- the number is that of the cards, in whatever order they are
abbrev pub ByCards : (List ℕ → List ℕ → ℕ) → Type 0
ByCards f = (a b rest : List ℕ) → Alike a b → f a rest ≡ f b rest

-- a pick and then another are one pick of both, in as many ways as both divide
pub picks_join : (k m : ℕ) (cards : List ℕ) (h : List ℕ → List ℕ → ℕ) → ByCards h
    → picks k cards (λ a rest. picks m rest (λ b left. h (a ++ b) left)) ≡ binomial (k + m) k * picks (k + m) cards h
picks_join zero m cards h by =
    let none : 0 + m ≡ m = omega arith in
    rw none (omega arith)
picks_join (suc k) zero cards h by =
    let none : suc k + 0 ≡ suc k = omega arith in
    let one : binomial (suc k) (suc k) ≡ 1 = binomial_all (suc k) in
    let same = picks_same (suc k) cards (λ a left. h (a ++ []) left) h (λ a left. ap (λ l. h l left) (append-nil a)) in
    rw (none, one) (omega (arith, same))
picks_join (suc k) (suc m) [] h by =
    let up : suc k + suc m ≡ suc (suc (k + m)) = omega arith in
    rw up (omega arith)
picks_join (suc k) (suc m) (x ∷ cards) h by =
    let up : suc k + suc m ≡ suc (suc (k + m)) = omega arith in
    let up-k : k + suc m ≡ suc (k + m) = omega arith in
    let up-m : suc k + m ≡ suc (k + m) = omega arith in
    let with : List ℕ → List ℕ → ℕ = λ c left. h (x ∷ c) left in
    let without : List ℕ → List ℕ → ℕ = λ c left. h c (x ∷ left) in
    let a : picks k cards (λ a rest. picks (suc m) rest (λ b left. h (x ∷ (a ++ b)) left)) ≡ binomial (suc (k + m)) k * picks (suc (k + m)) cards with =
    picks_join k (suc m) cards with (λ a b left e. by (x ∷ a) (x ∷ b) left (alike_behind x a b e)) ∙ ap (λ n. binomial n k * picks n cards with) up-k in
    let b : picks (suc k) cards (λ a rest. picks m rest (λ b left. h (x ∷ (a ++ b)) left)) ≡ binomial (suc (k + m)) (suc k) * picks (suc (k + m)) cards with =
    picks_join (suc k) m cards with (λ a b left e. by (x ∷ a) (x ∷ b) left (alike_behind x a b e)) ∙ ap (λ n. binomial n (suc k) * picks n cards with) up-m in
    let c : picks (suc k) cards (λ a rest. picks (suc m) rest (λ b left. h (a ++ b) (x ∷ left))) ≡ binomial (suc (suc (k + m))) (suc k) * picks (suc (suc (k + m))) cards without =
    picks_join (suc k) (suc m) cards without (λ a b left e. by a b (x ∷ left) e) ∙ ap (λ n. binomial n (suc k) * picks n cards without) up in
    let moved : picks (suc k) cards (λ a rest. picks m rest (λ b left. h (a ++ x ∷ b) left)) ≡ picks (suc k) cards (λ a rest. picks m rest (λ b left. h (x ∷ (a ++ b)) left)) =
    picks_same (suc k) cards _ _ (λ a rest. picks_same m rest _ _ (λ b left. by (a ++ x ∷ b) (x ∷ (a ++ b)) left (alike_moved a x b))) in
    let d = picks_add (suc k) cards (λ a rest. picks m rest (λ b left. h (a ++ x ∷ b) left)) (λ a rest. picks (suc m) rest (λ b left. h (a ++ b) (x ∷ left))) in
    rw up (
    ap (λ n. picks k cards (λ a rest. picks (suc m) rest (λ b left. h (x ∷ (a ++ b)) left)) + n) d
    ∙ sums (binomial (suc (k + m)) k) (binomial (suc (k + m)) (suc k)) (picks (suc (k + m)) cards with) (picks (suc (suc (k + m))) cards without) _ _ _ a (moved ∙ b) c
    )
  where
    sums : (a b p q u v w : ℕ) → u ≡ a * p → v ≡ b * p → w ≡ (a + b) * q → u + (v + w) ≡ (a + b) * (p + q)
    sums a b p q u v w e f g = omega (arith, e, f, g)

-- the sum of a number over all ways to fill slots of these counts one after the other, by the sets and the cards left
abbrev pub deals : List ℕ → List ℕ → (List (List ℕ) → List ℕ → ℕ) → ℕ
deals [] cards f = f [] cards
deals (n ∷ counts) cards f = picks n cards (λ c rest. deals counts rest (λ sets left. f (c ∷ sets) left))

pub deals_same : (counts cards : List ℕ) (f g : List (List ℕ) → List ℕ → ℕ) → ((sets : List (List ℕ)) (left : List ℕ) → f sets left ≡ g sets left) → deals counts cards f ≡ deals counts cards g
deals_same [] cards f g h = h [] cards
deals_same (n ∷ counts) cards f g h =
    picks_same n cards _ _ (λ c rest. deals_same counts rest (λ sets left. f (c ∷ sets) left) (λ sets left. g (c ∷ sets) left) (λ sets left. h (c ∷ sets) left))

-- a pick after some slots may come before them
pub deals_swap : (counts : List ℕ) (m : ℕ) (cards : List ℕ) (g : List (List ℕ) → List ℕ → List ℕ → ℕ)
    → deals counts cards (λ sets rest. picks m rest (λ c left. g sets c left)) ≡ picks m cards (λ c rest. deals counts rest (λ sets left. g sets c left))
deals_swap [] m cards g = refl
deals_swap (n ∷ counts) m cards g =
    picks_same n cards _ _ (λ c rest. deals_swap counts m rest (λ sets d left. g (c ∷ sets) d left))
    ∙ picks_swap n m cards (λ c d rest. deals counts rest (λ sets left. g (c ∷ sets) d left))

-- each slot's sets put together
abbrev pub joined : List (List ℕ) → List (List ℕ) → List (List ℕ)
joined [] later = []
joined (c ∷ now) [] = []
joined (c ∷ now) (r ∷ later) = (c ++ r) ∷ joined now later

-- slot by slot the same cards
abbrev pub AllAlike : List (List ℕ) → List (List ℕ) → Type 0
AllAlike [] [] = Unit {0}
AllAlike [] (b ∷ bs) = ⊥
AllAlike (a ∷ as') [] = ⊥
AllAlike (a ∷ as') (b ∷ bs) = Alike a b × AllAlike as' bs

abbrev pub ByAllCards : (List (List ℕ) → List ℕ → ℕ) → Type 0
ByAllCards f = (some others : List (List ℕ)) (left : List ℕ) → AllAlike some others → f some left ≡ f others left

pub alike_refl : (some : List (List ℕ)) → AllAlike some some
alike_refl [] = tt
alike_refl (a ∷ some) = (λ card. refl, alike_refl some)

-- slots that take so many cards now, and lack so many after
abbrev pub now_of : List (ℕ × ℕ) → List ℕ
now_of parts = map (λ p. p.0) parts

abbrev pub later_of : List (ℕ × ℕ) → List ℕ
later_of parts = map (λ p. p.1) parts

abbrev pub whole_of : List (ℕ × ℕ) → List ℕ
whole_of parts = map (λ p. p.0 + p.1) parts

-- in how many ways one runout divides
abbrev pub divided : List (ℕ × ℕ) → ℕ
divided [] = 1
divided (p ∷ parts) = binomial (p.0 + p.1) p.0 * divided parts

deals_by : (counts : List ℕ) (cards : List ℕ) (f : List (List ℕ) → List ℕ → ℕ) → ByAllCards f → (a b : List ℕ) → Alike a b
    → deals counts cards (λ sets left. f (a ∷ sets) left) ≡ deals counts cards (λ sets left. f (b ∷ sets) left)
deals_by counts cards f by a b e = deals_same counts cards _ _ (λ sets left. by (a ∷ sets) (b ∷ sets) left (e, alike_refl sets))

-- The law of streets. To deal a part of each slot and then the rest is to deal all, in as many ways as it divides.
pub streets : (parts : List (ℕ × ℕ)) (cards : List ℕ) (f : List (List ℕ) → List ℕ → ℕ) → ByAllCards f
    → deals (now_of parts) cards (λ now rest. deals (later_of parts) rest (λ later left. f (joined now later) left)) ≡ divided parts * deals (whole_of parts) cards f
streets [] cards f by = omega arith
streets (p ∷ parts) cards f by =
    let D = divided parts in
    let g : List ℕ → List ℕ → ℕ = λ c rest. D * deals (whole_of parts) rest (λ sets left. f (c ∷ sets) left) in
    let one : (c rest : List ℕ) → deals (now_of parts) rest (λ now rest'. picks p.1 rest' (λ r rest''. deals (later_of parts) rest'' (λ later left. f ((c ++ r) ∷ joined now later) left)))
    ≡ picks p.1 rest (λ r left. g (c ++ r) left) =
    λ c rest. deals_swap (now_of parts) p.1 rest (λ now r rest''. deals (later_of parts) rest'' (λ later left. f ((c ++ r) ∷ joined now later) left))
    ∙ picks_same p.1 rest _ _ (λ r rest'. streets parts rest' (λ sets left. f ((c ++ r) ∷ sets) left) (λ some others left e. by ((c ++ r) ∷ some) ((c ++ r) ∷ others) left (λ card. refl, e))) in
    picks_same p.0 cards _ _ one
    ∙ picks_join p.0 p.1 cards g (λ a b rest e. ap (λ n. D * n) (deals_by (whole_of parts) rest f by a b e))
    ∙ ap (λ n. binomial (p.0 + p.1) p.0 * n) (picks_times (p.0 + p.1) cards D (λ c rest. deals (whole_of parts) rest (λ sets left. f (c ∷ sets) left)))
    ∙ sym (mul_assoc (binomial (p.0 + p.1) p.0) D (deals (whole_of (p ∷ parts)) cards f))
