-- Where a choice stands among the choices, and which one stands after it.
use Rattle.std.proofs.Common.{◌≡◌, ◌≢◌, ℕ, zero, suc, ◌+◌, ◌<◌, ◌≤◌, List, [], ◌∷◌, ◌++◌, map, refl, sym, ap, ◌∙◌, subst, inl, inr, ◌⊎◌, length, length-append, take, arith, Bool, true, false, ◌||◌, ◌==◌}
use mathlib.Core.Bool.{true≢false}
use Rattle.std.proofs.lemmas.Bool.{cases_eq}
use Rattle.card_sets.specs.Cards.{has_card, RisingFrom}
use Rattle.card_sets.specs.Choose.{choose}
use Rattle.card_sets.specs.Rising.{has_card-low, RisingFrom-lower}
use Rattle.runout_ranges.specs.Runouts.{Begins, Follows, Ends}
use Rattle.runout_ranges.specs.Ways.{Within}
use Rattle.runout_ranges.proofs.ListPlaces.{split, split_map}

-- a choice of a list has the list's head, or is one of the rest
pub place_choice : (k c : ℕ) (cs at : List ℕ) (front back : List (List ℕ)) → choose (suc k) (c ∷ cs) ≡ front ++ at ∷ back
    → ((r : List ℕ) × (d t : List (List ℕ)) × (at ≡ c ∷ r) × (choose k cs ≡ d ++ r ∷ t) × (back ≡ map (λ rest. c ∷ rest) t ++ choose (suc k) cs))
    ⊎ ((d : List (List ℕ)) × (choose (suc k) cs ≡ d ++ at ∷ back))
place_choice k c cs at front back e = elim (split (map (λ rest. c ∷ rest) (choose k cs)) (choose (suc k) cs) front at back e) [
  | inl s ↦
      let m = split_map (λ rest. c ∷ rest) (choose k cs) front at s.0 s.1 in
      inl (m.1, m.0, m.2, sym m.4, m.3, s.2 ∙ ap (λ l. l ++ choose (suc k) cs) m.5)
  | inr s ↦ inr s
]

-- the only member of a list of one
single : {X : Type 0} (x y : X) (front back : List X) → x ∷ [] ≡ front ++ y ∷ back → (y ≡ x) × (back ≡ [])
single x y [] back e = (cc, cc)
single x y (z ∷ []) back e = cc
single x y (z ∷ z' ∷ front) back e = cc

either_true : (a b : Bool) → (a || b) ≡ true → (a ≡ true) ⊎ (b ≡ true)
either_true true b h = inl refl
either_true false b h = inr h

or_true : (a b : Bool) → b ≡ true → (a || b) ≡ true
or_true true b h = refl
or_true false b h = h

-- a choice has cards of the list only
pub choose_within : (n : ℕ) (xs at : List ℕ) (front back : List (List ℕ)) → choose n xs ≡ front ++ at ∷ back → (k : ℕ) → has_card at k ≡ true → has_card xs k ≡ true
choose_within zero xs at front back e k h =
    let s = single [] at front back e in
    absurd (true≢false (sym h ∙ ap (λ l. has_card l k) s.0))
choose_within (suc n) [] at [] back e k h = cc
choose_within (suc n) [] at (z ∷ front) back e k h = cc
choose_within (suc n) (c ∷ cs) at front back e k h = elim (place_choice n c cs at front back e) [
  | inl p ↦ elim (either_true (c == k) (has_card p.0 k) (sym (ap (λ l. has_card l k) p.3) ∙ h)) [
    | inl same ↦ rw same refl
    | inr later ↦ or_true (c == k) (has_card cs k) (choose_within n cs p.0 p.1 p.2 p.4 k later)
  ]
  | inr p ↦ or_true (c == k) (has_card cs k) (choose_within (suc n) cs at p.0 back p.1 k h)
]

-- a choice is as long as it should be
pub choose_length : (n : ℕ) (xs at : List ℕ) (front back : List (List ℕ)) → choose n xs ≡ front ++ at ∷ back → length at ≡ n
choose_length zero xs at front back e = ap length (single [] at front back e).0
choose_length (suc n) [] at [] back e = cc
choose_length (suc n) [] at (z ∷ front) back e = cc
choose_length (suc n) (c ∷ cs) at front back e = elim (place_choice n c cs at front back e) [
  | inl p ↦ ap length p.3 ∙ ap suc (choose_length n cs p.0 p.1 p.2 p.4)
  | inr p ↦ choose_length (suc n) cs at p.0 back p.1
]

-- a choice of a rising list rises
pub choose_rising : (low n : ℕ) (xs at : List ℕ) (front back : List (List ℕ)) → RisingFrom low xs → choose n xs ≡ front ++ at ∷ back → RisingFrom low at
choose_rising low zero xs at front back r e = let P : List ℕ → Type 0 = λ l. RisingFrom low l in subst P (sym (single [] at front back e).0) tt
choose_rising low (suc n) [] at [] back r e = cc
choose_rising low (suc n) [] at (z ∷ front) back r e = cc
choose_rising low (suc n) (c ∷ cs) at front back r e = elim (place_choice n c cs at front back e) [
  | inl p ↦ let P : List ℕ → Type 0 = λ l. RisingFrom low l in subst P (sym p.3) (r.0, r.1, choose_rising (c + 1) n cs p.0 p.1 p.2 r.2 p.4)
  | inr p ↦ RisingFrom-lower (c + 1) low at (omega (arith, r.0)) (choose_rising (c + 1) (suc n) cs at p.0 back r.2 p.1)
]

-- no choice of a list without c begins with c
not_first : (k c : ℕ) (cs r : List ℕ) (d back : List (List ℕ)) → has_card cs c ≡ false → choose k cs ≡ d ++ (c ∷ r) ∷ back → ⊥
not_first k c cs r d back out e =
    let is : (c == c) ≡ true = grind arith in
    let t : has_card (c ∷ r) c ≡ true = rw is refl in
    true≢false (sym (choose_within k cs (c ∷ r) d back e c t) ∙ out)

pub step_rest : (k c : ℕ) (cs r r' : List ℕ) → has_card cs c ≡ false → Follows (choose k cs) r r' → Follows (choose (suc k) (c ∷ cs)) (c ∷ r) (c ∷ r')
step_rest k c cs r r' out h front back e = elim (place_choice k c cs (c ∷ r) front back e) [
  | inl p ↦
      let same : p.0 ≡ r = cc (p.3) in
      let here : choose k cs ≡ p.1 ++ r ∷ p.2 = p.4 ∙ ap (λ v. p.1 ++ v ∷ p.2) same in
      let s = h p.1 p.2 here in
      (_, p.5 ∙ ap (λ l. map (λ rest. c ∷ rest) l ++ choose (suc k) cs) s.1)
  | inr p ↦ absurd (not_first (suc k) c cs r p.0 back out p.1)
]

-- after the last choice with the head come the choices without it
pub turn : (k c : ℕ) (cs r f : List ℕ) (more : List (List ℕ)) → has_card cs c ≡ false → Ends (choose k cs) r → choose (suc k) cs ≡ f ∷ more
    → Follows (choose (suc k) (c ∷ cs)) (c ∷ r) f
turn k c cs r f more out last begins front back e = elim (place_choice k c cs (c ∷ r) front back e) [
  | inl p ↦
      let same : p.0 ≡ r = cc (p.3) in
      let here : choose k cs ≡ p.1 ++ r ∷ p.2 = p.4 ∙ ap (λ v. p.1 ++ v ∷ p.2) same in
      let none : p.2 ≡ [] = last p.1 p.2 here in
      (more, p.5 ∙ ap (λ l. map (λ rest. c ∷ rest) l ++ choose (suc k) cs) none ∙ begins)
  | inr p ↦ absurd (not_first (suc k) c cs r p.0 back out p.1)
]

pub skip : (k c x : ℕ) (cs r next : List ℕ) → x ≢ c → Follows (choose (suc k) cs) (x ∷ r) next → Follows (choose (suc k) (c ∷ cs)) (x ∷ r) next
skip k c x cs r next ne h front back e = elim (place_choice k c cs (x ∷ r) front back e) [
  | inl p ↦ let same : x ≡ c = cc (p.3) in absurd (ne same)
  | inr p ↦ h p.0 back p.1
]

end_rest : (k c : ℕ) (cs r : List ℕ) → has_card cs c ≡ false → Ends (choose k cs) r → choose (suc k) cs ≡ [] → Ends (choose (suc k) (c ∷ cs)) (c ∷ r)
end_rest k c cs r out last none front back e = elim (place_choice k c cs (c ∷ r) front back e) [
  | inl p ↦
      let same : p.0 ≡ r = cc (p.3) in
      let here : choose k cs ≡ p.1 ++ r ∷ p.2 = p.4 ∙ ap (λ v. p.1 ++ v ∷ p.2) same in
      let over : p.2 ≡ [] = last p.1 p.2 here in
      p.5 ∙ ap (λ l. map (λ rest. c ∷ rest) l ++ choose (suc k) cs) over ∙ none
  | inr p ↦ absurd (not_first (suc k) c cs r p.0 back out p.1)
]

end_skip : (k c x : ℕ) (cs r : List ℕ) → x ≢ c → Ends (choose (suc k) cs) (x ∷ r) → Ends (choose (suc k) (c ∷ cs)) (x ∷ r)
end_skip k c x cs r ne h front back e = elim (place_choice k c cs (x ∷ r) front back e) [
  | inl p ↦ let same : x ≡ c = cc (p.3) in absurd (ne same)
  | inr p ↦ h p.0 back p.1
]

-- the first choice is the first cards
pub first_choice : (n : ℕ) (xs : List ℕ) → n ≤ length xs → Begins (choose n xs) (take n xs)
first_choice zero xs h = ([], refl)
first_choice (suc n) [] h = absurd (omega arith)
first_choice (suc n) (c ∷ cs) h =
    let f = first_choice n cs (omega arith) in
    (map (λ rest. c ∷ rest) f.0 ++ choose (suc n) cs, ap (λ l. map (λ rest. c ∷ rest) l ++ choose (suc n) cs) f.1)

-- of too few cards there is no choice
pub no_choice : (n : ℕ) (xs : List ℕ) → length xs < n → choose n xs ≡ []
no_choice zero xs h = absurd (omega arith)
no_choice (suc n) [] h = refl
no_choice (suc n) (c ∷ cs) h =
    let a : choose n cs ≡ [] = no_choice n cs (omega arith) in
    let b : choose (suc n) cs ≡ [] = no_choice (suc n) cs (omega arith) in
    rw (a, b) refl

-- a card in a rising list isn't below its first
pub least_of : (low : ℕ) (xs : List ℕ) (k : ℕ) → RisingFrom low xs → has_card xs k ≡ true → low ≤ k
least_of low [] k r h = absurd (true≢false (sym h))
least_of low (x ∷ xs) k r h = elim (cases_eq x k) [
  | inl e ↦ omega (arith, r.0)
  | inr ne ↦
      let f : (x == k) ≡ false = grind arith in
      let later : has_card xs k ≡ true = rw f at h in
      omega (arith, r.0, least_of (x + 1) xs k r.2 later)
]

-- what stands in a rising list isn't below its first
pub later_above : (low : ℕ) (front : List ℕ) (x : ℕ) (back : List ℕ) → RisingFrom low (front ++ x ∷ back) → low ≤ x
later_above low [] x back r = r.0
later_above low (y ∷ front) x back r = omega (arith, r.0, later_above (y + 1) front x back r.2)

-- the last cards of a rising list are its last choice
pub ends_top : (low : ℕ) (below top : List ℕ) → RisingFrom low (below ++ top) → Ends (choose (length top) (below ++ top)) top
ends_top low below [] r = λ front back e. (single [] [] front back e).1
ends_top low [] (x ∷ top) r =
    end_rest (length top) x top top (has_card-low (x + 1) top x r.2 (omega arith)) (ends_top (x + 1) [] top r.2) (no_choice (suc (length top)) top (omega arith))
ends_top low (c ∷ below) (x ∷ top) r =
    let above : c + 1 ≤ x = later_above (c + 1) below x top r.2 in
    end_skip (length top) c x (below ++ x ∷ top) top (λ e. omega arith) (ends_top (c + 1) below (x ∷ top) r.2)

pub within_tail : (a : ℕ) (p f : List ℕ) → RisingFrom (a + 1) p → Within (a ∷ p) (a ∷ f) → Within p f
within_tail a p f r w k h =
    let above : a + 1 ≤ k = least_of (a + 1) p k r h in
    let ne : (a == k) ≡ false = grind arith in
    let t : has_card (a ∷ p) k ≡ true = or_true (a == k) (has_card p k) h in
    let both : has_card (a ∷ f) k ≡ true = w k t in
    rw ne at both

pub within_later : (low a c : ℕ) (p f : List ℕ) → a ≢ c → RisingFrom a (a ∷ p) → RisingFrom (c + 1) f → Within (a ∷ p) (c ∷ f) → (c < a) × Within (a ∷ p) f
within_later low a c p f ne rp rf w =
    let is : (a == a) ≡ true = grind arith in
    let first : has_card (a ∷ p) a ≡ true = rw is refl in
    let here : has_card (c ∷ f) a ≡ true = w a first in
    let other : (c == a) ≡ false = grind arith in
    let found : has_card f a ≡ true = rw other at here in
    let above : c + 1 ≤ a = least_of (c + 1) f a rf found in (
      omega arith,
      λ k h.
          let up : a ≤ k = least_of a (a ∷ p) k rp h in
          let apart : (c == k) ≡ false = grind arith in
          let both : has_card (c ∷ f) k ≡ true = w k h in
          rw apart at both,
    )

-- where the greatest chosen card with a free card above moves up, the next choice comes
pub follows_up : (low : ℕ) (front p : List ℕ) (x y : ℕ) (mid top : List ℕ) → RisingFrom low (front ++ x ∷ y ∷ (mid ++ top)) → RisingFrom low p → Within p front
    → Follows (choose (length p + suc (length top)) (front ++ x ∷ y ∷ (mid ++ top))) (p ++ x ∷ top) (p ++ y ∷ take (length top) (mid ++ top))
follows_up low [] [] x y mid top r rp w =
    let last : Ends (choose (length top) (y ∷ (mid ++ top))) top = ends_top (x + 1) (y ∷ mid) top r.2 in
    let long : suc (length top) ≤ length (y ∷ (mid ++ top)) = omega (arith, length-append mid top) in
    let first = first_choice (suc (length top)) (y ∷ (mid ++ top)) long in
    let none : zero + suc (length top) ≡ suc (length top) = omega arith in
    rw none (turn (length top) x (y ∷ (mid ++ top)) top (y ∷ take (length top) (mid ++ top)) first.0 (has_card-low (x + 1) (y ∷ (mid ++ top)) x r.2 (omega arith)) last first.1)
follows_up low [] (a ∷ p) x y mid top r rp w =
    let is : (a == a) ≡ true = grind arith in
    let first : has_card (a ∷ p) a ≡ true = rw is refl in
    absurd (true≢false (sym (w a first)))
follows_up low (c ∷ f) [] x y mid top r rp w =
    let above : c + 1 ≤ x = later_above (c + 1) f x (y ∷ (mid ++ top)) r.2 in
    let none : zero + suc (length top) ≡ suc (length top) = omega arith in
    let further = follows_up (c + 1) f [] x y mid top r.2 tt (λ k h. absurd (true≢false (sym h))) in
    let there : Follows (choose (suc (length top)) (f ++ x ∷ y ∷ (mid ++ top))) (x ∷ top) (y ∷ take (length top) (mid ++ top)) = rw none at further in
    rw none (skip (length top) c x (f ++ x ∷ y ∷ (mid ++ top)) top (y ∷ take (length top) (mid ++ top)) (λ e. omega arith) there)
follows_up low (c ∷ f) (a ∷ p) x y mid top r rp w = elim (cases_eq a c) [
  | inl e ↦
      let w' : Within (a ∷ p) (a ∷ f) = (let P : ℕ → Type 0 = λ n. Within (a ∷ p) (n ∷ f) in subst P (sym e) w) in
      let rf : RisingFrom (a + 1) (f ++ x ∷ y ∷ (mid ++ top)) = (let P : ℕ → Type 0 = λ n. RisingFrom (n + 1) (f ++ x ∷ y ∷ (mid ++ top)) in subst P (sym e) r.2) in
      let further = follows_up (a + 1) f p x y mid top rf rp.2 (within_tail a p f rp.2 w') in
      let over : suc (length p) + suc (length top) ≡ suc (length p + suc (length top)) = omega arith in
      let there = step_rest (length p + suc (length top)) a (f ++ x ∷ y ∷ (mid ++ top)) (p ++ x ∷ top) (p ++ y ∷ take (length top) (mid ++ top)) (has_card-low (a + 1) (f ++ x ∷ y ∷ (mid ++ top)) a rf (omega arith)) further in
      let P : ℕ → Type 0 = λ n. Follows (choose (suc (length p) + suc (length top)) (n ∷ (f ++ x ∷ y ∷ (mid ++ top)))) ((a ∷ p) ++ x ∷ top) ((a ∷ p) ++ y ∷ take (length top) (mid ++ top)) in
      subst P e (rw over there)
  | inr ne ↦
      let rf : RisingFrom (c + 1) f = front_rising (c + 1) f (x ∷ y ∷ (mid ++ top)) r.2 in
      let l = within_later low a c p f ne (omega arith, rp.1, rp.2) rf w in
      let further = follows_up (c + 1) f (a ∷ p) x y mid top r.2 (omega (arith, l.0), rp.1, rp.2) l.1 in
      let over : suc (length p) + suc (length top) ≡ suc (length p + suc (length top)) = omega arith in
      let there : Follows (choose (suc (length p + suc (length top))) (f ++ x ∷ y ∷ (mid ++ top))) (a ∷ (p ++ x ∷ top)) (a ∷ (p ++ y ∷ take (length top) (mid ++ top))) = rw over at further in
      rw over (skip (length p + suc (length top)) c a (f ++ x ∷ y ∷ (mid ++ top)) (p ++ x ∷ top) (a ∷ (p ++ y ∷ take (length top) (mid ++ top))) ne there)
]
  where
    front_rising : (low : ℕ) (xs ys : List ℕ) → RisingFrom low (xs ++ ys) → RisingFrom low xs
    front_rising low [] ys r = tt
    front_rising low (x ∷ xs) ys r = (r.0, r.1, front_rising (x + 1) xs ys r.2)
