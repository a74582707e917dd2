-- The step from one choice to the next: the greatest chosen card with a free card above it moves up.
use Rattle.std.proofs.Common.{◌≡◌, ℕ, suc, ◌+◌, ◌-◌, ◌<◌, ◌≤◌, List, [], ◌∷◌, ◌++◌, refl, sym, ap, ◌∙◌, subst, append_assoc, length, length-append, take, arith, Bool, true, false, ◌||◌, ◌==◌}
use Rattle.std.specs.Prelude.{slice_get, Some, None}
use Rattle.card_sets.specs.Cards.{has_card, with_card, without_card, union, cards_above, IsRising, RisingFrom}
use Rattle.card_sets.specs.Choose.{choose}
use Rattle.card_sets.specs.Rising.{has_card-low, with_card-push}
use Rattle.runout_ranges.specs.Runouts.{Follows, Ends}
use Rattle.runout_ranges.specs.Ways.{Within}
use Rattle.runout_ranges.proofs.NextChoice.{follows_up, ends_top}
use Rattle.runout_ranges.proofs.CardLists.{has_card-append, rising_front_part, rising_back_part, union_joined, rising_moved, rising_take, last_split, without_last, split_at, above_split, above_last}

or_false_true : (a b : Bool) → b ≡ false → (a || b) ≡ true → a ≡ true
or_false_true true b e h = refl
or_false_true false b e h = cc

-- the last chosen card so far has its place among the cards so far, and the chosen cards below it are cards below it
pub chosen_place : (low left top : List ℕ) (x : ℕ) → IsRising (low ++ top) → IsRising (left ++ top) → Within (left ++ top) (low ++ top) → slice_get left (length left - 1) ≡ Some x
    → (p front back : List ℕ) × (left ≡ p ++ x ∷ []) × (low ≡ front ++ x ∷ back) × (cards_above low x ≡ back) × Within p front
chosen_place low left top x rc rl w e =
    let s = last_split left x e in
    let rl' : IsRising (s.0 ++ (x ∷ top)) = (let P : List ℕ → Type 0 = λ l. IsRising l in subst P (ap (λ l. l ++ top) s.1 ∙ append_assoc s.0 (x ∷ []) top) rl) in
    let w' : Within (s.0 ++ (x ∷ top)) (low ++ top) = (let P : List ℕ → Type 0 = λ l. Within l (low ++ top) in subst P (ap (λ l. l ++ top) s.1 ∙ append_assoc s.0 (x ∷ []) top) w) in
    let rx : RisingFrom 0 (x ∷ top) = rising_back_part 0 s.0 (x ∷ top) rl' in
    let is : (x == x) ≡ true = grind arith in
    let head : has_card (x ∷ top) x ≡ true = rw is refl in
    let here : has_card (s.0 ++ (x ∷ top)) x ≡ true = has_card-append s.0 (x ∷ top) x ∙ or_true (has_card s.0 x) _ head in
    let out : has_card top x ≡ false = has_card-low (x + 1) top x rx.2 (omega arith) in
    let inside : has_card low x ≡ true = or_false_true (has_card low x) (has_card top x) out (sym (has_card-append low top x) ∙ w' x here) in
    let rlow : IsRising low = rising_front_part 0 low top rc in
    let a = split_at 0 low x rlow inside in
    let rl2 : IsRising (a.0 ++ x ∷ a.1) = (let P : List ℕ → Type 0 = λ l. IsRising l in subst P a.2 rlow) in (
      s.0,
      a.0,
      a.1,
      s.1,
      a.2,
      ap (λ l. cards_above l x) a.2 ∙ above_split a.0 x a.1 rl2,
      λ k h.
          let below : k < x = above_last 0 s.0 x top k rl' h in
          let chosen : has_card (s.0 ++ (x ∷ top)) k ≡ true = has_card-append s.0 (x ∷ top) k ∙ either (has_card s.0 k) _ h in
          let found : has_card (low ++ top) k ≡ true = w' k chosen in
          let rt : RisingFrom x (x ∷ (a.1 ++ top)) = whole_rising low top x a.0 a.1 a.2 rc in
          let none : has_card (x ∷ (a.1 ++ top)) k ≡ false = has_card-low x (x ∷ (a.1 ++ top)) k rt below in
          or_false_true (has_card a.0 k) _ none (sym (has_card-append a.0 (x ∷ (a.1 ++ top)) k) ∙ ap (λ l. has_card l k) (sym (append_assoc a.0 (x ∷ a.1) top) ∙ ap (λ l. l ++ top) (sym a.2)) ∙ found),
    )
  where
    or_true : (a b : Bool) → b ≡ true → (a || b) ≡ true
    or_true true b h = refl
    or_true false b h = h

    either : (a b : Bool) → a ≡ true → (a || b) ≡ true
    either true b h = refl
    either false b h = cc

    whole_rising : (low top : List ℕ) (x : ℕ) (front back : List ℕ) → low ≡ front ++ x ∷ back → IsRising (low ++ top) → RisingFrom x (x ∷ (back ++ top))
    whole_rising low top x front back e r =
        let P : List ℕ → Type 0 = λ l. IsRising l in
        let r' : IsRising (front ++ (x ∷ (back ++ top))) = subst P (ap (λ l. l ++ top) e ∙ append_assoc front (x ∷ back) top) r in
        let t = rising_back_part 0 front (x ∷ (back ++ top)) r' in
        (omega arith, t.1, t.2)

-- where no card above is free, the chosen card joins those at the top
pub nothing_free : (low left top : List ℕ) (x : ℕ) → IsRising (low ++ top) → IsRising (left ++ top) → Within (left ++ top) (low ++ top) → slice_get left (length left - 1) ≡ Some x → slice_get (cards_above low x) 0 ≡ None
    → (without_card low x ++ x ∷ top ≡ low ++ top) × (without_card left x ++ x ∷ top ≡ left ++ top) × (length (without_card left x) < length left)
nothing_free low left top x rc rl w e none =
    let c = chosen_place low left top x rc rl w e in
    let over : c.2 ≡ [] = empty c.2 (ap (λ l. slice_get l 0) (sym c.5) ∙ none) in
    let low' : low ≡ c.1 ++ x ∷ [] = c.4 ∙ ap (λ l. c.1 ++ x ∷ l) over in
    let P : List ℕ → Type 0 = λ l. IsRising l in
    let a : without_card low x ≡ c.1 = ap (λ l. without_card l x) low' ∙ without_last c.1 x (subst P low' (rising_front_part 0 low top rc)) in
    let b : without_card left x ≡ c.0 = ap (λ l. without_card l x) c.3 ∙ without_last c.0 x (subst P c.3 (rising_front_part 0 left top rl)) in (
      ap (λ l. l ++ x ∷ top) a ∙ sym (append_assoc c.1 (x ∷ []) top) ∙ ap (λ l. l ++ top) (sym low'),
      ap (λ l. l ++ x ∷ top) b ∙ sym (append_assoc c.0 (x ∷ []) top) ∙ ap (λ l. l ++ top) (sym c.3),
      omega (arith, ap length b, ap length c.3, length-append c.0 (x ∷ [])),
    )
  where
    empty : (xs : List ℕ) → slice_get xs 0 ≡ None → xs ≡ []
    empty [] h = refl
    empty (x ∷ xs) h = cc

-- where nothing is left below the top, the choice is the last one
pub all_at_top : (low left top : List ℕ) → IsRising (low ++ top) → slice_get left (length left - 1) ≡ None → Ends (choose (length (left ++ top)) (low ++ top)) (left ++ top)
all_at_top low [] top r e = ends_top 0 low top r
all_at_top low (x ∷ left) top r e = let s = some x left in let both : Some s.0 ≡ None = sym s.1 ∙ e in cc
  where
    some : (x : ℕ) (left : List ℕ) → (y : ℕ) × (slice_get (x ∷ left) (length (x ∷ left) - 1) ≡ Some y)
    some x [] = (x, refl)
    some x (y ∷ left) =
        let at : suc (suc (length left)) - 1 ≡ suc (length left) = omega arith in
        let at' : suc (length left) - 1 ≡ length left = omega arith in
        let s = some y left in
        (s.0, rw at (rw at' at s.1))

-- the parts where a card above is free
free_place : (low left top : List ℕ) (x y : ℕ) → IsRising (low ++ top) → IsRising (left ++ top) → Within (left ++ top) (low ++ top) → slice_get left (length left - 1) ≡ Some x → slice_get (cards_above low x) 0 ≡ Some y
    → (p front mid : List ℕ) × (left ≡ p ++ x ∷ []) × (low ≡ front ++ x ∷ y ∷ mid) × Within p front
free_place low left top x y rc rl w e free =
    let c = chosen_place low left top x rc rl w e in
    let h = head c.2 y (ap (λ l. slice_get l 0) (sym c.5) ∙ free) in
    (c.0, c.1, h.0, c.3, c.4 ∙ ap (λ l. c.1 ++ x ∷ l) h.1, c.6)
  where
    head : (xs : List ℕ) (y : ℕ) → slice_get xs 0 ≡ Some y → (rest : List ℕ) × (xs ≡ y ∷ rest)
    head [] y h = cc
    head (x ∷ xs) y h = (xs, cc)

-- the chosen cards above, and the cards above the one that is moved to
pub tops : (low left top : List ℕ) (x y : ℕ) → IsRising (low ++ top) → IsRising (left ++ top) → Within (left ++ top) (low ++ top) → slice_get left (length left - 1) ≡ Some x → slice_get (cards_above low x) 0 ≡ Some y
    → (p front mid : List ℕ) × (left ++ top ≡ p ++ x ∷ top) × (low ++ top ≡ front ++ x ∷ y ∷ (mid ++ top)) × Within p front × (without_card left x ≡ p) × (cards_above (left ++ top) x ≡ top) × (cards_above (low ++ top) y ≡ mid ++ top)
tops low left top x y rc rl w e free =
    let f = free_place low left top x y rc rl w e free in
    let P : List ℕ → Type 0 = λ l. IsRising l in
    let chosen : left ++ top ≡ f.0 ++ x ∷ top = ap (λ l. l ++ top) f.3 ∙ append_assoc f.0 (x ∷ []) top in
    let cards : low ++ top ≡ f.1 ++ x ∷ y ∷ (f.2 ++ top) = ap (λ l. l ++ top) f.4 ∙ append_assoc f.1 (x ∷ y ∷ f.2) top in
    let cards' : low ++ top ≡ (f.1 ++ x ∷ []) ++ y ∷ (f.2 ++ top) = cards ∙ sym (append_assoc f.1 (x ∷ []) (y ∷ (f.2 ++ top))) in (
      f.0,
      f.1,
      f.2,
      chosen,
      cards,
      f.5,
      ap (λ l. without_card l x) f.3 ∙ without_last f.0 x (subst P f.3 (rising_front_part 0 left top rl)),
      ap (λ l. cards_above l x) chosen ∙ above_split f.0 x top (subst P chosen rl),
      ap (λ l. cards_above l y) cards' ∙ above_split (f.1 ++ x ∷ []) y (f.2 ++ top) (subst P cards' rc),
    )

pub behind_fits : (low left top : List ℕ) (x y : ℕ) → IsRising (low ++ top) → IsRising (left ++ top) → Within (left ++ top) (low ++ top) → slice_get left (length left - 1) ≡ Some x → slice_get (cards_above low x) 0 ≡ Some y
    → length (cards_above (left ++ top) x) ≤ length (cards_above (low ++ top) y)
behind_fits low left top x y rc rl w e free =
    let t = tops low left top x y rc rl w e free in
    omega (arith, ap length t.7, ap length t.8, length-append t.2 top)

pub moved_up : (low left top : List ℕ) (x y : ℕ) → IsRising (low ++ top) → IsRising (left ++ top) → Within (left ++ top) (low ++ top) → slice_get left (length left - 1) ≡ Some x → slice_get (cards_above low x) 0 ≡ Some y
    → Follows (choose (length (left ++ top)) (low ++ top)) (left ++ top) (union (with_card (without_card left x) y) (take (length (cards_above (left ++ top) x)) (cards_above (low ++ top) y)))
moved_up low left top x y rc rl w e free =
    let t = tops low left top x y rc rl w e free in
    let P : List ℕ → Type 0 = λ l. IsRising l in
    let rc' : IsRising (t.1 ++ x ∷ y ∷ (t.2 ++ top)) = subst P t.4 rc in
    let rl' : IsRising (t.0 ++ x ∷ top) = subst P t.3 rl in
    let rx : RisingFrom 0 (x ∷ y ∷ (t.2 ++ top)) = rising_back_part 0 t.1 (x ∷ y ∷ (t.2 ++ top)) rc' in
    let ry : RisingFrom y (y ∷ take (length top) (t.2 ++ top)) = (omega arith, rx.2.1, rising_take (y + 1) (length top) (t.2 ++ top) rx.2.2) in
    let px : RisingFrom 0 (t.0 ++ x ∷ []) = rising_front_part 0 (t.0 ++ x ∷ []) top (subst P (sym (append_assoc t.0 (x ∷ []) top)) rl') in
    let up : x < y = omega (arith, rx.2.0) in
    let joined : IsRising (t.0 ++ y ∷ take (length top) (t.2 ++ top)) = rising_moved 0 t.0 x y (take (length top) (t.2 ++ top)) px up ry in
    let pushed : with_card (without_card left x) y ≡ t.0 ++ y ∷ [] = ap (λ l. with_card l y) t.6 ∙ with_card-push t.0 y (rising_moved 0 t.0 x y [] px up (omega arith, rx.2.1, tt)) in
    let back : take (length (cards_above (left ++ top) x)) (cards_above (low ++ top) y) ≡ take (length top) (t.2 ++ top) = ap (λ l. take (length l) (cards_above (low ++ top) y)) t.7 ∙ ap (λ l. take (length top) l) t.8 in
    let next : union (with_card (without_card left x) y) (take (length (cards_above (left ++ top) x)) (cards_above (low ++ top) y)) ≡ t.0 ++ y ∷ take (length top) (t.2 ++ top) =
    ap (λ l. union l (take (length (cards_above (left ++ top) x)) (cards_above (low ++ top) y))) pushed
    ∙ ap (λ l. union (t.0 ++ y ∷ []) l) back
    ∙ union_joined (t.0 ++ y ∷ []) (take (length top) (t.2 ++ top)) (subst P (sym (append_assoc t.0 (y ∷ []) (take (length top) (t.2 ++ top)))) joined)
    ∙ append_assoc t.0 (y ∷ []) (take (length top) (t.2 ++ top)) in
    let long : length (left ++ top) ≡ length t.0 + suc (length top) = ap length t.3 ∙ length-append t.0 (x ∷ top) in
    let f : Follows (choose (length t.0 + suc (length top)) (t.1 ++ x ∷ y ∷ (t.2 ++ top))) (t.0 ++ x ∷ top) (t.0 ++ y ∷ take (length top) (t.2 ++ top)) =
    follows_up 0 t.1 t.0 x y t.2 top rc' (rising_front_part 0 t.0 (x ∷ top) rl') t.5 in
    let Q : ℕ → Type 0 = λ n. Follows (choose n (t.1 ++ x ∷ y ∷ (t.2 ++ top))) (t.0 ++ x ∷ top) (t.0 ++ y ∷ take (length top) (t.2 ++ top)) in
    let R : List ℕ → Type 0 = λ l. Follows (choose (length (left ++ top)) l) (t.0 ++ x ∷ top) (t.0 ++ y ∷ take (length top) (t.2 ++ top)) in
    let S : List ℕ → Type 0 = λ l. Follows (choose (length (left ++ top)) (low ++ top)) l (t.0 ++ y ∷ take (length top) (t.2 ++ top)) in
    let T : List ℕ → Type 0 = λ l. Follows (choose (length (left ++ top)) (low ++ top)) (left ++ top) l in
    subst T (sym next) (subst S (sym t.3) (subst R (sym t.4) (subst Q (sym long) f)))
