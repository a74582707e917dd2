-- The best five by ranks alone, case by case, as a body would find them.
use Rattle.rank_high.specs.ByRanks.{NoFull, NoRun, digits_of, except, falling, held, run_at}
use Rattle.std.proofs.Common.{◌≡◌, ℕ, ◌+◌, ◌*◌, ◌^◌, ◌≤◌, ◌<◌, ◌==◌, List, ◌∷◌, [], refl, arith, Bool, true, false, inl, inr, subst}
use Rattle.std.proofs.lemmas.Bool.{cases_eq}
use Rattle.rank_high.proofs.FallingRanks.{Falls, Falls-falling, Falls-wider, digits_of-lt, falling-most, falling-first, falling-some, falling-only, lead}
use Rattle.rank_high.proofs.ShapeBounds.{Bounds}
use Rattle.rank_high.proofs.LeastBound.{apart}

pub differ : (a x : ℕ) → (a ≡ x → ⊥) → (a == x) ≡ false
differ a x h = grind arith

-- more cards than so many are more than fewer
pub held-fewer : (f : ℕ → ℕ) (n m r : ℕ) → m ≤ n → held f n r ≡ true → held f m r ≡ true
held-fewer f n m r h e = grind arith

-- no rank passes
none : (p : ℕ → Bool) (r : ℕ) → falling p 13 ≡ [] → r < 13 → p r ≡ true → ⊥
none p r e h t = falling-some p 13 r h t e

-- the other ranks: where a is the one, the test for all but a is that for all but x
same_but : (p : ℕ → Bool) (a x : ℕ) → a ≡ x → (r : ℕ) → except a p r ≡ true → except x p r ≡ true
same_but p a x e r h = let P : ℕ → Type 0 = λ y. except y p r ≡ true in subst P e h

-- one digit of some ranks is at most that of the greatest
one_digit : (p : ℕ → Bool) (b : ℕ) → b < 13 → p b ≡ true → digits_of 1 (b ∷ []) ≤ digits_of 1 (falling p 13)
one_digit p b h t = falling-most p 13 1 (b ∷ []) (omega arith) (h, t, tt)

-- four of a kind: the rank, and the greatest other one
pub bound_four : (f : ℕ → ℕ) (x : ℕ) (more : List ℕ) → falling (held f 3) 13 ≡ x ∷ more
    → Bounds f (7 * 16 ^ 5 + (x + 2) * 16 ^ 4 + digits_of 1 (falling (except x (held f 0)) 13) * 16 ^ 3)
bound_four f x more e = record {
  four = λ a b h i s t.
      let le : a ≤ x = falling-first (held f 3) 13 x more e a h s in
      let low : digits_of 1 (b ∷ []) < 16 ^ 1 = digits_of-lt (held f 0) 13 1 (b ∷ []) (omega arith) (i, (apart a b (held f 0) t).2, tt) in
      let l = lead 1 a x (digits_of 1 (b ∷ [])) (digits_of 1 (falling (except x (held f 0)) 13)) le low (λ same. one_digit (except x (held f 0)) b i (same_but (held f 0) a x same b t)) in
      omega arith;
  full = λ a b h i s t. omega arith;
  run = λ t h r. omega arith;
  three = λ a b c h s falls. let low = digits_of-lt (except a (held f 0)) 13 2 (b ∷ c ∷ []) (omega arith) falls in omega arith;
  two = λ a b c falls h t. let y = falls.0 in let z = falls.2.0 in omega arith;
  one = λ a b c d h s falls. let low = digits_of-lt (except a (held f 0)) 13 3 (b ∷ c ∷ d ∷ []) (omega arith) falls in omega arith;
  none = λ a b c d e falls. let low = digits_of-lt (held f 0) 13 5 (a ∷ b ∷ c ∷ d ∷ e ∷ []) (omega arith) falls in omega arith;
}

-- a full house
pub bound_full : (f : ℕ → ℕ) (x y : ℕ) (more rest : List ℕ) → falling (held f 3) 13 ≡ [] → falling (held f 2) 13 ≡ x ∷ more → falling (except x (held f 1)) 13 ≡ y ∷ rest
    → Bounds f (6 * 16 ^ 5 + (x + 2) * 16 ^ 4 + digits_of 1 (falling (except x (held f 1)) 13) * 16 ^ 3)
bound_full f x y more rest lack e g = record {
  four = λ a b h i s t. absurd (none (held f 3) a lack h s);
  full = λ a b h i s t.
      let le : a ≤ x = falling-first (held f 2) 13 x more e a h s in
      let low : digits_of 1 (b ∷ []) < 16 ^ 1 = digits_of-lt (held f 1) 13 1 (b ∷ []) (omega arith) (i, (apart a b (held f 1) t).2, tt) in
      let l = lead 1 a x (digits_of 1 (b ∷ [])) (digits_of 1 (falling (except x (held f 1)) 13)) le low (λ same. one_digit (except x (held f 1)) b i (same_but (held f 1) a x same b t)) in
      omega arith;
  run = λ t h r. omega arith;
  three = λ a b c h s falls. let low = digits_of-lt (except a (held f 0)) 13 2 (b ∷ c ∷ []) (omega arith) falls in omega arith;
  two = λ a b c falls h t. let y = falls.0 in let z = falls.2.0 in omega arith;
  one = λ a b c d h s falls. let low = digits_of-lt (except a (held f 0)) 13 3 (b ∷ c ∷ d ∷ []) (omega arith) falls in omega arith;
  none = λ a b c d e falls. let low = digits_of-lt (held f 0) 13 5 (a ∷ b ∷ c ∷ d ∷ e ∷ []) (omega arith) falls in omega arith;
}

-- no two ranks have three cards and two: where nobody has three, or nobody else two
pub no_full : (f : ℕ → ℕ) (x : ℕ) (more : List ℕ) → falling (held f 2) 13 ≡ x ∷ more → falling (except x (held f 1)) 13 ≡ [] → NoFull f
no_full f x more e lack a b h i s t = elim (cases_eq a x) [
  | inl same ↦ none (except x (held f 1)) b lack i (same_but (held f 1) a x same b t)
  | inr other ↦
      let ne : (a == x) ≡ false = differ a x other in
      let two : held f 1 a ≡ true = held-fewer f 2 1 a (omega arith) s in
      none (except x (held f 1)) a lack h (rw (ne, two) refl)
]

pub no_three : (f : ℕ → ℕ) → falling (held f 2) 13 ≡ [] → NoFull f
no_three f lack a b h i s t = none (held f 2) a lack h s

-- a straight, by the highest place of a run
pub bound_run : (f : ℕ → ℕ) (t : ℕ) → falling (held f 3) 13 ≡ [] → NoFull f → ((s : ℕ) → s < 10 → run_at (held f 0) s ≡ true → s ≤ t)
    → Bounds f (4 * 16 ^ 5 + t * 69905 + 344865)
bound_run f t lack lacks highest = record {
  four = λ a b h i s t. absurd (none (held f 3) a lack h s);
  full = λ a b h i s t. absurd (lacks a b h i s t);
  run = λ s h r. let le = highest s h r in omega arith;
  three = λ a b c h s falls. let low = digits_of-lt (except a (held f 0)) 13 2 (b ∷ c ∷ []) (omega arith) falls in omega arith;
  two = λ a b c falls h t. let y = falls.0 in let z = falls.2.0 in omega arith;
  one = λ a b c d h s falls. let low = digits_of-lt (except a (held f 0)) 13 3 (b ∷ c ∷ d ∷ []) (omega arith) falls in omega arith;
  none = λ a b c d e falls. let low = digits_of-lt (held f 0) 13 5 (a ∷ b ∷ c ∷ d ∷ e ∷ []) (omega arith) falls in omega arith;
}

-- three of a kind: the rank, and the two greatest others
pub bound_three : (f : ℕ → ℕ) (x : ℕ) (more : List ℕ) → falling (held f 3) 13 ≡ [] → NoFull f → NoRun f → falling (held f 2) 13 ≡ x ∷ more
    → Bounds f (3 * 16 ^ 5 + (x + 2) * 16 ^ 4 + digits_of 2 (falling (except x (held f 0)) 13) * 16 ^ 2)
bound_three f x more lack lacks bent e = record {
  four = λ a b h i s t. absurd (none (held f 3) a lack h s);
  full = λ a b h i s t. absurd (lacks a b h i s t);
  run = λ s h r. absurd (bent s h r);
  three = λ a b c h s falls.
      let le : a ≤ x = falling-first (held f 2) 13 x more e a h s in
      let low = digits_of-lt (except a (held f 0)) 13 2 (b ∷ c ∷ []) (omega arith) falls in
      let l = lead 2 a x (digits_of 2 (b ∷ c ∷ [])) (digits_of 2 (falling (except x (held f 0)) 13)) le low
      (λ same. falling-most (except x (held f 0)) 13 2 (b ∷ c ∷ []) (omega arith) (Falls-wider (except a (held f 0)) (except x (held f 0)) 13 13 (b ∷ c ∷ []) (λ r l i. same_but (held f 0) a x same r i) (omega arith) falls)) in
      omega arith;
  two = λ a b c falls h t. let y = falls.0 in let z = falls.2.0 in omega arith;
  one = λ a b c d h s falls. let low = digits_of-lt (except a (held f 0)) 13 3 (b ∷ c ∷ d ∷ []) (omega arith) falls in omega arith;
  none = λ a b c d e falls. let low = digits_of-lt (held f 0) 13 5 (a ∷ b ∷ c ∷ d ∷ e ∷ []) (omega arith) falls in omega arith;
}

-- two pairs: the two greatest, and the greatest other rank
pub bound_two : (f : ℕ → ℕ) (x y : ℕ) (more : List ℕ) → falling (held f 2) 13 ≡ [] → NoRun f → falling (held f 1) 13 ≡ x ∷ y ∷ more
    → Bounds f (2 * 16 ^ 5 + (x + 2) * 16 ^ 4 + (y + 2) * 16 ^ 3 + digits_of 1 (falling (except x (except y (held f 0))) 13) * 16 ^ 2)
bound_two f x y more lack bent e = record {
  four = λ a b h i s t. absurd (none (held f 2) a lack h (held-fewer f 3 2 a (omega arith) s));
  full = λ a b h i s t. absurd (none (held f 2) a lack h s);
  run = λ s h r. absurd (bent s h r);
  three = λ a b c h s falls. absurd (none (held f 2) a lack h s);
  two = λ a b c falls h t.
      let pairs : digits_of 2 (a ∷ b ∷ []) ≤ digits_of 2 (x ∷ y ∷ more) = (let P : List ℕ → Type 0 = λ l. digits_of 2 (a ∷ b ∷ []) ≤ digits_of 2 l in subst P e (falling-most (held f 1) 13 2 (a ∷ b ∷ []) (omega arith) falls)) in
      let top : Falls (held f 1) 13 (x ∷ y ∷ more) = (let P : List ℕ → Type 0 = λ l. Falls (held f 1) 13 l in subst P e (Falls-falling (held f 1) 13)) in
      let x_low = top.0 in let y_low = top.2.0 in let a_low = falls.0 in let b_low = falls.2.0 in
      elim (cases_eq a x) [
        | inl same ↦ elim (cases_eq b y) [
          | inl also ↦
              let moved : except x (except y (held f 0)) c ≡ true = (let P : ℕ → Type 0 = λ u. except u (except y (held f 0)) c ≡ true in let Q : ℕ → Type 0 = λ u. except a (except u (held f 0)) c ≡ true in subst P same (subst Q also t)) in
              let digit = one_digit (except x (except y (held f 0))) c h moved in
              omega arith
          | inr less ↦ omega arith
        ]
        | inr less ↦ omega arith
      ];
  one = λ a b c d h s falls. let low = digits_of-lt (except a (held f 0)) 13 3 (b ∷ c ∷ d ∷ []) (omega arith) falls in omega arith;
  none = λ a b c d e falls. let low = digits_of-lt (held f 0) 13 5 (a ∷ b ∷ c ∷ d ∷ e ∷ []) (omega arith) falls in omega arith;
}

-- one pair: the rank, and the three greatest others
pub bound_one : (f : ℕ → ℕ) (x : ℕ) → falling (held f 2) 13 ≡ [] → NoRun f → falling (held f 1) 13 ≡ x ∷ []
    → Bounds f (16 ^ 5 + (x + 2) * 16 ^ 4 + digits_of 3 (falling (except x (held f 0)) 13) * 16)
bound_one f x lack bent e = record {
  four = λ a b h i s t. absurd (none (held f 2) a lack h (held-fewer f 3 2 a (omega arith) s));
  full = λ a b h i s t. absurd (none (held f 2) a lack h s);
  run = λ s h r. absurd (bent s h r);
  three = λ a b c h s falls. absurd (none (held f 2) a lack h s);
  two = λ a b c falls h t.
      let a_is : a ≡ x = falling-only (held f 1) 13 x e a falls.0 falls.1 in
      let b_low : b < a = falls.2.0 in
      let b_is : b ≡ x = falling-only (held f 1) 13 x e b (let h : a < 13 = falls.0 in omega arith) falls.2.1 in
      absurd (omega arith);
  one = λ a b c d h s falls.
      let le : a ≤ x = falling-first (held f 1) 13 x [] e a h s in
      let low = digits_of-lt (except a (held f 0)) 13 3 (b ∷ c ∷ d ∷ []) (omega arith) falls in
      let l = lead 3 a x (digits_of 3 (b ∷ c ∷ d ∷ [])) (digits_of 3 (falling (except x (held f 0)) 13)) le low
      (λ same. falling-most (except x (held f 0)) 13 3 (b ∷ c ∷ d ∷ []) (omega arith) (Falls-wider (except a (held f 0)) (except x (held f 0)) 13 13 (b ∷ c ∷ d ∷ []) (λ r l i. same_but (held f 0) a x same r i) (omega arith) falls)) in
      omega arith;
  none = λ a b c d e falls. let low = digits_of-lt (held f 0) 13 5 (a ∷ b ∷ c ∷ d ∷ e ∷ []) (omega arith) falls in omega arith;
}

-- no pair: the five greatest ranks
pub bound_none : (f : ℕ → ℕ) → falling (held f 1) 13 ≡ [] → NoRun f → Bounds f (digits_of 5 (falling (held f 0) 13))
bound_none f lack bent = record {
  four = λ a b h i s t. absurd (none (held f 1) a lack h (held-fewer f 3 1 a (omega arith) s));
  full = λ a b h i s t. absurd (none (held f 1) a lack h (held-fewer f 2 1 a (omega arith) s));
  run = λ s h r. absurd (bent s h r);
  three = λ a b c h s falls. absurd (none (held f 1) a lack h (held-fewer f 2 1 a (omega arith) s));
  two = λ a b c falls h t. absurd (none (held f 1) a lack falls.0 falls.1);
  one = λ a b c d h s falls. absurd (none (held f 1) a lack h s);
  none = λ a b c d e falls. falling-most (held f 0) 13 5 (a ∷ b ∷ c ∷ d ∷ e ∷ []) (omega arith) falls;
}
