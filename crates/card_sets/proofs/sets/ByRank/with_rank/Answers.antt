use Rattle.std.proofs.Common.{◌≡◌, ℕ, suc, ◌+◌, ◌*◌, ◌/◌, ◌%◌, ◌<◌, ◌==◌, ◌&&◌, ◌||◌, List, Bool, true, false, cond, refl, ap, ◌∙◌, arith, inl, inr}
use Rattle.std.specs.Prelude.{nat_lt}
use Rattle.std.proofs.lemmas.Bool.{cases_eq}
use Rattle.card_sets.specs.Cards.{cards_where, has_card, with_card}
use Rattle.card_sets.specs.Bits.{cards_where_same, has-cards_where}
use Rattle.card_sets.specs.RankCounts.{counted_over, one_more}
use Rattle.card_sets.proofs.sets.ByRank.with_rank.Goals as goal

or_none : (a : Bool) → (a || false) ≡ a
or_none true = refl
or_none false = refl

and_none : (a : Bool) → (a && false) ≡ false
and_none true = refl
and_none false = refl

-- counted once more than so many times, or that already
step : (n x : ℕ) → (nat_lt (suc n) x || nat_lt n x) ≡ nat_lt (suc n) (x + 1)
step n x = grind arith

has_counted : (n : ℕ) (count : ℕ → ℕ) (ranks : List ℕ) (k : ℕ) → k < 52 → ranks ≡ counted_over n count → has_card ranks k ≡ ((k % 4 == 0) && nat_lt n (count (k / 4)))
has_counted n count ranks k h same = ap (λ l. has_card l k) same ∙ has-cards_where (λ j. (j % 4 == 0) && nat_lt n (count (j / 4))) k h

-- a rank is counted once or more where it was, and where it is the one more
first : (rank card : ℕ) (count : ℕ → ℕ) (ranks : List ℕ) → card ≡ 4 * rank → ranks ≡ counted_over 0 count → with_card ranks card ≡ counted_over 0 (one_more rank count)
first rank card count ranks at same = cards_where_same _ _ each
  where
    each : (k : ℕ) → k < 52 → ((k == card) || has_card ranks k) ≡ ((k % 4 == 0) && nat_lt 0 (count (k / 4) + cond (rank == k / 4) 1 0))
    each k h = elim (cases_eq k card) [
      | inl e ↦
          let t : (k == card) ≡ true = grind arith in
          let z : (k % 4 == 0) ≡ true = (let q : k % 4 ≡ 0 = omega arith in grind arith) in
          let r : (rank == k / 4) ≡ true = (let q : rank ≡ k / 4 = omega arith in grind arith) in
          let some : nat_lt 0 (count (k / 4) + 1) ≡ true = grind arith in
          rw (t, z, r, some) refl
      | inr ne ↦
          let f : (k == card) ≡ false = grind arith in
          elim (cases_eq (k % 4) 0) [
            | inl i ↦
                let z : (k % 4 == 0) ≡ true = grind arith in
                let r : (rank == k / 4) ≡ false = (let q : rank ≡ k / 4 → ⊥ = λ q. ne (omega arith) in grind arith) in
                let m : count (k / 4) + 0 ≡ count (k / 4) = omega arith in
                rw (f, has_counted 0 count ranks k h same, z, r, m) refl
            | inr i ↦
                let z : (k % 4 == 0) ≡ false = grind arith in
                rw (f, has_counted 0 count ranks k h same, z) refl
          ]
    ]

-- and more often where it was, and where it was counted once less and is the one more
next : (n rank card : ℕ) (count : ℕ → ℕ) (ranks below : List ℕ) → card ≡ 4 * rank → ranks ≡ counted_over (suc n) count → below ≡ counted_over n count
    → cards_where (λ k. has_card ranks k || ((k == card) && has_card below k)) ≡ counted_over (suc n) (one_more rank count)
next n rank card count ranks below at same under = cards_where_same _ _ each
  where
    each : (k : ℕ) → k < 52 → (has_card ranks k || ((k == card) && has_card below k)) ≡ ((k % 4 == 0) && nat_lt (suc n) (count (k / 4) + cond (rank == k / 4) 1 0))
    each k h = elim (cases_eq k card) [
      | inl e ↦
          let t : (k == card) ≡ true = grind arith in
          let z : (k % 4 == 0) ≡ true = (let q : k % 4 ≡ 0 = omega arith in grind arith) in
          let r : (rank == k / 4) ≡ true = (let q : rank ≡ k / 4 = omega arith in grind arith) in
          rw (has_counted (suc n) count ranks k h same, has_counted n count below k h under, t, z, r) (step n (count (k / 4)))
      | inr ne ↦
          let f : (k == card) ≡ false = grind arith in
          elim (cases_eq (k % 4) 0) [
            | inl i ↦
                let z : (k % 4 == 0) ≡ true = grind arith in
                let r : (rank == k / 4) ≡ false = (let q : rank ≡ k / 4 → ⊥ = λ q. ne (omega arith) in grind arith) in
                let m : count (k / 4) + 0 ≡ count (k / 4) = omega arith in
                rw (has_counted (suc n) count ranks k h same, f, z, r, m) (or_none (nat_lt (suc n) (count (k / 4))))
            | inr i ↦
                let z : (k % 4 == 0) ≡ false = grind arith in
                rw (has_counted (suc n) count ranks k h same, f, z) refl
          ]
    ]

pub returns : goal.returns
returns c = λ count are.
    let at = c.numbered-card.ensures in
    record {
      one = c.with.ensures ∙ first c.args.rank c.numbered-card.result count c.args.self.one at are.one;
      two = c.with_of.ensures ∙ next 0 c.args.rank c.numbered-card.result count c.args.self.two c.args.self.one at are.two are.one;
      three = c.with_of-2.ensures ∙ next 1 c.args.rank c.numbered-card.result count c.args.self.three c.args.self.two at are.three are.two;
      four = c.with_of-3.ensures ∙ next 2 c.args.rank c.numbered-card.result count c.args.self.four c.args.self.three at are.four are.three;
    }
