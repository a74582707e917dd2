-- Cards of one suit, and what a category goes by.
use Rattle.std.proofs.Common.{◌≡◌, ◌≢◌, ℕ, suc, zero, ◌+◌, ◌≤◌, ◌<◌, ◌==◌, List, ◌∷◌, [], refl, ap, ◌∙◌, sym, arith, Bool, true, false, cond, length, length-append, inl, inr, map}
use Rattle.std.specs.Prelude.{nat_lt, ◌&&◌, ◌||◌, slice_index}
use Rattle.std.specs.List.{list_all}
use Rattle.std.specs.Ordering.{nat_cmp, ordering_then}
use Rattle.std.specs.Cmp.{nat_cmp_is}
use Rattle.std.specs.Cmp.Lexicographic.{slice_cmp}
use Rattle.std.specs.declared.cmp.Ordering.TheVariants.{Equal, Greater}
use Rattle.std.proofs.lemmas.Bool.{cases_eq, cases_lt, eqb-true, and_parts}
use mathlib.Core.Bool.{true≢false}
use Rattle.card_sets.specs.Cards.{rank_of, suit_of, IsCardSet, RisingFrom}
use Rattle.card_sets.specs.Rising.{IsCardSet-rising}
use Rattle.rank_high.specs.High.{high, pips, is_wheel, is_flush, is_straight, falls_by_one, groups, group_count, category, category_of, count_of_rank, ranks_below, ranks_counted}
use Rattle.rank_high.proofs.CountedRanks.{groups_counted-same, ranks_counted-same, group_sizes, length-groups_counted, count_of_rank-cons}

-- cards above one of the same suit are of higher ranks
later_ranks : (low suit rank : ℕ) (cards : List ℕ) → RisingFrom low cards → list_all (λ c. suit_of c == suit) cards ≡ true → (card : ℕ) → card < low → suit_of card ≡ suit → rank_of card ≡ rank → count_of_rank cards rank ≡ 0
later_ranks low suit rank [] r all card h s e = refl
later_ranks low suit rank (x ∷ cards) r all card h s e = elim (cases_eq (suit_of x) suit) [
  | inl same ↦
      let t : (suit_of x == suit) ≡ true = grind arith in
      let rest : list_all (λ c. suit_of c == suit) cards ≡ true = (rw t at all) in
      let ih : count_of_rank cards rank ≡ 0 = later_ranks (x + 1) suit rank cards r.2 rest card (omega arith) s e in
      let higher : rank_of x ≢ rank = omega arith in
      let f : (rank_of x == rank) ≡ false = grind arith in
      count_of_rank-cons x cards rank ∙ (rw f (omega arith))
  | inr other ↦ (let f : (suit_of x == suit) ≡ false = grind arith in absurd (true≢false (sym all ∙ (rw f refl))))
]

pub one_suit : (low suit rank : ℕ) (cards : List ℕ) → RisingFrom low cards → list_all (λ c. suit_of c == suit) cards ≡ true → count_of_rank cards rank ≤ 1
one_suit low suit rank [] r all = omega arith
one_suit low suit rank (x ∷ cards) r all = elim (cases_eq (suit_of x) suit) [
  | inl same ↦
      let t : (suit_of x == suit) ≡ true = grind arith in
      let rest : list_all (λ c. suit_of c == suit) cards ≡ true = (rw t at all) in
      let ih : count_of_rank cards rank ≤ 1 = one_suit (x + 1) suit rank cards r.2 rest in
      elim (cases_eq (rank_of x) rank) [
        | inl e ↦
            let none : count_of_rank cards rank ≡ 0 = later_ranks (x + 1) suit rank cards r.2 rest x (omega arith) same e in
            let u : (rank_of x == rank) ≡ true = grind arith in
            let cons : count_of_rank (x ∷ cards) rank ≡ 1 + count_of_rank cards rank = count_of_rank-cons x cards rank ∙ (rw u refl) in
            omega arith
        | inr ne ↦
            let f : (rank_of x == rank) ≡ false = grind arith in
            let cons : count_of_rank (x ∷ cards) rank ≡ 0 + count_of_rank cards rank = count_of_rank-cons x cards rank ∙ (rw f refl) in
            omega arith
      ]
  | inr other ↦ (let f : (suit_of x == suit) ≡ false = grind arith in absurd (true≢false (sym all ∙ (rw f refl))))
]

pub next_falls : (a b : ℕ) (rest : List ℕ) → falls_by_one (a ∷ b ∷ rest) ≡ true → (a ≡ b + 1) × (falls_by_one (b ∷ rest) ≡ true)
next_falls a b rest h = let parts = and_parts (a == b + 1) (falls_by_one (b ∷ rest)) h in (eqb-true a (b + 1) parts.0, parts.1)

-- the five ranks of five to ace
pub record AreWheel (a b c d e : ℕ) : Type 0 where
  pub ace : a ≡ 12
  pub five : b ≡ 3
  pub four : c ≡ 2
  pub three : d ≡ 1
  pub two : e ≡ 0

pub wheel_ranks : (a b c d e : ℕ) → is_wheel (a ∷ b ∷ c ∷ d ∷ e ∷ []) ≡ true → AreWheel a b c d e
wheel_ranks a b c d e w =
    let four = and_parts ((a == 12) && (b == 3) && (c == 2) && (d == 1)) (e == 0) w in
    let three = and_parts ((a == 12) && (b == 3) && (c == 2)) (d == 1) four.0 in
    let two = and_parts ((a == 12) && (b == 3)) (c == 2) three.0 in
    let one = and_parts (a == 12) (b == 3) two.0 in
    record { ace = eqb-true a 12 one.0; five = eqb-true b 3 one.1; four = eqb-true c 2 two.1; three = eqb-true d 1 three.1; two = eqb-true e 0 four.1 }

pub pips_plain : (ranks : List ℕ) → is_wheel ranks ≡ false → pips ranks ≡ map (λ r. r + 2) ranks
unfolding pips
pips_plain ranks w = rw w refl

pub pips_wheel : (ranks : List ℕ) → is_wheel ranks ≡ true → pips ranks ≡ 5 ∷ 4 ∷ 3 ∷ 2 ∷ 1 ∷ []
unfolding pips
pips_wheel ranks w = rw w refl
