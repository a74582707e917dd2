-- The ranks of some cards in order, and what they decide.
use Rattle.std.proofs.Common.{◌≡◌, ℕ, suc, ◌+◌, ◌≤◌, ◌<◌, ◌==◌, List, ◌∷◌, [], refl, ap, ◌∙◌, sym, arith, true, false, cond, length, inl, inr, map, subst}
use Rattle.std.specs.List.{count_by}
use Rattle.std.proofs.lemmas.List.Sums.{sum_by-cons}
use Rattle.std.proofs.lemmas.Bool.{cases_eq, cases_lt}
use Rattle.card_sets.specs.Cards.{rank_of, IsCardSet, RisingFrom}
use Rattle.card_sets.specs.Choose.{choose}
use Rattle.card_sets.specs.Rising.{IsCardSet-rising}
use Rattle.rank_high.specs.High.{count_of_rank}
use Rattle.rank_high.specs.Parts.{plain_high, RanksDecide}
use Rattle.rank_high.proofs.CountedRanks.{groups_counted-same, ranks_counted-same, count_of_rank-cons}
use Rattle.card_sets.proofs.CallerLemmas.{greatest, IsPart, greatest_most, greatest_least, part_of_image, image_of_part}
use Rattle.rank_high.proofs.RanksOrSuit.{plain_number, best_plain-number}

-- how often a rank is in a list of ranks
abbrev pub times : List ℕ → ℕ → ℕ
times ranks rank = count_by (λ r. r == rank) ranks

times-cons : (r : ℕ) (ranks : List ℕ) (rank : ℕ) → times (r ∷ ranks) rank ≡ cond (r == rank) 1 0 + times ranks rank
times-cons r ranks rank = sum_by-cons (λ s. cond (s == rank) 1 0) r ranks

-- the cards of a rank are the times that it is among their ranks
pub times-ranks : (cards : List ℕ) (rank : ℕ) → count_of_rank cards rank ≡ times (map rank_of cards) rank
times-ranks [] rank = refl
times-ranks (c ∷ cards) rank =
    let ih : count_of_rank cards rank ≡ times (map rank_of cards) rank = times-ranks cards rank in
    omega (arith, count_of_rank-cons c cards rank, times-cons (rank_of c) (map rank_of cards) rank)

-- not falling, and none below a number
abbrev pub Climbs : ℕ → List ℕ → Type 0
Climbs low [] = Unit {0}
Climbs low (r ∷ ranks) = (low ≤ r) × Climbs r ranks

Climbs-lower : (low low' : ℕ) (ranks : List ℕ) → low' ≤ low → Climbs low ranks → Climbs low' ranks
Climbs-lower low low' [] h c = tt
Climbs-lower low low' (r ∷ ranks) h c = (omega arith, c.1)

Climbs-ranks : (low : ℕ) (cards : List ℕ) → RisingFrom low cards → Climbs (rank_of low) (map rank_of cards)
Climbs-ranks low [] r = tt
Climbs-ranks low (c ∷ cards) r =
    let up : rank_of low ≤ rank_of c = omega arith in
    let over : rank_of c ≤ rank_of (c + 1) = omega arith in
    (up, Climbs-lower (rank_of (c + 1)) (rank_of c) (map rank_of cards) over (Climbs-ranks (c + 1) cards r.2))

-- a rank below all isn't there
times-below : (low : ℕ) (ranks : List ℕ) (rank : ℕ) → Climbs low ranks → rank < low → times ranks rank ≡ 0
times-below low [] rank c h = refl
times-below low (r ∷ ranks) rank c h =
    let no : (r == rank) ≡ false = (let l : rank < r = omega arith in grind arith) in
    let ih : times ranks rank ≡ 0 = times-below r ranks rank c.1 (omega arith) in
    times-cons r ranks rank ∙ rw (no, ih) refl

times-head : (r : ℕ) (ranks : List ℕ) → times (r ∷ ranks) r ≡ 1 + times ranks r
times-head r ranks = let t : (r == r) ≡ true = grind arith in times-cons r ranks r ∙ rw t refl

one_same : (r s rank : ℕ) → r ≡ s → cond {A = ℕ} (r == rank) 1 0 ≡ cond {A = ℕ} (s == rank) 1 0
one_same r s rank e = ap (λ k. cond {A = ℕ} (k == rank) 1 0) e

-- lists of ranks in order that have each rank as often are the same
same_ranks : (low : ℕ) (ranks others : List ℕ) → Climbs low ranks → Climbs low others → ((rank : ℕ) → times ranks rank ≡ times others rank) → ranks ≡ others
same_ranks low [] [] c d h = refl
same_ranks low [] (s ∷ others) c d h = absurd (omega (arith, h s, times-head s others))
same_ranks low (r ∷ ranks) [] c d h = absurd (omega (arith, h r, times-head r ranks))
same_ranks low (r ∷ ranks) (s ∷ others) c d h = elim (cases_eq r s) [
  | inl e ↦
      let rest : ranks ≡ others = same_ranks r ranks others c.1 (let P : ℕ → Type 0 = λ k. Climbs k others in subst P (sym e) d.1)
      (λ rank. omega (arith, one_same r s rank e, h rank, times-cons r ranks rank, times-cons s others rank)) in
      cc
  | inr ne ↦ elim (cases_lt r s) [
    | inl l ↦
        let none : times others r ≡ 0 = times-below s others r d.1 l in
        let no : (s == r) ≡ false = grind arith in
        let zero_here : times (s ∷ others) r ≡ 0 = times-cons s others r ∙ rw (no, none) refl in
        absurd (omega (arith, h r, times-head r ranks))
    | inr ge ↦
        let l : s < r = omega arith in
        let none : times ranks s ≡ 0 = times-below r ranks s c.1 l in
        let no : (r == s) ≡ false = grind arith in
        let zero_here : times (r ∷ ranks) s ≡ 0 = times-cons r ranks s ∙ rw (no, none) refl in
        absurd (omega (arith, h s, times-head s others))
  ]
]

-- cards are below 52, so ranks are below 13
times-high : (low : ℕ) (cards : List ℕ) (rank : ℕ) → RisingFrom low cards → 13 ≤ rank → count_of_rank cards rank ≡ 0
times-high low [] rank r h = refl
times-high low (c ∷ cards) rank r h =
    let no : (rank_of c == rank) ≡ false = (let l : rank_of c < rank = omega arith in grind arith) in
    let ih : count_of_rank cards rank ≡ 0 = times-high (c + 1) cards rank r.2 h in
    count_of_rank-cons c cards rank ∙ rw (no, ih) refl

pub same-rank_lists : (a b : List ℕ) → IsCardSet a → IsCardSet b → ((rank : ℕ) → rank < 13 → count_of_rank a rank ≡ count_of_rank b rank) → map rank_of a ≡ map rank_of b
same-rank_lists a b p q h =
    same_ranks 0 (map rank_of a) (map rank_of b) (Climbs-ranks 0 a (IsCardSet-rising a p)) (Climbs-ranks 0 b (IsCardSet-rising b q))
    (λ rank. sym (times-ranks a rank) ∙ elim (cases_lt rank 13) [
      | inl l ↦ h rank l
      | inr ge ↦ times-high 0 a rank (IsCardSet-rising a p) ge ∙ sym (times-high 0 b rank (IsCardSet-rising b q) ge)
    ] ∙ times-ranks b rank)

-- five cards with the same ranks are worth the same by them
plain_number-same : (five other : List ℕ) → map rank_of five ≡ map rank_of other → plain_number five ≡ plain_number other
unfolding plain_high
plain_number-same five other e =
    let same : (rank : ℕ) → rank < 13 → count_of_rank five rank ≡ count_of_rank other rank = λ rank l. times-ranks five rank ∙ ap (λ l. times l rank) e ∙ sym (times-ranks other rank) in
    rw (groups_counted-same (count_of_rank five) (count_of_rank other) same, ranks_counted-same (count_of_rank five) (count_of_rank other) 4 same, ranks_counted-same (count_of_rank five) (count_of_rank other) 3 same, ranks_counted-same (count_of_rank five) (count_of_rank other) 2 same) refl

length-map-rank : (cards : List ℕ) → length (map rank_of cards) ≡ length cards
length-map-rank [] = refl
length-map-rank (c ∷ cards) = ap suc (length-map-rank cards)

plain-most : (a b : List ℕ) → map rank_of a ≡ map rank_of b → greatest (map plain_number (choose 5 a)) ≤ greatest (map plain_number (choose 5 b))
plain-most a b e = greatest_most 5 a plain_number (greatest (map plain_number (choose 5 b))) (λ part five p.
    let image : IsPart (map rank_of part) (map rank_of b) = (let P : List ℕ → Type 0 = λ l. IsPart (map rank_of part) l in subst P e (image_of_part rank_of part a p)) in
    let other = part_of_image rank_of (map rank_of part) b image in
    let long : length other.0 ≡ 5 = sym (length-map-rank other.0) ∙ ap length other.2 ∙ length-map-rank part ∙ five in
    let at : plain_number other.0 ≤ greatest (map plain_number (choose 5 b)) = greatest_least 5 b plain_number other.0 long other.1 in
    let same : plain_number part ≡ plain_number other.0 = plain_number-same part other.0 (sym other.2) in
    omega arith)

pub ranks_decide : RanksDecide
ranks_decide a b p q h =
    let e : map rank_of a ≡ map rank_of b = same-rank_lists a b p q h in
    omega (arith, best_plain-number a, best_plain-number b, plain-most a b e, plain-most b a (sym e))
