-- Which all-ins are counted, by their equity.
use Rattle.std.proofs.Common.{◌≡◌, ℕ, ◌+◌, ◌-◌, ◌<◌, ◌≤◌, Bool, true, false, true≢false, List, [], ◌∷◌, length, sum, inl, inr, refl, sym, ◌∙◌, arith}
use Rattle.std.specs.Prelude.{nat_lt}
use Rattle.std.proofs.lemmas.Bool.{cases_lt}
use Rattle.std.proofs.lemmas.List.Sums.{sum_by-cons}
use Rattle.card_sets.specs.Rising.{IsRising-cards_where}
use Rattle.card_sets.specs.State.{State}
use Rattle.even_luck.specs.Equities.{IsCountOf, IsEquityOf, IsFull, IsRefused, is_asked}
use Rattle.even_luck.specs.Figures.{is_counted}
use Rattle.even_luck.specs.declared.equity.Equity.{Equity}
use Rattle.even_luck.specs.declared.equity.Equity.TheVariants.{NotAsked, Refused, Counted}
use Rattle.runout_ranges.specs.Jobs.{IsDeckShort, IsAboveLimit}
use Rattle.runout_ranges.specs.Slots.{unseen, slots, counts_of}
use Rattle.runout_ranges.specs.Ways.{ways}
use Rattle.runout_ranges.specs.declared.limits.JobFault.{JobFault}
use Rattle.runout_ranges.specs.declared.limits.JobFault.TheVariants.{DeckShort, AboveLimit}
use Rattle.runout_ranges.specs.declared.limits.TheConstants.{RUNOUT_MAX}
use Rattle.runout_ranges.proofs.CallerLemmas.{binomial_none, length_runouts, ways_some}
use Rattle.showdown_tally.specs.Cells.{Sums}
use Rattle.showdown_tally.specs.Showdown.{Showdown}
use Rattle.showdown_tally.specs.Tallies.{runouts_after}

-- where enough cards may come there is a runout
pub some_runout : (state : State) → sum (counts_of (slots state)) ≤ length (unseen state) → 0 < length (runouts_after state)
some_runout state enough =
    rw (length_runouts (counts_of (slots state)) (unseen state) (IsRising-cards_where _)) (ways_some (counts_of (slots state)) (length (unseen state)) enough)

ways_none : (counts : List ℕ) (left : ℕ) → left < sum counts → ways left counts ≡ 0
ways_none [] left short = absurd (omega arith)
ways_none (n ∷ counts) left short =
    let all : sum (n ∷ counts) ≡ n + sum counts = sum_by-cons (λ k. k) n counts in
    elim (cases_lt left n) [
      | inl few ↦ rw (binomial_none left n few) (omega arith)
      | inr enough ↦ rw (ways_none counts (left - n) (omega arith)) (omega arith)
    ]

-- where fewer cards may come than are lacking there is no runout
pub no_runout_left : (state : State) → IsDeckShort state → length (runouts_after state) ≡ 0
no_runout_left state short =
    length_runouts (counts_of (slots state)) (unseen state) (IsRising-cards_where _) ∙ ways_none (counts_of (slots state)) (length (unseen state)) short

-- an all-in with a tally of one runout or more is counted
pub counted_some : (deal : Showdown) (sums : Sums) → IsFull deal sums → 0 < sums.runouts → is_counted deal ≡ true
counted_some deal sums full some = elim (cases_lt (length (unseen deal.state)) (sum (counts_of (slots deal.state)))) [
  | inl short ↦ absurd (let none = no_runout_left deal.state short in let counted = full.counts.runouts in omega arith)
  | inr enough ↦
      let no_short : nat_lt (length (unseen deal.state)) (sum (counts_of (slots deal.state))) ≡ false = grind arith in
      let few = full.few in
      let within : nat_lt RUNOUT_MAX (length (runouts_after deal.state)) ≡ false = grind arith in
      rw (no_short, within) refl
]

-- one with a tally of none isn't, nor is one that is refused
pub counted_short : (deal : Showdown) → IsDeckShort deal.state → is_counted deal ≡ false
counted_short deal short =
    let yes : nat_lt (length (unseen deal.state)) (sum (counts_of (slots deal.state))) ≡ true = grind arith in
    rw yes refl

pub counted_none : (deal : Showdown) (sums : Sums) → IsFull deal sums → sums.runouts ≡ 0 → is_counted deal ≡ false
counted_none deal sums full none = elim (cases_lt (length (unseen deal.state)) (sum (counts_of (slots deal.state)))) [
  | inl short ↦ counted_short deal short
  | inr enough ↦ absurd (let some = some_runout deal.state enough in let counted = full.counts.runouts in omega arith)
]

pub counted_above : (deal : Showdown) → ¬ IsDeckShort deal.state → IsAboveLimit deal.state → is_counted deal ≡ false
counted_above deal enough above =
    let no_short : nat_lt (length (unseen deal.state)) (sum (counts_of (slots deal.state))) ≡ false = grind arith in
    let yes : nat_lt RUNOUT_MAX (length (runouts_after deal.state)) ≡ true = grind arith in
    rw (no_short, yes) refl

pub counted_refused : (deal : Showdown) (fault : JobFault) → IsRefused deal fault → is_counted deal ≡ false
counted_refused deal DeckShort short = counted_short deal short
counted_refused deal AboveLimit above = counted_above deal above.0 above.1

no_count : (b : Bool) → b ≡ true → b ≡ false → ⊥
no_count b so not_so = true≢false (sym so ∙ not_so)

-- the equity of a deal that is counted is its count
pub count_of : (deal : Showdown) (equity : Equity) → is_counted deal ≡ true → IsEquityOf deal equity → IsCountOf deal equity
count_of deal NotAsked counted is = is
count_of deal (Refused fault) counted is = absurd (no_count (is_counted deal) counted (counted_refused deal fault is))
count_of deal (Counted sums) counted full = (
  full,
  elim (cases_lt 0 sums.runouts) [
    | inl some ↦ some
    | inr none ↦ absurd (no_count (is_counted deal) counted (counted_none deal sums full (omega (arith, none))))
  ],
)

-- an equity of a deal was asked for
pub asked_of : (deal : Showdown) (equity : Equity) → IsEquityOf deal equity → is_asked equity ≡ true
asked_of deal NotAsked is = absurd is
asked_of deal (Refused fault) is = refl
asked_of deal (Counted sums) is = refl
