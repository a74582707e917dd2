-- Where the all-in of a hand is counted, so is each later street: `law_later_streets_are_counted`.
use Rattle.std.proofs.Common.{◌≡◌, ℕ, ◌+◌, ◌<◌, not, Bool, true, false, List, refl, sym, ap, ◌∙◌, subst, inl, inr, length, arith}
use Rattle.std.specs.Prelude.{All, Option, Some, slice_index_or}
use Rattle.std.proofs.lemmas.Bool.{cases_lt}
use Rattle.std.proofs.lemmas.List.{get_or_default}
use mathlib.Core.Bool.{true≢false}
use Rattle.card_sets.specs.declared.streets.Street.{Street}
use Rattle.hand_audit.specs.LaterCards.{KnowsNoLessThan}
use Rattle.hand_audit.specs.Streets.{states_in, streets_of, table_in}
use Rattle.hand_audit.specs.Verdict.{audit_of}
use Rattle.hand_verdict.specs.declared.settlement.Settlement.{Settlement}
use Rattle.hand_verdict.specs.declared.streets.StreetState.{StreetState}
use Rattle.hand_verdict.specs.declared.verdicts.AllIn.{AllIn}
use Rattle.hand_verdict.specs.declared.verdicts.AllIn.TheVariants.{None as NoAllIn, Unknown, Known}
use Rattle.hand_verdict.specs.declared.verdicts.HandAudit.{HandAudit}
use Rattle.hand_verdict.specs.declared.verdicts.HandAudit.TheVariants.{Accepted}
use Rattle.even_luck.specs.Equities.{IsEquityOf}
use Rattle.hand_blocks.specs.Streets.{IsCountedStreet, IsOfStreet, IsOfTable, has_counted, is_counted_all_in}
use Rattle.even_luck.specs.Figures.{is_counted}
use Rattle.even_luck.specs.declared.equity.Equity.{Equity}
use Rattle.even_luck.proofs.CallerLemmas.{count_of}
use Rattle.showdown_tally.specs.Deals.{deal_of}
use Rattle.showdown_tally.specs.declared.table.Table.{Table}

not_so : (b : Bool) → not b ≡ true → b ≡ false
not_so true is = cc
not_so false is = refl

-- one street more of which that is known
pub one_more_counted : (table : Table) (states : List StreetState) (i : ℕ) (item : StreetState) → i < length states → item ≡ slice_index_or states i item
    → (All (KnowsNoLessThan table) states → is_counted (deal_of table) ≡ true → (k : ℕ) (d : StreetState) → k < i → IsCountedStreet (slice_index_or states k d))
    → (KnowsNoLessThan table item → is_counted (deal_of table) ≡ true → IsCountedStreet item)
    → All (KnowsNoLessThan table) states → is_counted (deal_of table) ≡ true → (k : ℕ) (d : StreetState) → k < i + 1 → IsCountedStreet (slice_index_or states k d)
one_more_counted table states i item inside is before here all counted k d l = elim (cases_lt k i) [
  | inl less ↦ before all counted k d less
  | inr past ↦
      let at : k ≡ i = omega (arith, l, past) in
      let one : slice_index_or states k d ≡ item = ap (λ n. slice_index_or states n d) at ∙ get_or_default states i d item inside ∙ sym is in
      subst IsCountedStreet (sym one) (here (subst (KnowsNoLessThan table) (sym is) (all i item inside)) counted)
]

-- the later streets of a hand by its lines know no less than its all-in
abbrev pub KnowNoLess : Type 0
KnowNoLess = (number : ℕ) (lines : List (List ℕ)) (settlement : Settlement) (street : Street) (seats : List ℕ) (table : Table) (names : List (ℕ × List ℕ)) (players : ℕ)
    → audit_of number lines ≡ Some (Accepted settlement (Known street seats table) names players) → All (KnowsNoLessThan table) (states_in lines)

pub all_counted : KnowNoLess → (audit : HandAudit) (settlement : Settlement) (all_in : AllIn) (names : List (ℕ × List ℕ)) (players : ℕ)
    → audit ≡ Accepted settlement all_in names players → (states : List StreetState)
    → ((table : Table) → table_in all_in ≡ Some table → All (KnowsNoLessThan table) states → is_counted (deal_of table) ≡ true → All IsCountedStreet states)
    → (first : ℕ) (lines : List (List ℕ)) → audit_of first lines ≡ Some audit → states ≡ streets_of audit lines → has_counted audit ≡ true → All IsCountedStreet states
all_counted know audit settlement all_in names players is states each first lines verdict same counted = by all_in refl (sym (ap has_counted is) ∙ counted)
  where
    by_lines : states ≡ states_in lines
    by_lines = same ∙ ap (λ (a : HandAudit). streets_of a lines) is

    by : (a : AllIn) → all_in ≡ a → is_counted_all_in all_in ≡ true → All IsCountedStreet states
    by NoAllIn at yes_it_is = absurd (true≢false (sym yes_it_is ∙ ap is_counted_all_in at))
    by Unknown at yes_it_is = absurd (true≢false (sym yes_it_is ∙ ap is_counted_all_in at))
    by (Known street seats table) at yes_it_is =
        each table (ap table_in at)
        (subst (All (KnowsNoLessThan table)) (sym by_lines) (know first lines settlement street seats table names players (verdict ∙ ap Some is ∙ ap (λ (x : AllIn). Some (Accepted settlement x names players)) at)))
        (sym (ap is_counted_all_in at) ∙ yes_it_is)

-- the equity of a street that is counted is its count
pub of_street : (state : StreetState) (table : Table) (equity : Equity) → state.table ≡ Some table → IsCountedStreet state → IsEquityOf (deal_of table) equity → IsOfStreet state equity
of_street state table equity is counted of_table = subst (λ (o : Option Table). IsOfTable o equity) (sym is) (count_of (deal_of table) equity (counted table is) of_table)

-- what is shown of a table is shown of the same one
pub of_that_table : (t table : Table) → Some t ≡ Some table → (states : List StreetState)
    → (All (KnowsNoLessThan t) states → is_counted (deal_of t) ≡ true → All IsCountedStreet states)
    → All (KnowsNoLessThan table) states → is_counted (deal_of table) ≡ true → All IsCountedStreet states
of_that_table t table same states each =
    let is : t ≡ table = cc in
    subst (λ (x : Table). All (KnowsNoLessThan x) states → is_counted (deal_of x) ≡ true → All IsCountedStreet states) is each
