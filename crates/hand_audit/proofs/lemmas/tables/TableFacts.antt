-- A table holds what is put into it, and there is none where that doesn't hold.
use Rattle.std.proofs.Common.{◌≡◌, refl, ap, ◌∙◌, Bool, true, false, arith}
use Rattle.std.specs.Prelude.{Some, None, nat_le}
use Rattle.std.proofs.Props.{props}
use Rattle.showdown_tally.specs.declared.table.Table.{Table}
use Rattle.hand_audit.specs.KnownTables.{Bare, Holds, holds, with_facts, table_if, table_from, all_hold}

-- what holds of a table
holds_prop : (b : Bare) → IsProp (Holds b)
holds_prop b = hlevel props

-- what a table has
abbrev pub bare : Table → Bare
bare t = record { game = t.known.game; count = t.known.count; hands = t.known.hands; board = t.known.board; dead = t.known.dead; pots = t.pots; eligible = t.eligible }

facts : (t : Table) → Holds (bare t)
facts t = record { few = t.known.few; disjoint = t.known.disjoint; unused = t.known.unused; fitting = t.known.fitting; few_pots = t.few_pots; in_hands = t.in_hands }

all_true : (b : Bare) → Holds b → holds b ≡ true
all_true b h = let few = h.few in let few_pots = h.few_pots in let a : nat_le b.count 10 ≡ true = grind arith in let c : nat_le b.pots 10 ≡ true = grind arith in rw (a, h.disjoint, h.unused, h.fitting, c, h.in_hands) refl

one_table : (b : Bare) → (h : Holds b) → Some (with_facts b h) ≡ table_from b
unfolding table_from
one_table b h = by (holds b) refl
  where
    by : (known : Bool) (is : holds b ≡ known) → Some (with_facts b h) ≡ table_if b known is
    by true is = ap (λ (x : Holds b). Some (with_facts b x)) (holds_prop b h (all_hold b is))
    by false is = let yes : holds b ≡ true = all_true b h in cc

pub is_table : (t : Table) (b : Bare) → bare t ≡ b → Some t ≡ table_from b
unfolding with_facts facts
is_table t b e = one_table (bare t) (facts t) ∙ ap table_from e

pub no_table : (b : Bare) → holds b ≡ false → None ≡ table_from b
unfolding table_from
no_table b fails = by (holds b) refl
  where
    by : (known : Bool) (is : holds b ≡ known) → None ≡ table_if b known is
    by true is = cc
    by false is = refl
