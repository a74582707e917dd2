-- Rows and flushes in their places.
use Rattle.std.proofs.Common.{◌≡◌, ◌+◌, ◌<◌, ◌≤◌, ℕ, zero, suc, List, [], ◌∷◌, ◌++◌, length, refl, sym, ap, ◌∙◌, arith, Some, set, subst, inl, inr, take, drop, ◌-◌, get_or-set_same, get_or-set_other, ◌⊎◌}
use Rattle.std.specs.Prelude.{slice_get, slice_index, replicate}
use Rattle.std.specs.List.{slice_range}
use Rattle.std.proofs.lemmas.Bool.{cases_eq, cases_lt}
use Rattle.card_sets.specs.Cards.{rank_of}
use Rattle.showdown_tally.specs.Deals.{deal_of}
use Rattle.showdown_tally.specs.Showdown.{Showdown}
use Rattle.runout_walk.proofs.CallerLemmas.{get-other}
use Rattle.board_ranks.proofs.CallerLemmas.{get-same}
use Rattle.board_runouts.specs.Highs.{AreBestFlushes, IsBestFlush}
use Rattle.board_runouts.specs.KeptRows.{IsAway, IsBestAt, IsButAt, IsNamed, IsRowFor}
use Rattle.board_runouts.specs.SideRows.{AreRanksOf, IsSideRow}
use Rattle.board_runouts.specs.declared.row.Row.{Row}
use Rattle.board_runouts.specs.declared.start.Start.{Start}

-- what holds of all holds with one more of which it holds
pub all_set : {X : Type 0} (P : X → Type 0) (xs : List X) (place : ℕ) (v : X) → ((i : ℕ) (x : X) → slice_get xs i ≡ Some x → P x) → P v → (i : ℕ) (x : X) → slice_get (set xs place v) i ≡ Some x → P x
all_set P xs place v all is i x at = elim (cases_eq i place) [
  | inl same ↦
      let here : x ≡ v = get-same xs place v x (ap (slice_get (set xs place v)) (sym same) ∙ at) in
      subst P (sym here) is
  | inr other ↦ all i x (sym (get-other xs place i v other) ∙ at)
]

pub all_alike : {X : Type 0} (P : X → Type 0) (n : ℕ) (v : X) → P v → (i : ℕ) (x : X) → slice_get (replicate n v) i ≡ Some x → P x
all_alike P zero v is i x at = cc
all_alike P (suc n) v is zero x at = let same : v ≡ x = cc in subst P same is
all_alike P (suc n) v is (suc i) x at = all_alike P n v is i x at

-- places from a base on, one of which is set
pub group_set : {X : Type 0} (P : ℕ → X → Type 0) (xs : List X) (base pot at : ℕ) (v : X) → at ≡ base + pot → ((p : ℕ) (x : X) → p < pot → slice_get xs (base + p) ≡ Some x → P p x) → P pot v
    → (p : ℕ) (x : X) → p < pot + 1 → slice_get (set xs at v) (base + p) ≡ Some x → P p x
group_set P xs base pot at v e was is p x l found = elim (cases_lt p pot) [
  | inl less ↦ was p x less (sym (get-other xs at (base + p) v (λ s. omega arith)) ∙ found)
  | inr ge ↦
      let same : pot ≡ p = omega arith in
      let there : base + p ≡ at = omega arith in
      let here : x ≡ v = get-same xs at v x (ap (slice_get (set xs at v)) (sym there) ∙ found) in
      let Q : ℕ → Type 0 = λ k. P k x in
      subst Q same (subst (P pot) (sym here) is)
]

pub away_set : {X : Type 0} (xs old : List X) (base pot at : ℕ) (v : X) → at ≡ base + pot → ((i : ℕ) → IsAway base pot i → slice_get xs i ≡ slice_get old i)
    → (i : ℕ) → IsAway base (pot + 1) i → slice_get (set xs at v) i ≡ slice_get old i
away_set xs old base pot at v e was i away = get-other xs at i v (λ s. away pot (omega arith) (s ∙ e)) ∙ was i (λ p l s. away p (omega arith) s)

-- a place is one of those from a base on, or away from them
pub within : (base pots i : ℕ) → ((pot : ℕ) × (pot < pots) × (i ≡ base + pot)) ⊎ IsAway base pots i
within base pots i = elim (cases_lt i base) [
  | inl less ↦ inr (λ pot l e. omega arith)
  | inr ge ↦ elim (cases_lt (i - base) pots) [
    | inl inside ↦ inl (i - base, inside, omega arith)
    | inr over ↦ inr (λ pot l e. omega arith)
  ]
]

-- a row as it was but for two changes in the same place, and for none
pub but_none : (row : Row) (place : ℕ) → IsButAt row place row
but_none row place = record { pot_is = refl; ranks_are = refl; least_is = refl; mains_are = λ k ne. refl; lows_are = λ k ne. refl; tops_are = λ k ne. refl }

but_again : (was mid row : Row) (place : ℕ) → IsButAt was place mid → IsButAt mid place row → IsButAt was place row
but_again was mid row place a b = record {
  pot_is = b.pot_is ∙ a.pot_is;
  ranks_are = b.ranks_are ∙ a.ranks_are;
  least_is = b.least_is ∙ a.least_is;
  mains_are = λ k ne. b.mains_are k ne ∙ a.mains_are k ne;
  lows_are = λ k ne. b.lows_are k ne ∙ a.lows_are k ne;
  tops_are = λ k ne. b.tops_are k ne ∙ a.tops_are k ne;
}

abbrev pub WasBut : List Row → ℕ → ℕ → Row → Type 0
WasBut old place i row = (was : Row) × (slice_get old i ≡ Some was) × IsButAt was place row

pub but_set : (rows old : List Row) (place at : ℕ) (mid new : Row) → slice_get rows at ≡ Some mid → IsButAt mid place new → ((i : ℕ) (row : Row) → slice_get rows i ≡ Some row → WasBut old place i row)
    → (i : ℕ) (row : Row) → slice_get (set rows at new) i ≡ Some row → WasBut old place i row
but_set rows old place at mid new there but was i row found = elim (cases_eq i at) [
  | inl same ↦
      let here : row ≡ new = get-same rows at new row (ap (slice_get (set rows at new)) (sym same) ∙ found) in
      let before = was at mid there in
      let Q : ℕ → Type 0 = λ k. WasBut old place k row in
      let P : Row → Type 0 = λ r. WasBut old place at r in
      subst Q (sym same) (subst P (sym here) (before.0, before.1, but_again before.0 mid new place before.2 but))
  | inr other ↦ was i row (sym (get-other rows at i new other) ∙ found)
]

-- who is best at another place is as it was
pub best_other : (deal : Showdown) (pot k place : ℕ) (runout : List (List ℕ)) (was row : Row) → IsButAt was place row → (k ≡ place → ⊥) → IsBestAt deal pot runout was k → IsBestAt deal pot runout row k
best_other deal pot k place runout was row but ne best = record {
  low_set = but.lows_are k ne ∙ best.low_set;
  main_set = but.mains_are k ne ∙ best.main_set;
  best = but.tops_are k ne ∙ best.best;
}

-- a row of one pot and of these ranks
abbrev pub IsRow : Showdown → ℕ → List ℕ → ℕ → Row → Type 0
IsRow deal pot ranks least row = IsSideRow deal pot ranks least row.mains row.lows row.tops

-- it is right by what it names
pub row_right : (deal : Showdown) (pot : ℕ) (ranks : List ℕ) (least : ℕ) (row : Row) → IsNamed row pot ranks least → IsRow deal pot ranks least row → IsRow deal row.pot row.ranks row.least row
row_right deal pot ranks least row named is =
    let P : ℕ → Type 0 = λ x. IsRow deal x row.ranks row.least row in
    let Q : List ℕ → Type 0 = λ x. IsRow deal pot x row.least row in
    let L : ℕ → Type 0 = λ x. IsRow deal pot ranks x row in
    subst P (sym named.pot_is) (subst Q (sym named.ranks_are) (subst L (sym named.least_is) is))

-- a row that names these ranks is one for all first cards that have them
pub row_for : (start : Start) (pot : ℕ) (row : Row) → IsRow (deal_of start.spot.now.table) row.pot row.ranks row.least row → IsNamed row pot start.ranks start.least → IsRowFor (deal_of start.spot.now.table) pot start.taken row
row_for start pot row is named =
    let P : ℕ → Type 0 = λ p. IsRow (deal_of start.spot.now.table) p row.ranks row.least row in
    record {
      right = subst P named.pot_is is;
      of_ranks = subst (λ r. AreRanksOf r start.taken) (sym named.ranks_are) start.ranks_are;
      from_least = λ card more rises. subst (λ l. l ≤ rank_of card) (sym named.least_is) (start.from_least card more rises);
    }

-- the best flush of one pot more stands in its place
pub flush_set : (deal : Showdown) (cards : List ℕ) (suit : ℕ) (tops sets : List ℕ) (pot i j top won p : ℕ) → i ≡ pot → j ≡ pot → pot < length tops → pot < length sets → (p < pot → IsBestFlush deal p cards suit (slice_index tops p) (slice_index sets p))
    → IsBestFlush deal pot cards suit top won → p < pot + 1 → IsBestFlush deal p cards suit (slice_index (set tops i top) p) (slice_index (set sets j won) p)
flush_set deal cards suit tops sets pot i j top won p a b h l was here lt = rw (a, b) (elim (cases_lt p pot) [
  | inl less ↦
      let ne : p ≡ pot → ⊥ = λ e. omega arith in
      let old = was less in
      let same : slice_index (set tops pot top) p ≡ slice_index tops p = get_or-set_other tops pot p top 0 ne in
      record {
        greatest = same ∙ old.greatest;
        winners = λ some. get_or-set_other sets pot p won 0 ne ∙ old.winners (omega (arith, some, same));
      }
  | inr ge ↦
      let same : pot ≡ p = omega arith in
      let top_is : slice_index (set tops pot top) pot ≡ top = get_or-set_same tops pot top 0 h in
      let P : ℕ → Type 0 = λ k. IsBestFlush deal k cards suit (slice_index (set tops pot top) k) (slice_index (set sets pot won) k) in
      let there : P pot = record {
        greatest = top_is ∙ here.greatest;
        winners = λ some. get_or-set_same sets pot won 0 l ∙ here.winners (omega (arith, some, top_is));
      } in
      subst P same there
])

-- and what is kept is that of other names for the same cards
pub same_flushes : (deal : Showdown) (cards cards' tops sets : List ℕ) (suit suit' : ℕ) → cards ≡ cards' → suit ≡ suit' → AreBestFlushes deal cards suit tops sets → AreBestFlushes deal cards' suit' tops sets
same_flushes deal cards cards' tops sets suit suit' c s is =
    let C : List ℕ → Type 0 = λ x. AreBestFlushes deal x suit tops sets in
    let S : ℕ → Type 0 = λ x. AreBestFlushes deal cards' x tops sets in
    subst S s (subst C c is)

-- what stands at the front of a list that had more put after it stood there before
get-front : {X : Type 0} (xs more : List X) (i : ℕ) → i < length xs → slice_get (xs ++ more) i ≡ slice_get xs i
get-front [] more i l = absurd (omega arith)
get-front (x ∷ xs) more zero l = refl
get-front (x ∷ xs) more (suc i) l = get-front xs more i (omega arith)

pub front_stood : {X : Type 0} (all xs more : List X) (i : ℕ) (x : X) → all ≡ xs ++ more → i < length xs → slice_get all i ≡ Some x → slice_get xs i ≡ Some x
front_stood all xs more i x e l at = sym (get-front xs more i l) ∙ ap (λ list. slice_get list i) (sym e) ∙ at

-- what stands in a range
get-take : {X : Type 0} (n : ℕ) (xs : List X) (i : ℕ) (x : X) → slice_get (take n xs) i ≡ Some x → (i < n) × (slice_get xs i ≡ Some x)
get-take zero xs i x e = cc
get-take (suc n) [] i x e = cc
get-take (suc n) (y ∷ xs) zero x e = (omega arith, e)
get-take (suc n) (y ∷ xs) (suc i) x e = let r = get-take n xs i x e in (let l = r.0 in omega arith, r.1)

get-drop : {X : Type 0} (n : ℕ) (xs : List X) (i : ℕ) (x : X) → slice_get (drop n xs) i ≡ Some x → slice_get xs (n + i) ≡ Some x
get-drop zero xs i x e = let z : 0 + i ≡ i = omega arith in rw z e
get-drop (suc n) [] i x e = cc
get-drop (suc n) (y ∷ xs) i x e = let s : suc n + i ≡ suc (n + i) = omega arith in rw s (get-drop n xs i x e)

pub range-get : {X : Type 0} (xs : List X) (lo hi i : ℕ) (x : X) → slice_get (slice_range xs lo hi) i ≡ Some x → (i < hi - lo) × (slice_get xs (lo + i) ≡ Some x)
range-get xs lo hi i x e = let r = get-take (hi - lo) (drop lo xs) i x e in (r.0, get-drop lo xs i x r.1)
