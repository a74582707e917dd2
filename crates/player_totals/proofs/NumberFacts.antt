-- The players under the units of their hands and the numbers of their names.
use Rattle.std.proofs.Common.{◌≡◌, ℕ, zero, suc, ◌+◌, ◌<◌, ◌==◌, Bool, true, false, cond, ◌||◌, ◌&&◌, List, [], ◌∷◌, ◌++◌, length, take, Option, Some, None, is_some, unwrap_or, if◌then◌else◌, refl, sym, ap, subst, ◌∙◌, arith, true≢false}
use Rattle.std.specs.Prelude.{option_map}
use Rattle.std.specs.Bool.{beq}
use Rattle.std.specs.BTreeMap.{BTreeMap, Updates, btree_map_len, get, is_at}
use Rattle.std.specs.Cmp.Lexicographic.{bytes_decides}
use Rattle.std.specs.List.{AllByRecursion, IsDistinct, list_any}
use Rattle.std.specs.Map.{keys_of, lookup, set_value}
use Rattle.std.specs.Ordering.{is_eq}
use Rattle.std.specs.Rc.{rc_slice_items}
use Rattle.std.specs.Str.{bytes_eq}
use Rattle.player_totals.specs.Totals.{Player, same_player}
use Rattle.player_totals.specs.SumsSeen.{AllAreOf, with_more}
use Rattle.player_totals.specs.TotalsSeen.{AreNumbers, AreRows, StandsUnder, name_cmp, player_of, row_key, same_row, seen_rows}
use Rattle.player_totals.specs.contracts.player_key.NameOrd.TheImpl.Laws as name_laws
use Rattle.player_totals.specs.declared.player_key.Name.{Name}
use Rattle.player_totals.specs.declared.player_key.PlayerKey.{PlayerKey}
use Rattle.player_totals.specs.declared.player_rows.PlayerRow.{PlayerRow}
use Rattle.player_totals.specs.declared.player_rows.RowKey.{RowKey}

abbrev same_name : Name → Name → Bool
same_name a b = bytes_eq (rc_slice_items a.bytes) (rc_slice_items b.bytes)

-- names that are equal by their order have the same bytes
name_same : (a b : Name) → is_eq (name_cmp a b) ≡ same_name a b
name_same a b = sym (name_laws.matches_eq-law a b)

name_bytes : (a b : Name) → same_name a b ≡ true → rc_slice_items a.bytes ≡ rc_slice_items b.bytes
name_bytes a b = (bytes_decides (rc_slice_items a.bytes) (rc_slice_items b.bytes)).0

name_congr : (a b c : Name) → same_name a b ≡ true → same_name a c ≡ same_name b c
name_congr a b c same = ap (λ bytes. bytes_eq bytes (rc_slice_items c.bytes)) (name_bytes a b same)

lookup_same : {K X : Type 0} (f g : K → Bool) → ((key : K) → f key ≡ g key) → (entries : List (K × X)) → lookup f entries ≡ lookup g entries
lookup_same f g same [] = refl
lookup_same f g same (entry ∷ entries) = λ i. cond (same entry.0 i) (Some entry.1) (lookup_same f g same entries i)

-- the same name has the same number
number_congr : (numbers : BTreeMap Name ℕ) (a b : Name) → same_name a b ≡ true → get name_cmp numbers a ≡ get name_cmp numbers b
number_congr numbers a b same =
    lookup_same (is_at (name_cmp a)) (is_at (name_cmp b)) (λ c. name_same a c ∙ name_congr a b c same ∙ sym (name_same b c)) numbers.entries

some_same : {A : Type 0} (a b : A) → Some a ≡ Some b → a ≡ b
some_same a b same = ap (λ found. unwrap_or found a) same

none_some : {A : Type 0} (a : A) → None ≡ Some a → ⊥
none_some a same = true≢false (sym (ap is_some same))

-- one name more has the next number
module _ (was now : BTreeMap Name ℕ) (name copy : Name) (same : rc_slice_items copy.bytes ≡ rc_slice_items name.bytes) (numbers : AreNumbers was)
    (new : get name_cmp was name ≡ None) (updates : Updates name_cmp was now copy (Some (btree_map_len was))) where
  copied : same_name copy name ≡ true
  copied = ap (λ bytes. bytes_eq bytes (rc_slice_items name.bytes)) same ∙ (bytes_decides (rc_slice_items name.bytes) (rc_slice_items name.bytes)).1 refl

  found : (other : Name) → get name_cmp now other ≡ cond (same_name name other) (Some (btree_map_len was)) (get name_cmp was other)
  found other = updates.0 other ∙ ap (λ b. cond b (Some (btree_map_len was)) (get name_cmp was other)) (name_same copy other ∙ name_congr copy name other copied)

  not_new : (other : Name) (number : ℕ) → get name_cmp was other ≡ Some number → same_name name other ≡ false
  not_new other number had = by (same_name name other) refl
    where
      by : (b : Bool) → same_name name other ≡ b → b ≡ false
      by true is = absurd (none_some number (sym new ∙ number_congr was name other is ∙ had))
      by false is = refl

  pub number_kept : (other : Name) (number : ℕ) → get name_cmp was other ≡ Some number → get name_cmp now other ≡ Some number
  number_kept other number had =
      found other ∙ ap (λ b. cond b (Some (btree_map_len was)) (get name_cmp was other)) (not_new other number had) ∙ had

  pub number_given : get name_cmp now name ≡ Some (btree_map_len was)
  number_given =
      found name ∙ ap (λ b. cond b (Some (btree_map_len was)) (get name_cmp was name)) ((bytes_decides (rc_slice_items name.bytes) (rc_slice_items name.bytes)).1 refl)

  -- who has a number now
  has : (other : Name) (number : ℕ) → get name_cmp now other ≡ Some number →
      cond (same_name name other) (btree_map_len was ≡ number) (get name_cmp was other ≡ Some number)
  has other number at = by (same_name name other) (sym (found other) ∙ at)
    where
      by : (b : Bool) → cond b (Some (btree_map_len was)) (get name_cmp was other) ≡ Some number →
          cond b (btree_map_len was ≡ number) (get name_cmp was other ≡ Some number)
      by true is = some_same _ _ is
      by false is = is

  numbers_with : btree_map_len now ≡ btree_map_len was + 1 → AreNumbers now
  numbers_with one = record {
    below = λ other number at. low other number (same_name name other) (has other number at);
    apart = λ a b number at_a at_b. both a b number (same_name name a) (same_name name b) refl refl (has a number at_a) (has b number at_b);
  }
    where
      low : (other : Name) (number : ℕ) (b : Bool) → cond b (btree_map_len was ≡ number) (get name_cmp was other ≡ Some number) → number < btree_map_len now
      low other number true is = omega (arith, is, one)
      low other number false is = let small = numbers.below other number is in omega (arith, small, one)

      both : (a b : Name) (number : ℕ) (x y : Bool) → same_name name a ≡ x → same_name name b ≡ y →
          cond x (btree_map_len was ≡ number) (get name_cmp was a ≡ Some number) → cond y (btree_map_len was ≡ number) (get name_cmp was b ≡ Some number) → same_name a b ≡ true
      both a b number true true is_a is_b at_a at_b = sym (name_congr name a b is_a) ∙ is_b
      both a b number true false is_a is_b at_a at_b = let small = numbers.below b number at_b in absurd (omega (arith, small, at_a))
      both a b number false true is_a is_b at_a at_b = let small = numbers.below a number at_a in absurd (omega (arith, small, at_b))
      both a b number false false is_a is_b at_a at_b = numbers.apart a b number at_a at_b

  none_before : (old : Option ℕ) → old ≡ get name_cmp was copy → is_some old ≡ false
  none_before old before = ap is_some (before ∙ number_congr was copy name copied ∙ new)

  pub numbers_more : (old : Option ℕ) → old ≡ get name_cmp was copy → btree_map_len now ≡ btree_map_len was + (if is_some old then 0 else 1) → AreNumbers now
  numbers_more old before long = numbers_with (long ∙ ap (λ there. btree_map_len was + (if there then 0 else 1)) (none_before old before))

-- numbers of nobody
pub no_numbers : (numbers : BTreeMap Name ℕ) → numbers.entries ≡ [] → AreNumbers numbers
no_numbers numbers empty =
    let none : (name : Name) → get name_cmp numbers name ≡ None = λ name. ap (lookup (is_at (name_cmp name))) empty in
    record {
      below = λ name number at. absurd (none_some number (sym (none name) ∙ at));
      apart = λ a b number at_a at_b. absurd (none_some number (sym (none a) ∙ at_a));
    }

pub kept_same : (was now : BTreeMap Name ℕ) → now.entries ≡ was.entries → (other : Name) (number : ℕ) → get name_cmp was other ≡ Some number → get name_cmp now other ≡ Some number
kept_same was now same other number at = ap (lookup (is_at (name_cmp other))) same ∙ at

abbrev pub under : PlayerKey → ℕ → RowKey
under key number = record { hundredths = key.hundredths; number = number }

-- the number that a row's key has
pub key_number : (numbers : BTreeMap Name ℕ) (key : PlayerKey) (at : RowKey) → Some at ≡ row_key numbers key → (number : ℕ) × (get name_cmp numbers key.name ≡ Some number) × (at ≡ under key number)
key_number numbers key at is = by (get name_cmp numbers key.name) refl is
  where
    by : (found : Option ℕ) → get name_cmp numbers key.name ≡ found → Some at ≡ option_map (under key) found → (number : ℕ) × (get name_cmp numbers key.name ≡ Some number) × (at ≡ under key number)
    by None none is = absurd (none_some at (sym is))
    by (Some number) some is = (number, some, some_same at (under key number) is)

pub key_none : (numbers : BTreeMap Name ℕ) (key : PlayerKey) → None ≡ row_key numbers key → get name_cmp numbers key.name ≡ None
key_none numbers key is = by (get name_cmp numbers key.name) is
  where
    by : (found : Option ℕ) → None ≡ option_map (under key) found → found ≡ None
    by None none = refl
    by (Some number) some = absurd (none_some (under key number) some)

module _ {S : Type 0} where
  -- rows still stand so where more names have numbers
  pub still_under : (was now : BTreeMap Name ℕ) → ((other : Name) (number : ℕ) → get name_cmp was other ≡ Some number → get name_cmp now other ≡ Some number) →
      (rows : List (RowKey × PlayerRow S)) → AllByRecursion (StandsUnder was) rows → AllByRecursion (StandsUnder now) rows
  still_under was now kept [] all = tt
  still_under was now kept (row ∷ rows) all = ((all.0.0, kept row.1.key.name row.0.number all.0.1), still_under was now kept rows all.1)

  -- a row of a copy of the key
  pub copy_under : (numbers : BTreeMap Name ℕ) (key copy : PlayerKey) (number : ℕ) (sums : S) → player_of copy ≡ player_of key → get name_cmp numbers key.name ≡ Some number →
      StandsUnder numbers (under key number, record { key = copy; sums = sums })
  copy_under numbers key copy number sums same at = (
    sym (ap (λ (p : Player). p.hundredths) same),
    number_congr numbers copy.name key.name (ap (λ (p : Player). bytes_eq p.name (rc_slice_items key.name.bytes)) same ∙ (bytes_decides (rc_slice_items key.name.bytes) (rc_slice_items key.name.bytes)).1 refl) ∙ at,
  )

  pub under_push : (numbers : BTreeMap Name ℕ) (rows : List (RowKey × PlayerRow S)) (row : RowKey × PlayerRow S) → AllByRecursion (StandsUnder numbers) rows → StandsUnder numbers row →
      AllByRecursion (StandsUnder numbers) (rows ++ row ∷ [])
  under_push numbers [] row all one = (one, tt)
  under_push numbers (first ∷ rows) row all one = (all.0, under_push numbers rows row all.1 one)

  pub under_take : (numbers : BTreeMap Name ℕ) (count : ℕ) (rows : List (RowKey × PlayerRow S)) → AllByRecursion (StandsUnder numbers) rows → AllByRecursion (StandsUnder numbers) (take count rows)
  under_take numbers zero rows all = tt
  under_take numbers (suc count) [] all = tt
  under_take numbers (suc count) (row ∷ rows) all = (all.0, under_take numbers count rows all.1)

  pub seen_push : (rows : List (RowKey × PlayerRow S)) (row : RowKey × PlayerRow S) → seen_rows (rows ++ row ∷ []) ≡ seen_rows rows ++ (player_of row.1.key, row.1.sums) ∷ []
  seen_push [] row = refl
  seen_push (first ∷ rows) row = ap (λ later. (player_of first.1.key, first.1.sums) ∷ later) (seen_push rows row)

  pub seen_take : (count : ℕ) (rows : List (RowKey × PlayerRow S)) → seen_rows (take count rows) ≡ take count (seen_rows rows)
  seen_take zero rows = refl
  seen_take (suc count) [] = refl
  seen_take (suc count) (row ∷ rows) = ap (λ later. (player_of row.1.key, row.1.sums) ∷ later) (seen_take count rows)

  pub seen_length : (rows : List (RowKey × PlayerRow S)) → length (seen_rows rows) ≡ length rows
  seen_length [] = refl
  seen_length (row ∷ rows) = ap suc (seen_length rows)

-- a name without a number is that of no row
module _ {S : Type 0} (numbers : BTreeMap Name ℕ) (key : PlayerKey) (none : get name_cmp numbers key.name ≡ None) where
  other_player : (row : RowKey × PlayerRow S) → StandsUnder numbers row → same_player (player_of key) (player_of row.1.key) ≡ false
  other_player row stands = by (same_name key.name row.1.key.name) refl (beq key.hundredths row.1.key.hundredths)
    where
      by : (b : Bool) → same_name key.name row.1.key.name ≡ b → (unit : Bool) → (unit && same_name key.name row.1.key.name) ≡ false
      by true is unit = absurd (none_some row.0.number (sym none ∙ number_congr numbers key.name row.1.key.name is ∙ stands.1))
      by false is true = is
      by false is false = refl

  pub unnumbered_absent : (rows : List (RowKey × PlayerRow S)) → AllByRecursion (StandsUnder numbers) rows → list_any (λ row. same_player (player_of key) row.0) (seen_rows rows) ≡ false
  unnumbered_absent [] all = refl
  unnumbered_absent (row ∷ rows) all = λ i. other_player row all.0 i || unnumbered_absent rows all.1 i

  pub unnumbered_more : (plus : S → S → S) (rows : List (RowKey × PlayerRow S)) (more : S) → AllByRecursion (StandsUnder numbers) rows → seen_rows rows ≡ with_more plus (seen_rows rows) (player_of key) more
  unnumbered_more plus [] more all = refl
  unnumbered_more plus (row ∷ rows) more all =
      ap (λ later. (player_of row.1.key, row.1.sums) ∷ later) (unnumbered_more plus rows more all.1)
      ∙ ap (λ b. cond b ((player_of row.1.key, plus row.1.sums more) ∷ seen_rows rows) ((player_of row.1.key, row.1.sums) ∷ with_more plus (seen_rows rows) (player_of key) more)) (sym (other_player row all.0))

-- numbers are the same where the names are
module _ (numbers : BTreeMap Name ℕ) (given : AreNumbers numbers) (key : PlayerKey) (number : ℕ) (has_number : get name_cmp numbers key.name ≡ Some number) where
  number_same : (m : ℕ) (name : Name) → get name_cmp numbers name ≡ Some m → (number == m) ≡ same_name key.name name
  number_same m name at = by (same_name key.name name) refl
    where
      by : (b : Bool) → same_name key.name name ≡ b → (number == m) ≡ b
      by true is = let same : number ≡ m = some_same number m (sym has_number ∙ number_congr numbers key.name name is ∙ at) in grind arith
      by false is = by_number (number == m) refl
        where
          by_number : (c : Bool) → (number == m) ≡ c → c ≡ false
          by_number false differ = refl
          by_number true equal =
              let same : number ≡ m = grind arith in
              absurd (true≢false (sym (given.apart key.name name m (has_number ∙ ap Some same) at) ∙ is))

-- a row stands under the number of a name where it is that player's
module _ {S : Type 0} (numbers : BTreeMap Name ℕ) (given : AreNumbers numbers) (key : PlayerKey) (number : ℕ) (has_number : get name_cmp numbers key.name ≡ Some number) where
  row_same : (row : RowKey × PlayerRow S) → StandsUnder numbers row → same_row (under key number) row.0 ≡ same_player (player_of key) (player_of row.1.key)
  row_same row stands = λ i. beq key.hundredths (stands.0 i) && number_same numbers given key number has_number row.0.number row.1.key.name stands.1 i

  -- a look-up finds the player
  found_or : (b c : Bool) (row : PlayerRow S) (later : Option (PlayerRow S)) → is_some later ≡ c → is_some (cond b (Some row) later) ≡ (b || c)
  found_or true c row later same = refl
  found_or false c row later same = same

  pub found_any : (rows : List (RowKey × PlayerRow S)) → AllByRecursion (StandsUnder numbers) rows →
      is_some (lookup (same_row (under key number)) rows) ≡ list_any (λ row. same_player (player_of key) row.0) (seen_rows rows)
  found_any [] all = refl
  found_any (row ∷ rows) all =
      found_or _ _ row.1 _ (found_any rows all.1)
      ∙ ap (λ b. b || list_any (λ other. same_player (player_of key) other.0) (seen_rows rows)) (row_same row all.0)

  none_from : (found : Option (PlayerRow S)) → is_some found ≡ false → found ≡ None
  none_from None empty = refl
  none_from (Some row) empty = cc

  pub absent_row : (rows : List (RowKey × PlayerRow S)) → AllByRecursion (StandsUnder numbers) rows → list_any (λ row. same_player (player_of key) row.0) (seen_rows rows) ≡ false →
      lookup (same_row (under key number)) rows ≡ None
  absent_row rows all absent = none_from (lookup (same_row (under key number)) rows) (found_any rows all ∙ absent)

  -- the sums that are found are of so many hands
  pub found_small : (AreOf : ℕ → S → Type 0) (count : ℕ) (rows : List (RowKey × PlayerRow S)) (row : PlayerRow S) → AllAreOf AreOf count (seen_rows rows) →
      lookup (same_row (under key number)) rows ≡ Some row → AreOf count row.sums
  found_small AreOf count [] row small = λ found. absurd (none_some row found)
  found_small AreOf count (first ∷ rows) row small = by (same_row (under key number) first.0) (found_small AreOf count rows row small.1)
    where
      by : (b : Bool) → (lookup (same_row (under key number)) rows ≡ Some row → AreOf count row.sums) → cond b (Some first.1) (lookup (same_row (under key number)) rows) ≡ Some row → AreOf count row.sums
      by true later found = subst (λ (r : PlayerRow S). AreOf count r.sums) (some_same first.1 row found) small.0
      by false later found = later found

  -- more for a player who is there
  pub more_found : (plus : S → S → S) (rows : List (RowKey × PlayerRow S)) (row : PlayerRow S) (sums more : S) → AllByRecursion (StandsUnder numbers) rows →
      lookup (same_row (under key number)) rows ≡ Some row → sums ≡ plus row.sums more →
      (seen_rows (set_value (same_row (under key number)) rows (record { key = row.key; sums = sums })) ≡ with_more plus (seen_rows rows) (player_of key) more)
      × AllByRecursion (StandsUnder numbers) (set_value (same_row (under key number)) rows (record { key = row.key; sums = sums }))
  more_found plus [] row sums more all = λ found is. absurd (none_some row found)
  more_found plus (first ∷ rows) row sums more all =
      by (same_row (under key number) first.0) (same_player (player_of key) (player_of first.1.key)) (row_same first all.0) (more_found plus rows row sums more all.1)
    where
      written : List (RowKey × PlayerRow S)
      written = set_value (same_row (under key number)) rows (record { key = row.key; sums = sums })

      by : (b c : Bool) → b ≡ c → (lookup (same_row (under key number)) rows ≡ Some row → sums ≡ plus row.sums more →
          (seen_rows written ≡ with_more plus (seen_rows rows) (player_of key) more) × AllByRecursion (StandsUnder numbers) written) →
          cond b (Some first.1) (lookup (same_row (under key number)) rows) ≡ Some row → sums ≡ plus row.sums more →
          (seen_rows (cond b ((first.0, record { key = row.key; sums = sums }) ∷ rows) (first ∷ written))
          ≡ cond c ((player_of first.1.key, plus first.1.sums more) ∷ seen_rows rows) ((player_of first.1.key, first.1.sums) ∷ with_more plus (seen_rows rows) (player_of key) more))
          × AllByRecursion (StandsUnder numbers) (cond b ((first.0, record { key = row.key; sums = sums }) ∷ rows) (first ∷ written))
      by true true same later found is =
          let one : row ≡ first.1 = sym (some_same first.1 row found) in (
            (λ i. (player_of ((one i).key), (is ∙ ap (λ (r : PlayerRow S). plus r.sums more) one) i) ∷ seen_rows rows),
            (subst (λ (r : PlayerRow S). StandsUnder numbers (first.0, record { key = r.key; sums = sums })) (sym one) all.0, all.1),
          )
      by true false same later found is = absurd (true≢false same)
      by false true same later found is = absurd (true≢false (sym same))
      by false false same later found is =
          let rest = later found is in
          (ap (λ more_rows. (player_of first.1.key, first.1.sums) ∷ more_rows) rest.0, (all.0, rest.1))

  pub more_absent : (plus : S → S → S) (rows : List (RowKey × PlayerRow S)) (more : S) → AllByRecursion (StandsUnder numbers) rows →
      lookup (same_row (under key number)) rows ≡ None → seen_rows rows ≡ with_more plus (seen_rows rows) (player_of key) more
  more_absent plus [] more all = λ none. refl
  more_absent plus (first ∷ rows) more all = by (same_row (under key number) first.0) (same_player (player_of key) (player_of first.1.key)) (row_same first all.0) (more_absent plus rows more all.1)
    where
      by : (b c : Bool) → b ≡ c → (lookup (same_row (under key number)) rows ≡ None → seen_rows rows ≡ with_more plus (seen_rows rows) (player_of key) more) →
          cond b (Some first.1) (lookup (same_row (under key number)) rows) ≡ None →
          (player_of first.1.key, first.1.sums) ∷ seen_rows rows
          ≡ cond c ((player_of first.1.key, plus first.1.sums more) ∷ seen_rows rows) ((player_of first.1.key, first.1.sums) ∷ with_more plus (seen_rows rows) (player_of key) more)
      by true c same later none = absurd (none_some first.1 (sym none))
      by false true same later none = absurd (true≢false (sym same))
      by false false same later none = ap (λ rest. (player_of first.1.key, first.1.sums) ∷ rest) (later none)

-- rows under keys of which no two are equal are those of players of whom no two are the same
module _ {S : Type 0} (numbers : BTreeMap Name ℕ) (given : AreNumbers numbers) where
  apart_seen : (row : RowKey × PlayerRow S) → StandsUnder numbers row → (rows : List (RowKey × PlayerRow S)) → AllByRecursion (StandsUnder numbers) rows →
      AllByRecursion (λ other. same_row row.0 other ≡ false) (keys_of rows) → AllByRecursion (λ other. same_player (player_of row.1.key) other ≡ false) (keys_of (seen_rows rows))
  apart_seen row stands [] all apart = tt
  apart_seen row stands (other ∷ rows) all apart = (
    sym (row_same numbers given row.1.key row.0.number stands.1 other all.0)
        ∙ ap (λ unit. beq unit other.0.hundredths && (row.0.number == other.0.number)) (sym stands.0) ∙ apart.0,
    apart_seen row stands rows all.1 apart.1,
  )

  pub distinct_seen : (rows : List (RowKey × PlayerRow S)) → AllByRecursion (StandsUnder numbers) rows → IsDistinct same_row (keys_of rows) → IsDistinct same_player (keys_of (seen_rows rows))
  unfolding IsDistinct
  distinct_seen [] all distinct = tt
  distinct_seen (row ∷ rows) all distinct = (apart_seen row all.0 rows all.1 distinct.0, distinct_seen rows all.1 distinct.1)

module _ {S : Type 0} where
  -- no row
  pub no_rows : (numbers : BTreeMap Name ℕ) → numbers.entries ≡ [] → AreRows {S = S} numbers []
  unfolding IsDistinct
  no_rows numbers empty = record { given = no_numbers numbers empty; stand = tt; distinct = tt }

  -- the rows where more names have numbers
  pub rows_more : (was now : BTreeMap Name ℕ) (rows : List (RowKey × PlayerRow S)) → AreNumbers now → ((other : Name) (number : ℕ) → get name_cmp was other ≡ Some number → get name_cmp now other ≡ Some number) →
      AreRows was rows → AreRows now rows
  rows_more was now rows given kept before = record { given = given; stand = still_under was now kept rows before.stand; distinct = before.distinct }

  -- with one row more
  pub rows_pushed : (numbers : BTreeMap Name ℕ) (rows : List (RowKey × PlayerRow S)) (row : RowKey × PlayerRow S) (now : List (RowKey × PlayerRow S)) → now ≡ rows ++ row ∷ [] → AreRows numbers rows →
      StandsUnder numbers row → IsDistinct same_row (keys_of now) → AreRows numbers now
  rows_pushed numbers rows row now is before stands distinct =
      record { given = before.given; stand = subst (AllByRecursion (StandsUnder numbers)) (sym is) (under_push numbers rows row before.stand stands); distinct = distinct }

  -- with some first rows alone
  pub rows_cut : (numbers : BTreeMap Name ℕ) (count : ℕ) (rows now : List (RowKey × PlayerRow S)) → now ≡ take count rows → AreRows numbers rows → IsDistinct same_row (keys_of now) → AreRows numbers now
  rows_cut numbers count rows now is before distinct =
      record { given = before.given; stand = subst (AllByRecursion (StandsUnder numbers)) (sym is) (under_take numbers count rows before.stand); distinct = distinct }
