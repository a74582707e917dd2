-- How clauses see the totals that the code keeps, how a hand changes them, and what keeps their sums small.
use Rattle.std.specs.Prelude.{ℕ, ◌≡◌, ◌+◌, ◌*◌, ◌^◌, ◌<◌, ◌≤◌, ◌==◌, ◌&&◌, Bool, true, false, if◌then◌else◌, List, map, take, Option, None, Some, is_none, option_and_then, option_map, slice_get}
use Rattle.std.proofs.Common.{arith}
use Rattle.std.specs.BTreeMap.{BTreeMap, btree_map_len, get}
use Rattle.std.specs.Bool.{beq}
use Rattle.std.specs.Int.{bit_at}
use Rattle.std.specs.List.{AllByRecursion, IsDistinct}
use Rattle.std.specs.Map.{keys_of}
use Rattle.std.specs.Option.{option_map_or}
use Rattle.std.specs.Rc.{rc_slice_items}
use Rattle.std.specs.Str.{bytes_eq}
use Rattle.std.specs.declared.cmp.Ordering.{Ordering}
use Rattle.hand_events.specs.Names.{seat_named}
use Rattle.even_luck.specs.Seats.{Seated}
use Rattle.player_totals.specs.SumsSeen.{AreSums}
use Rattle.player_totals.specs.Totals.{Player, no_sums, playing}
use Rattle.player_totals.specs.declared.player_sums.PlayerSums.{PlayerSums}
use Rattle.player_totals.specs.declared.player_key.Name.{Name}
use Rattle.player_totals.specs.declared.player_key.PlayerKey.{PlayerKey}
use Rattle.player_totals.specs.declared.player_rows.PlayerRow.{PlayerRow}
use Rattle.player_totals.specs.declared.player_rows.RowKey.{RowKey}
use Rattle.player_totals.specs.contracts.player_key.NameOrd.TheImpl as name_ord

-- a name with its unit
abbrev pub player_of : PlayerKey → Player
player_of key = record { hundredths = key.hundredths; name = rc_slice_items key.name.bytes }

-- the players with their sums
abbrev pub seen_rows : {S : Type 0} → List (RowKey × PlayerRow S) → List (Player × S)
seen_rows rows = map (λ row. (player_of row.1.key, row.1.sums)) rows

-- the order of the names
abbrev pub name_cmp : Name → Name → Ordering
name_cmp = (name_ord.ghosts).cmp

-- some names have numbers below the count of them, and no two the same
pub record AreNumbers (numbers : BTreeMap Name ℕ) : Type 0 where
  pub below : (name : Name) (number : ℕ) → get name_cmp numbers name ≡ Some number → number < btree_map_len numbers
  pub apart : (a b : Name) (number : ℕ) → get name_cmp numbers a ≡ Some number → get name_cmp numbers b ≡ Some number →
      bytes_eq (rc_slice_items a.bytes) (rc_slice_items b.bytes) ≡ true

-- a row stands under the unit and the number of its name
abbrev pub StandsUnder : {S : Type 0} → BTreeMap Name ℕ → RowKey × PlayerRow S → Type 0
StandsUnder numbers row = (row.0.hundredths ≡ row.1.key.hundredths) × (get name_cmp numbers row.1.key.name ≡ Some row.0.number)

-- rows under the same key
abbrev pub same_row : RowKey → RowKey → Bool
same_row a b = beq a.hundredths b.hundredths && (a.number == b.number)

-- the rows of players whose names have numbers, each under a key of its own
pub record AreRows {S : Type 0} (numbers : BTreeMap Name ℕ) (rows : List (RowKey × PlayerRow S)) : Type 0 where
  pub given : AreNumbers numbers
  pub stand : AllByRecursion (StandsUnder numbers) rows
  pub distinct : IsDistinct same_row (keys_of rows)

-- the key of a player's row, where his name has a number
abbrev pub row_key : BTreeMap Name ℕ → PlayerKey → Option RowKey
row_key numbers key = option_map (λ number. record { hundredths = key.hundredths; number = number }) (get name_cmp numbers key.name)

-- a player of a hand in a unit
abbrev pub named_player : Bool → List ℕ → Player
named_player hundredths name = record { hundredths = hundredths; name = name }

-- sums of two parts of the hands
abbrev pub plus : PlayerSums → PlayerSums → PlayerSums
plus a b = record {
  hands = a.hands + b.hands;
  all_ins = a.all_ins + b.all_ins;
  collected = a.collected + b.collected;
  expected = a.expected + b.expected;
}

-- the seat line at a place, where the seat plays
abbrev pub player_at : Seated → ℕ → ℕ → Option (ℕ × List ℕ)
player_at names players place =
    option_and_then (λ who. if bit_at players who.0 == 1 then Some who else None)
    (slice_get names place)

-- whether a seat line is there and has the name
abbrev pub has_name : List ℕ → Option (ℕ × List ℕ) → Bool
has_name text found = option_map_or (λ who. bytes_eq who.1 text) found false

-- the seat line at a place, where the seat plays and no seat that plays has the name before
abbrev pub first_at : Seated → ℕ → ℕ → Option (ℕ × List ℕ)
first_at names players place =
    option_and_then (λ who.
    if is_none (seat_named who.1 (playing (take place names) players)) then Some who else None)
    (player_at names players place)

-- sums that a number of hands may give a player: one hand gives at most 2 ^ 95 units
pub record AreOfHands (count : ℕ) (sums : PlayerSums) : Type 0 where
  pub hands : sums.hands ≤ count
  pub all_ins : sums.all_ins ≤ count
  pub collected : sums.collected ≤ count * 2 ^ 95
  pub expected : sums.expected ≤ count * 2 ^ 95

-- they are sums
pub totals_are_sums : AreSums no_sums plus AreOfHands
totals_are_sums = record {
  before = λ a.
      let hands : 0 + a.hands ≡ a.hands = omega arith in
      let all_ins : 0 + a.all_ins ≡ a.all_ins = omega arith in
      let collected : 0 + a.collected ≡ a.collected = omega arith in
      let expected : 0 + a.expected ≡ a.expected = omega arith in
      λ i. record { hands = hands i; all_ins = all_ins i; collected = collected i; expected = expected i };
  behind = λ a.
      let hands : a.hands + 0 ≡ a.hands = omega arith in
      let all_ins : a.all_ins + 0 ≡ a.all_ins = omega arith in
      let collected : a.collected + 0 ≡ a.collected = omega arith in
      let expected : a.expected + 0 ≡ a.expected = omega arith in
      λ i. record { hands = hands i; all_ins = all_ins i; collected = collected i; expected = expected i };
  joined = λ a b c.
      let hands : a.hands + b.hands + c.hands ≡ a.hands + (b.hands + c.hands) = omega arith in
      let all_ins : a.all_ins + b.all_ins + c.all_ins ≡ a.all_ins + (b.all_ins + c.all_ins) = omega arith in
      let collected : a.collected + b.collected + c.collected ≡ a.collected + (b.collected + c.collected) = omega arith in
      let expected : a.expected + b.expected + c.expected ≡ a.expected + (b.expected + c.expected) = omega arith in
      λ i. record { hands = hands i; all_ins = all_ins i; collected = collected i; expected = expected i };
  none = λ count. record { hands = omega arith; all_ins = omega arith; collected = omega arith; expected = omega arith };
  one = λ count a b many few.
      let hands = many.hands in
      let all_ins = many.all_ins in
      let collected = many.collected in
      let expected = many.expected in
      let hand = few.hands in
      let all_in = few.all_ins in
      let got = few.collected in
      let hoped = few.expected in
      record { hands = omega arith; all_ins = omega arith; collected = omega arith; expected = omega arith };
  more = λ count most a within small.
      let hands = small.hands in
      let all_ins = small.all_ins in
      let collected = small.collected in
      let expected = small.expected in
      record { hands = omega arith; all_ins = omega arith; collected = omega arith; expected = omega arith };
}
