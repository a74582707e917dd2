-- How often each two of three sets win both sides, by how some highs and their lows stand to others.
use Rattle.std.proofs.Common.{◌≡◌, ℕ, ◌+◌, ◌*◌, ◌^◌, ◌<◌, ◌≤◌, ◌==◌, ◌&&◌, Bool, true, false, cond, List, [], ◌∷◌, length, set, take, get_or, refl, sym, ap, ◌∙◌, arith, inl, inr, Some, subst}
use Rattle.std.specs.Prelude.{bit_and, nat_le, nat_lt, slice_get, slice_index, slice_index_or}
use Rattle.std.proofs.Math.ListN.{length-set}
use Rattle.std.proofs.lemmas.Bool.{cases_lt, cases_order}
use Rattle.std.proofs.lemmas.List.{length-take, take_all}
use Rattle.std.proofs.lemmas.Option.{slice_get-get_or}
use mir.Val.{bool_byte}
use Rattle.card_sets.specs.declared.games.Side.{Side}
use Rattle.card_sets.specs.declared.games.Side.TheVariants.{High, Low}
use Rattle.showdown_tally.specs.SideCounts.{count_at, low_mark}
use Rattle.runout_walk.specs.OneMore.{set_place}
use Rattle.draw_runouts.specs.LastHand.{AddsTwo, AreCounted, AreOrders, ArePairOrders, ArePairSums, ArePairsStepped, AreStepped, AreTwoCounted, AreTwoStepped, HavePairRoom, HaveRoom, HaveTwoRoom, count_both, is_above, is_below, is_equal, is_least, is_most, marked_times, on_both, on_high, on_low, pick, times_at, times_of, top_at, total_of, winner_by, won_at}
use Rattle.draw_runouts.specs.declared.orders.Orders.{Orders}
use Rattle.draw_runouts.specs.declared.orders.PotSums.{PotSums}
use Rattle.draw_runouts.specs.declared.pairs.PairSums.{PairSums}
use Rattle.draw_runouts.specs.declared.pairs.PairOrders.{PairOrders}
use Rattle.draw_runouts.specs.declared.winners.Winners.{Winners}
use Rattle.draw_runouts.proofs.DrawOrders.{both_more, both_most, both_same, byte_is, other_row, same_row, stepped_all, stepped_more, stepped_none, stepped_room, top_here, won_here}

-- sums of one draw more, of all draws and of fewer pots, and their room
counted_more : (test : ℕ → ℕ → ℕ → Bool) (pots : ℕ) (values lows : List ℕ) (i : ℕ) (sums new : List ℕ) → i < length values → i < length lows → AreCounted test pots (take i values) (take i lows) sums
    → AreStepped (test (get_or values i 0) (get_or lows i 0)) pots sums new → AreCounted test pots (take (i + 1) values) (take (i + 1) lows) new
counted_more test pots values lows i sums new inside also was step = record {
  counts = λ pot l.
      let p : ℕ → ℕ → Bool = λ v w. test v w pot in
      let more : slice_index new pot ≡ slice_index sums pot + cond (p (get_or values i 0) (get_or lows i 0)) 1 0 = step.done pot l in
      let next : count_both p (take (i + 1) values) (take (i + 1) lows) ≡ count_both p (take i values) (take i lows) + cond (p (get_or values i 0) (get_or lows i 0)) 1 0 = both_more p values lows i 0 inside also in
      let so_far : slice_index sums pot ≡ count_both p (take i values) (take i lows) = was.counts pot l in
      omega (arith, more, next, so_far);
  ten = step.same ∙ was.ten;
}

counted_all : (test : ℕ → ℕ → ℕ → Bool) (pots : ℕ) (values lows : List ℕ) (i : ℕ) (sums : List ℕ) → length values ≤ i → length lows ≤ i → AreCounted test pots (take i values) (take i lows) sums → AreCounted test pots values lows sums
counted_all test pots values lows i sums end also was =
    let P : List ℕ → Type 0 = λ l. AreCounted test pots l (take i lows) sums in
    let Q : List ℕ → Type 0 = λ l. AreCounted test pots values l sums in
    subst Q (take_all i lows also) (subst P (take_all i values end) was)

counted_fewer : (test : ℕ → ℕ → ℕ → Bool) (n pots : ℕ) (values lows sums : List ℕ) → pots ≤ n → AreCounted test n values lows sums → AreCounted test pots values lows sums
counted_fewer test n pots values lows sums few was = record { counts = λ pot l. was.counts pot (omega arith); ten = was.ten }

counted_room : (test : ℕ → ℕ → ℕ → Bool) (pots : ℕ) (values lows : List ℕ) (i : ℕ) (sums : List ℕ) → pots ≤ 10 → i < length values → length values < 2 ^ 32 → AreCounted test pots (take i values) (take i lows) sums → HaveRoom pots sums
counted_room test pots values lows i sums ten inside few was = record {
  places = (let size = was.ten in omega arith);
  fits = λ pot l. omega (arith, was.counts pot l, both_most (λ v w. test v w pot) (take i values) (take i lows), length-take i values, inside, few);
}

-- the same of two sums
two_more : (most least : ℕ → ℕ → ℕ → Bool) (pots : ℕ) (values lows : List ℕ) (i : ℕ) (sums new : PotSums) → i < length values → i < length lows → AreTwoCounted most least pots (take i values) (take i lows) sums
    → AreTwoStepped (most (get_or values i 0) (get_or lows i 0)) (least (get_or values i 0) (get_or lows i 0)) pots sums new → AreTwoCounted most least pots (take (i + 1) values) (take (i + 1) lows) new
two_more most least pots values lows i sums new inside also was step = record {
  at_most = counted_more most pots values lows i sums.at_most new.at_most inside also was.at_most step.at_most;
  at_least = counted_more least pots values lows i sums.at_least new.at_least inside also was.at_least step.at_least;
}

two_all : (most least : ℕ → ℕ → ℕ → Bool) (pots : ℕ) (values lows : List ℕ) (i : ℕ) (sums : PotSums) → length values ≤ i → length lows ≤ i → AreTwoCounted most least pots (take i values) (take i lows) sums → AreTwoCounted most least pots values lows sums
two_all most least pots values lows i sums end also was = record {
  at_most = counted_all most pots values lows i sums.at_most end also was.at_most;
  at_least = counted_all least pots values lows i sums.at_least end also was.at_least;
}

two_fewer : (most least : ℕ → ℕ → ℕ → Bool) (n pots : ℕ) (values lows : List ℕ) (sums : PotSums) → pots ≤ n → AreTwoCounted most least n values lows sums → AreTwoCounted most least pots values lows sums
two_fewer most least n pots values lows sums few was = record {
  at_most = counted_fewer most n pots values lows sums.at_most few was.at_most;
  at_least = counted_fewer least n pots values lows sums.at_least few was.at_least;
}

two_room : (most least : ℕ → ℕ → ℕ → Bool) (pots : ℕ) (values lows : List ℕ) (i : ℕ) (sums : PotSums) → pots ≤ 10 → i < length values → length values < 2 ^ 32 → AreTwoCounted most least pots (take i values) (take i lows) sums → HaveTwoRoom pots sums
two_room most least pots values lows i sums ten inside few was = record {
  at_most = counted_room most pots values lows i sums.at_most ten inside few was.at_most;
  at_least = counted_room least pots values lows i sums.at_least ten inside few was.at_least;
}

-- and of all eight
pub pairs_more : (highs lows : List Winners) (pots : ℕ) (values low_values : List ℕ) (i : ℕ) (sums new : PairSums) → i < length values → length low_values ≡ length values → ArePairSums highs lows pots (take i values) (take i low_values) sums
    → ArePairsStepped highs lows (get_or values i 0) (get_or low_values i 0) pots sums new → ArePairSums highs lows pots (take (i + 1) values) (take (i + 1) low_values) new
pairs_more highs lows pots values low_values i sums new inside each was step =
    let also : i < length low_values = omega arith in
    record {
      of_highs = two_more (on_high (is_most highs)) (on_high (is_least highs)) pots values low_values i sums.highs new.highs inside also was.of_highs step.of_highs;
      of_lows = two_more (on_low (is_most lows)) (on_low (is_least lows)) pots values low_values i sums.lows new.lows inside also was.of_lows step.of_lows;
      with_most = two_more (on_both (is_most lows) (is_most highs)) (on_both (is_most lows) (is_least highs)) pots values low_values i sums.low_most new.low_most inside also was.with_most step.with_most;
      with_least = two_more (on_both (is_least lows) (is_most highs)) (on_both (is_least lows) (is_least highs)) pots values low_values i sums.low_least new.low_least inside also was.with_least step.with_least;
    }

pub pairs_all : (highs lows : List Winners) (pots : ℕ) (values low_values : List ℕ) (i : ℕ) (sums : PairSums) → length values ≤ i → length low_values ≡ length values → ArePairSums highs lows pots (take i values) (take i low_values) sums
    → ArePairSums highs lows pots values low_values sums
pairs_all highs lows pots values low_values i sums end each was =
    let also : length low_values ≤ i = omega arith in
    record {
      of_highs = two_all (on_high (is_most highs)) (on_high (is_least highs)) pots values low_values i sums.highs end also was.of_highs;
      of_lows = two_all (on_low (is_most lows)) (on_low (is_least lows)) pots values low_values i sums.lows end also was.of_lows;
      with_most = two_all (on_both (is_most lows) (is_most highs)) (on_both (is_most lows) (is_least highs)) pots values low_values i sums.low_most end also was.with_most;
      with_least = two_all (on_both (is_least lows) (is_most highs)) (on_both (is_least lows) (is_least highs)) pots values low_values i sums.low_least end also was.with_least;
    }

pub pairs_fewer : (highs lows : List Winners) (n pots : ℕ) (values low_values : List ℕ) (sums : PairSums) → pots ≤ n → ArePairSums highs lows n values low_values sums → ArePairSums highs lows pots values low_values sums
pairs_fewer highs lows n pots values low_values sums few was = record {
  of_highs = two_fewer (on_high (is_most highs)) (on_high (is_least highs)) n pots values low_values sums.highs few was.of_highs;
  of_lows = two_fewer (on_low (is_most lows)) (on_low (is_least lows)) n pots values low_values sums.lows few was.of_lows;
  with_most = two_fewer (on_both (is_most lows) (is_most highs)) (on_both (is_most lows) (is_least highs)) n pots values low_values sums.low_most few was.with_most;
  with_least = two_fewer (on_both (is_least lows) (is_most highs)) (on_both (is_least lows) (is_least highs)) n pots values low_values sums.low_least few was.with_least;
}

pub pairs_room : (highs lows : List Winners) (pots : ℕ) (values low_values : List ℕ) (i : ℕ) (sums : PairSums) → pots ≤ 10 → i < length values → length values < 2 ^ 32 → ArePairSums highs lows pots (take i values) (take i low_values) sums → HavePairRoom pots sums
pairs_room highs lows pots values low_values i sums ten inside few was = record {
  of_highs = two_room (on_high (is_most highs)) (on_high (is_least highs)) pots values low_values i sums.highs ten inside few was.of_highs;
  of_lows = two_room (on_low (is_most lows)) (on_low (is_least lows)) pots values low_values i sums.lows ten inside few was.of_lows;
  with_most = two_room (on_both (is_most lows) (is_most highs)) (on_both (is_most lows) (is_least highs)) pots values low_values i sums.low_most ten inside few was.with_most;
  with_least = two_room (on_both (is_least lows) (is_most highs)) (on_both (is_least lows) (is_least highs)) pots values low_values i sums.low_least ten inside few was.with_least;
}

-- sums of one pot more
two_none : (most least : ℕ → Bool) (sums : PotSums) → AreTwoStepped most least 0 sums sums
two_none most least sums = record { at_most = stepped_none most sums.at_most; at_least = stepped_none least sums.at_least }

two_next : (most least : ℕ → Bool) (pot place under over : ℕ) (old mid new : PotSums) → place ≡ pot → under ≡ cond (most pot) 1 0 → over ≡ cond (least pot) 1 0 → AddsTwo place under over mid new → AreTwoStepped most least pot old mid → AreTwoStepped most least (pot + 1) old new
two_next most least pot place under over old mid new at one other put was = record {
  at_most = stepped_more most pot place under old.at_most mid.at_most new.at_most at one put.at_most put.same_most was.at_most;
  at_least = stepped_more least pot place over old.at_least mid.at_least new.at_least at other put.at_least put.same_least was.at_least;
}

pub pairs_none : (highs lows : List Winners) (value low : ℕ) (sums : PairSums) → ArePairsStepped highs lows value low 0 sums sums
pairs_none highs lows value low sums = record {
  of_highs = two_none (on_high (is_most highs) value low) (on_high (is_least highs) value low) sums.highs;
  of_lows = two_none (on_low (is_most lows) value low) (on_low (is_least lows) value low) sums.lows;
  with_most = two_none (on_both (is_most lows) (is_most highs) value low) (on_both (is_most lows) (is_least highs) value low) sums.low_most;
  with_least = two_none (on_both (is_least lows) (is_most highs) value low) (on_both (is_least lows) (is_least highs) value low) sums.low_least;
}

pub pairs_end : (highs lows : List Winners) (value low pot pots : ℕ) (old new : PairSums) → pot ≡ pots → ArePairsStepped highs lows value low pot old new → ArePairsStepped highs lows value low pots old new
pairs_end highs lows value low pot pots old new e was = let P : ℕ → Type 0 = λ n. ArePairsStepped highs lows value low n old new in subst P e was

-- how a draw stands in a pot: four numbers that are 0 or 1
pub record AreBits (highs lows : List Winners) (value low pot under over low_under low_over : ℕ) : Type 0 where
  pub high_most : under ≡ cond (is_most highs value pot) 1 0
  pub high_least : over ≡ cond (is_least highs value pot) 1 0
  pub low_most : low_under ≡ cond (is_most lows low pot) 1 0
  pub low_least : low_over ≡ cond (is_least lows low pot) 1 0

bits_are : (a b : Bool) → bit_and (cond a 1 0) (cond b 1 0) ≡ cond (a && b) 1 0
bits_are true true = refl
bits_are true false = refl
bits_are false true = refl
bits_are false false = refl

bits_and : (a b : Bool) (m n : ℕ) → m ≡ cond a 1 0 → n ≡ cond b 1 0 → bit_and m n ≡ cond (a && b) 1 0
bits_and a b m n d e = ap (λ k. bit_and k n) d ∙ ap (λ k. bit_and (cond a 1 0) k) e ∙ bits_are a b

pub pairs_next : (highs lows : List Winners) (value low pot place under over low_under low_over : ℕ) (old mid new : PairSums) → place ≡ pot → AreBits highs lows value low pot under over low_under low_over
    → AddsTwo place under over mid.highs new.highs → AddsTwo place low_under low_over mid.lows new.lows
    → AddsTwo place (bit_and low_under under) (bit_and low_under over) mid.low_most new.low_most → AddsTwo place (bit_and low_over under) (bit_and low_over over) mid.low_least new.low_least
    → ArePairsStepped highs lows value low pot old mid → ArePairsStepped highs lows value low (pot + 1) old new
pairs_next highs lows value low pot place under over low_under low_over old mid new at bits put_highs put_lows put_most put_least was = record {
  of_highs = two_next (on_high (is_most highs) value low) (on_high (is_least highs) value low) pot place under over old.highs mid.highs new.highs at bits.high_most bits.high_least put_highs was.of_highs;
  of_lows = two_next (on_low (is_most lows) value low) (on_low (is_least lows) value low) pot place low_under low_over old.lows mid.lows new.lows at bits.low_most bits.low_least put_lows was.of_lows;
  with_most = two_next (on_both (is_most lows) (is_most highs) value low) (on_both (is_most lows) (is_least highs) value low) pot place (bit_and low_under under) (bit_and low_under over) old.low_most mid.low_most new.low_most at
      (bits_and (is_most lows low pot) (is_most highs value pot) low_under under bits.low_most bits.high_most) (bits_and (is_most lows low pot) (is_least highs value pot) low_under over bits.low_most bits.high_least) put_most was.with_most;
  with_least = two_next (on_both (is_least lows) (is_most highs) value low) (on_both (is_least lows) (is_least highs) value low) pot place (bit_and low_over under) (bit_and low_over over) old.low_least mid.low_least new.low_least at
      (bits_and (is_least lows low pot) (is_most highs value pot) low_over under bits.low_least bits.high_most) (bits_and (is_least lows low pot) (is_least highs value pot) low_over over bits.low_least bits.high_least) put_least was.with_least;
}

-- there is room for what is added next
pub record FitTwo (place under over : ℕ) (sums : PotSums) : Type 0 where
  pub at_most : slice_index sums.at_most place + under < 2 ^ 32
  pub at_least : slice_index sums.at_least place + over < 2 ^ 32

two_fit : (most least : ℕ → Bool) (pot pots place under over : ℕ) (old new : PotSums) → place ≡ pot → pot < pots → under ≡ cond (most pot) 1 0 → over ≡ cond (least pot) 1 0 → HaveTwoRoom pots old → AreTwoStepped most least pot old new → FitTwo place under over new
two_fit most least pot pots place under over old new at l one other room was = record {
  at_most = (stepped_room most pot pots place under old.at_most new.at_most (most pot) at l one room.at_most was.at_most).1;
  at_least = (stepped_room least pot pots place over old.at_least new.at_least (least pot) at l other room.at_least was.at_least).1;
}

pub record FitPairs (place under over low_under low_over : ℕ) (sums : PairSums) : Type 0 where
  pub of_highs : FitTwo place under over sums.highs
  pub of_lows : FitTwo place low_under low_over sums.lows
  pub with_most : FitTwo place (bit_and low_under under) (bit_and low_under over) sums.low_most
  pub with_least : FitTwo place (bit_and low_over under) (bit_and low_over over) sums.low_least

pub pairs_fit : (highs lows : List Winners) (value low pot pots place under over low_under low_over : ℕ) (old new : PairSums) → place ≡ pot → pot < pots → AreBits highs lows value low pot under over low_under low_over → HavePairRoom pots old
    → ArePairsStepped highs lows value low pot old new → FitPairs place under over low_under low_over new
pairs_fit highs lows value low pot pots place under over low_under low_over old new at l bits room was = record {
  of_highs = two_fit (on_high (is_most highs) value low) (on_high (is_least highs) value low) pot pots place under over old.highs new.highs at l bits.high_most bits.high_least room.of_highs was.of_highs;
  of_lows = two_fit (on_low (is_most lows) value low) (on_low (is_least lows) value low) pot pots place low_under low_over old.lows new.lows at l bits.low_most bits.low_least room.of_lows was.of_lows;
  with_most = two_fit (on_both (is_most lows) (is_most highs) value low) (on_both (is_most lows) (is_least highs) value low) pot pots place (bit_and low_under under) (bit_and low_under over) old.low_most new.low_most at l
      (bits_and (is_most lows low pot) (is_most highs value pot) low_under under bits.low_most bits.high_most) (bits_and (is_most lows low pot) (is_least highs value pot) low_under over bits.low_most bits.high_least) room.with_most was.with_most;
  with_least = two_fit (on_both (is_least lows) (is_most highs) value low) (on_both (is_least lows) (is_least highs) value low) pot pots place (bit_and low_over under) (bit_and low_over over) old.low_least new.low_least at l
      (bits_and (is_least lows low pot) (is_most highs value pot) low_over under bits.low_least bits.high_most) (bits_and (is_least lows low pot) (is_least highs value pot) low_over over bits.low_least bits.high_least) room.with_least was.with_least;
}

-- draws that pass one of two tests, or one of three
both_sum : (p q t : ℕ → ℕ → Bool) (values lows : List ℕ) → ((v w : ℕ) → cond (p v w) 1 0 + cond (q v w) 1 0 ≡ cond (t v w) 1 0) → count_both p values lows + count_both q values lows ≡ count_both t values lows
both_sum p q t [] lows each = refl
both_sum p q t (v ∷ values) [] each = refl
both_sum p q t (v ∷ values) (w ∷ lows) each = omega (arith, each v w, both_sum p q t values lows each)

both_sums : (p q r t : ℕ → ℕ → Bool) (values lows : List ℕ) → ((v w : ℕ) → cond (p v w) 1 0 + cond (q v w) 1 0 + cond (r v w) 1 0 ≡ cond (t v w) 1 0)
    → count_both p values lows + count_both q values lows + count_both r values lows ≡ count_both t values lows
both_sums p q r t [] lows each = refl
both_sums p q r t (v ∷ values) [] each = refl
both_sums p q r t (v ∷ values) (w ∷ lows) each = omega (arith, each v w, both_sums p q r t values lows each)

and_sum : (g a b : Bool) → cond a 1 0 + cond b 1 0 ≡ 1 → cond (g && a) 1 0 + cond (g && b) 1 0 ≡ cond g 1 0
and_sum true a b e = e
and_sum false a b e = refl

and_sums : (g a b c : Bool) → cond a 1 0 + cond b 1 0 + cond c 1 0 ≡ 1 → cond (g && a) 1 0 + cond (g && b) 1 0 + cond (g && c) 1 0 ≡ cond g 1 0
and_sums true a b c e = e
and_sums false a b c e = refl

below_or_least : (v t : ℕ) → cond (nat_lt v t) 1 0 + cond (nat_le t v) 1 0 ≡ 1
below_or_least v t = elim (cases_lt v t) [
  | inl l ↦
      let x : nat_lt v t ≡ true = grind arith in
      let y : nat_le t v ≡ false = grind arith in
      rw (x, y) refl
  | inr ge ↦
      let x : nat_lt v t ≡ false = grind arith in
      let y : nat_le t v ≡ true = grind arith in
      rw (x, y) refl
]

three_orders : (v t : ℕ) → cond (nat_lt v t) 1 0 + cond (v == t) 1 0 + cond (nat_lt t v) 1 0 ≡ 1
three_orders v t = elim (cases_order v t) [
  | inl e ↦
      let x : nat_lt v t ≡ false = grind arith in
      let y : (v == t) ≡ true = grind arith in
      let z : nat_lt t v ≡ false = grind arith in
      rw (x, y, z) refl
  | inr other ↦ elim other [
    | inl l ↦
        let x : nat_lt v t ≡ true = grind arith in
        let y : (v == t) ≡ false = grind arith in
        let z : nat_lt t v ≡ false = grind arith in
        rw (x, y, z) refl
    | inr g ↦
        let x : nat_lt v t ≡ false = grind arith in
        let y : (v == t) ≡ false = grind arith in
        let z : nat_lt t v ≡ true = grind arith in
        rw (x, y, z) refl
  ]
]

-- three numbers of draws: all that pass a test, and of these those where a number is at most another and at least that
pub record AreParts (passes : ℕ → ℕ → Bool) (number : ℕ → ℕ → ℕ) (top : ℕ) (values lows : List ℕ) (all most least : ℕ) : Type 0 where
  pub all_is : all ≡ count_both passes values lows
  pub most_is : most ≡ count_both (λ v w. passes v w && nat_le (number v w) top) values lows
  pub least_is : least ≡ count_both (λ v w. passes v w && nat_le top (number v w)) values lows

below_sum : (p : ℕ → ℕ → Bool) (k : ℕ → ℕ → ℕ) (top : ℕ) (values lows : List ℕ) → count_both (λ v w. p v w && nat_lt (k v w) top) values lows + count_both (λ v w. p v w && nat_le top (k v w)) values lows ≡ count_both p values lows
below_sum p k top values lows = both_sum (λ v w. p v w && nat_lt (k v w) top) (λ v w. p v w && nat_le top (k v w)) p values lows (λ v w. and_sum (p v w) (nat_lt (k v w) top) (nat_le top (k v w)) (below_or_least (k v w) top))

above_sum : (p : ℕ → ℕ → Bool) (k : ℕ → ℕ → ℕ) (top : ℕ) (values lows : List ℕ) → count_both (λ v w. p v w && nat_lt top (k v w)) values lows + count_both (λ v w. p v w && nat_le (k v w) top) values lows ≡ count_both p values lows
above_sum p k top values lows = both_sum (λ v w. p v w && nat_lt top (k v w)) (λ v w. p v w && nat_le (k v w) top) p values lows (λ v w. and_sum (p v w) (nat_lt top (k v w)) (nat_le (k v w) top) (below_or_least top (k v w)))

orders_sum : (p : ℕ → ℕ → Bool) (k : ℕ → ℕ → ℕ) (top : ℕ) (values lows : List ℕ)
    → count_both (λ v w. p v w && nat_lt (k v w) top) values lows + count_both (λ v w. p v w && (k v w == top)) values lows + count_both (λ v w. p v w && nat_lt top (k v w)) values lows ≡ count_both p values lows
orders_sum p k top values lows =
    both_sums (λ v w. p v w && nat_lt (k v w) top) (λ v w. p v w && (k v w == top)) (λ v w. p v w && nat_lt top (k v w)) p values lows (λ v w. and_sums (p v w) (nat_lt (k v w) top) (k v w == top) (nat_lt top (k v w)) (three_orders (k v w) top))

-- what the three numbers are taken for, and what comes of them
pub record AreWithin (all most least : ℕ) : Type 0 where
  pub most_in : most ≤ all
  pub least_in : least ≤ all
  pub each : all ≤ most + least

pub parts_within : (passes : ℕ → ℕ → Bool) (number : ℕ → ℕ → ℕ) (top : ℕ) (values lows : List ℕ) (all most least : ℕ) → AreParts passes number top values lows all most least → AreWithin all most least
parts_within passes number top values lows all most least parts =
    let a = parts.all_is in let m = parts.most_is in let l = parts.least_is in
    record {
      most_in = omega (arith, a, m, above_sum passes number top values lows);
      least_in = omega (arith, a, l, below_sum passes number top values lows);
      each = omega (arith, a, m, l, above_sum passes number top values lows, below_sum passes number top values lows, orders_sum passes number top values lows);
    }

pub parts_orders : (passes : ℕ → ℕ → Bool) (number : ℕ → ℕ → ℕ) (top : ℕ) (values lows : List ℕ) (all most least : ℕ) (orders : Orders) → AreParts passes number top values lows all most least
    → orders.below + least ≡ all → orders.above + most ≡ all → total_of orders ≡ all → AreOrders passes number top values lows orders
parts_orders passes number top values lows all most least orders parts b a t =
    let a_is = parts.all_is in let m_is = parts.most_is in let l_is = parts.least_is in
    record {
      below = omega (arith, a_is, l_is, b, below_sum passes number top values lows);
      equal = omega (arith, a_is, m_is, l_is, a, b, t, above_sum passes number top values lows, below_sum passes number top values lows, orders_sum passes number top values lows);
      above = omega (arith, a_is, m_is, a, above_sum passes number top values lows);
    }

-- all draws
pub both_all : (values lows : List ℕ) → length lows ≡ length values → count_both (λ v w. true) values lows ≡ length values
both_all [] lows e = refl
both_all (v ∷ values) [] e = absurd (omega arith)
both_all (v ∷ values) (w ∷ lows) e = omega (arith, both_all values lows (omega arith))

and_swap : (a b : Bool) → (a && b) ≡ (b && a)
and_swap true true = refl
and_swap true false = refl
and_swap false true = refl
and_swap false false = refl

pub both_swap : (p q : ℕ → ℕ → Bool) (values lows : List ℕ) → count_both (λ v w. p v w && q v w) values lows ≡ count_both (λ v w. q v w && p v w) values lows
both_swap p q values lows = both_same (λ v w. p v w && q v w) (λ v w. q v w && p v w) values lows (λ v w. and_swap (p v w) (q v w))

-- the four numbers are how a draw stands to the greatest of the others
bits_of : (highs lows : List Winners) (value low i pot under over low_under low_over : ℕ) (r q : Winners) → i ≡ pot → i < length highs → i < length lows → r ≡ get_or highs i r → q ≡ get_or lows i q
    → under ≡ bool_byte (nat_le value r.top) → over ≡ bool_byte (nat_le r.top value) → low_under ≡ bool_byte (nat_le low q.top) → low_over ≡ bool_byte (nat_le q.top low)
    → AreBits highs lows value low pot under over low_under low_over
bits_of highs lows value low i pot under over low_under low_over r q at inside also r_is q_is a b d e = record {
  high_most = a ∙ byte_is (nat_le value r.top) ∙ ap (λ t. cond (nat_le value t) 1 0) top;
  high_least = b ∙ byte_is (nat_le r.top value) ∙ ap (λ t. cond (nat_le t value) 1 0) top;
  low_most = d ∙ byte_is (nat_le low q.top) ∙ ap (λ t. cond (nat_le low t) 1 0) low_top;
  low_least = e ∙ byte_is (nat_le q.top low) ∙ ap (λ t. cond (nat_le t low) 1 0) low_top;
}
  where
    top : r.top ≡ top_at highs pot
    top = sym (top_here highs i r (slice_get-get_or highs i r inside ∙ ap Some (sym r_is))) ∙ ap (top_at highs) at

    low_top : q.top ≡ top_at lows pot
    low_top = sym (top_here lows i q (slice_get-get_or lows i q also ∙ ap Some (sym q_is))) ∙ ap (top_at lows) at

pub fit_of : (highs lows : List Winners) (value low i pot pots place under over low_under low_over : ℕ) (old new : PairSums) (r q : Winners) → i ≡ pot → place ≡ pot → pot < pots → pots ≤ length highs → pots ≤ length lows → r ≡ get_or highs i r → q ≡ get_or lows i q
    → under ≡ bool_byte (nat_le value r.top) → over ≡ bool_byte (nat_le r.top value) → low_under ≡ bool_byte (nat_le low q.top) → low_over ≡ bool_byte (nat_le q.top low)
    → HavePairRoom pots old → ArePairsStepped highs lows value low pot old new → FitPairs place under over low_under low_over new
fit_of highs lows value low i pot pots place under over low_under low_over old new r q at there l in_highs in_lows r_is q_is a b d e room was =
    pairs_fit highs lows value low pot pots place under over low_under low_over old new there l (bits_of highs lows value low i pot under over low_under low_over r q at (omega arith) (omega arith) r_is q_is a b d e) room was

pub next_of : (highs lows : List Winners) (value low i pot pots place under over low_under low_over : ℕ) (old mid new : PairSums) (r q : Winners) → i ≡ pot → place ≡ pot → pot < pots → pots ≤ length highs → pots ≤ length lows → r ≡ get_or highs i r → q ≡ get_or lows i q
    → under ≡ bool_byte (nat_le value r.top) → over ≡ bool_byte (nat_le r.top value) → low_under ≡ bool_byte (nat_le low q.top) → low_over ≡ bool_byte (nat_le q.top low)
    → AddsTwo place under over mid.highs new.highs → AddsTwo place low_under low_over mid.lows new.lows
    → AddsTwo place (bit_and low_under under) (bit_and low_under over) mid.low_most new.low_most → AddsTwo place (bit_and low_over under) (bit_and low_over over) mid.low_least new.low_least
    → ArePairsStepped highs lows value low pot old mid → ArePairsStepped highs lows value low (pot + 1) old new
next_of highs lows value low i pot pots place under over low_under low_over old mid new r q at there l in_highs in_lows r_is q_is a b d e put_highs put_lows put_most put_least was =
    pairs_next highs lows value low pot place under over low_under low_over old mid new there (bits_of highs lows value low i pot under over low_under low_over r q at (omega arith) (omega arith) r_is q_is a b d e) put_highs put_lows put_most put_least was

-- the sums of a pot are such numbers: of all highs, of all lows, and of the highs where the low is at most another or at least that
pub high_parts : (highs lows : List Winners) (at : ℕ) (values low_values : List ℕ) (sums : PairSums) → ArePairSums highs lows (at + 1) values low_values sums → length low_values ≡ length values
    → AreParts (λ v w. true) (λ v w. v) (top_at highs at) values low_values (length values) (slice_index sums.highs.at_most at) (slice_index sums.highs.at_least at)
high_parts highs lows at values low_values sums are each =
    let here : at < at + 1 = omega arith in
    record { all_is = sym (both_all values low_values each); most_is = are.of_highs.at_most.counts at here; least_is = are.of_highs.at_least.counts at here }

pub low_parts : (highs lows : List Winners) (at : ℕ) (values low_values : List ℕ) (sums : PairSums) → ArePairSums highs lows (at + 1) values low_values sums → length low_values ≡ length values
    → AreParts (λ v w. true) (λ v w. w) (top_at lows at) values low_values (length values) (slice_index sums.lows.at_most at) (slice_index sums.lows.at_least at)
low_parts highs lows at values low_values sums are each =
    let here : at < at + 1 = omega arith in
    record { all_is = sym (both_all values low_values each); most_is = are.of_lows.at_most.counts at here; least_is = are.of_lows.at_least.counts at here }

pub most_parts : (highs lows : List Winners) (at : ℕ) (values low_values : List ℕ) (sums : PairSums) → ArePairSums highs lows (at + 1) values low_values sums
    → AreParts (λ v w. is_most lows w at) (λ v w. v) (top_at highs at) values low_values (slice_index sums.lows.at_most at) (slice_index sums.low_most.at_most at) (slice_index sums.low_most.at_least at)
most_parts highs lows at values low_values sums are =
    let here : at < at + 1 = omega arith in
    record { all_is = are.of_lows.at_most.counts at here; most_is = are.with_most.at_most.counts at here; least_is = are.with_most.at_least.counts at here }

pub least_parts : (highs lows : List Winners) (at : ℕ) (values low_values : List ℕ) (sums : PairSums) → ArePairSums highs lows (at + 1) values low_values sums
    → AreParts (λ v w. is_least lows w at) (λ v w. v) (top_at highs at) values low_values (slice_index sums.lows.at_least at) (slice_index sums.low_least.at_most at) (slice_index sums.low_least.at_least at)
least_parts highs lows at values low_values sums are =
    let here : at < at + 1 = omega arith in
    record { all_is = are.of_lows.at_least.counts at here; most_is = are.with_least.at_most.counts at here; least_is = are.with_least.at_least.counts at here }

-- and so are the highs' orders in these, for the lows in each order of the high
pub record AreThreeParts (highs lows : List Winners) (at : ℕ) (values low_values : List ℕ) (high most least : Orders) : Type 0 where
  pub below : AreParts (λ v w. is_below highs v at) (λ v w. w) (top_at lows at) values low_values high.below most.below least.below
  pub equal : AreParts (λ v w. is_equal highs v at) (λ v w. w) (top_at lows at) values low_values high.equal most.equal least.equal
  pub above : AreParts (λ v w. is_above highs v at) (λ v w. w) (top_at lows at) values low_values high.above most.above least.above

pub three_parts : (highs lows : List Winners) (at : ℕ) (values low_values : List ℕ) (sums : PairSums) (high most least : Orders) → ArePairSums highs lows (at + 1) values low_values sums → length low_values ≡ length values
    → high.below + slice_index sums.highs.at_least at ≡ length values → high.above + slice_index sums.highs.at_most at ≡ length values → total_of high ≡ length values
    → most.below + slice_index sums.low_most.at_least at ≡ slice_index sums.lows.at_most at → most.above + slice_index sums.low_most.at_most at ≡ slice_index sums.lows.at_most at → total_of most ≡ slice_index sums.lows.at_most at
    → least.below + slice_index sums.low_least.at_least at ≡ slice_index sums.lows.at_least at → least.above + slice_index sums.low_least.at_most at ≡ slice_index sums.lows.at_least at → total_of least ≡ slice_index sums.lows.at_least at
    → AreThreeParts highs lows at values low_values high most least
three_parts highs lows at values low_values sums high most least are each hb ha ht mb ma mt lb la lt =
    let h = parts_orders (λ v w. true) (λ v w. v) (top_at highs at) values low_values (length values) (slice_index sums.highs.at_most at) (slice_index sums.highs.at_least at) high (high_parts highs lows at values low_values sums are each) hb ha ht in
    let m = parts_orders (λ v w. is_most lows w at) (λ v w. v) (top_at highs at) values low_values (slice_index sums.lows.at_most at) (slice_index sums.low_most.at_most at) (slice_index sums.low_most.at_least at) most (most_parts highs lows at values low_values sums are) mb ma mt in
    let l = parts_orders (λ v w. is_least lows w at) (λ v w. v) (top_at highs at) values low_values (slice_index sums.lows.at_least at) (slice_index sums.low_least.at_most at) (slice_index sums.low_least.at_least at) least (least_parts highs lows at values low_values sums are) lb la lt in
    record {
      below = record {
        all_is = h.below;
        most_is = m.below ∙ both_swap (λ v w. is_most lows w at) (λ v w. is_below highs v at) values low_values;
        least_is = l.below ∙ both_swap (λ v w. is_least lows w at) (λ v w. is_below highs v at) values low_values;
      };
      equal = record {
        all_is = h.equal;
        most_is = m.equal ∙ both_swap (λ v w. is_most lows w at) (λ v w. is_equal highs v at) values low_values;
        least_is = l.equal ∙ both_swap (λ v w. is_least lows w at) (λ v w. is_equal highs v at) values low_values;
      };
      above = record {
        all_is = h.above;
        most_is = m.above ∙ both_swap (λ v w. is_most lows w at) (λ v w. is_above highs v at) values low_values;
        least_is = l.above ∙ both_swap (λ v w. is_least lows w at) (λ v w. is_above highs v at) values low_values;
      };
    }

-- in all there are as many as draws
orders_total : (p : ℕ → ℕ → Bool) (k : ℕ → ℕ → ℕ) (top : ℕ) (values lows : List ℕ) (orders : Orders) → AreOrders p k top values lows orders → total_of orders ≡ count_both p values lows
orders_total p k top values lows orders are = let b = are.below in let e = are.equal in let a = are.above in omega (arith, b, e, a, orders_sum p k top values lows)

pub low_total : (highs lows : List Winners) (pot : ℕ) (values low_values : List ℕ) (orders : PairOrders) → length low_values ≡ length values → ArePairOrders highs lows pot values low_values orders → total_of orders.all ≡ length values
low_total highs lows pot values low_values orders each are = orders_total (λ v w. true) (λ v w. w) (top_at lows pot) values low_values orders.all are.all ∙ both_all values low_values each

pub high_total : (highs lows : List Winners) (pot : ℕ) (values low_values : List ℕ) (orders : PairOrders) → length low_values ≡ length values → ArePairOrders highs lows pot values low_values orders
    → total_of orders.below + total_of orders.equal + total_of orders.above ≡ length values
high_total highs lows pot values low_values orders each are =
    let below : total_of orders.below ≡ count_both (λ v w. is_below highs v pot) values low_values = orders_total (λ v w. is_below highs v pot) (λ v w. w) (top_at lows pot) values low_values orders.below are.below in
    let equal : total_of orders.equal ≡ count_both (λ v w. is_equal highs v pot) values low_values = orders_total (λ v w. is_equal highs v pot) (λ v w. w) (top_at lows pot) values low_values orders.equal are.equal in
    let above : total_of orders.above ≡ count_both (λ v w. is_above highs v pot) values low_values = orders_total (λ v w. is_above highs v pot) (λ v w. w) (top_at lows pot) values low_values orders.above are.above in
    omega (arith, below, equal, above, orders_sum (λ v w. true) (λ v w. v) (top_at highs pot) values low_values, both_all values low_values each)

-- what is added at a place, by who wins there
both_none : (p : ℕ → ℕ → Bool) (values lows : List ℕ) → count_both (λ v w. p v w && false) values lows ≡ 0
both_none p [] lows = refl
both_none p (v ∷ values) [] = refl
both_none p (v ∷ values) (w ∷ lows) = ap (λ b. cond b 1 0 + count_both (λ v w. p v w && false) values lows) (and_swap (p v w) false) ∙ omega (arith, both_none p values lows)

times_both : (winners place : ℕ) (p : ℕ → ℕ → Bool) (values lows : List ℕ) → times_at winners (count_both p values lows) place ≡ count_both (λ v w. p v w && (winners == place)) values lows
times_both winners place p values lows = go (winners == place)
  where
    go : (b : Bool) → cond b (count_both p values lows) 0 ≡ count_both (λ v w. p v w && b) values lows
    go true = both_same p (λ v w. p v w && true) values lows (λ v w. and_swap true (p v w))
    go false = sym (both_none p values lows)

one_wins : (g : Bool) (x top b e a place : ℕ)
    → cond ((g && nat_lt x top) && (b == place)) 1 0 + cond ((g && (x == top)) && (e == place)) 1 0 + cond ((g && nat_lt top x) && (a == place)) 1 0 ≡ cond (g && (winner_by top b e a x == place)) 1 0
one_wins false x top b e a place = refl
one_wins true x top b e a place = elim (cases_order x top) [
  | inl same ↦
      let i : nat_lt x top ≡ false = grind arith in
      let j : (x == top) ≡ true = grind arith in
      let k : nat_lt top x ≡ false = grind arith in
      rw (i, j, k) (omega arith)
  | inr other ↦ elim other [
    | inl l ↦
        let i : nat_lt x top ≡ true = grind arith in
        let j : (x == top) ≡ false = grind arith in
        let k : nat_lt top x ≡ false = grind arith in
        rw (i, j, k) (omega arith)
    | inr g ↦
        let i : nat_lt x top ≡ false = grind arith in
        let j : (x == top) ≡ false = grind arith in
        let k : nat_lt top x ≡ true = grind arith in
        rw (i, j, k) (omega arith)
  ]
]

orders_win : (p : ℕ → ℕ → Bool) (k : ℕ → ℕ → ℕ) (top : ℕ) (values lows : List ℕ) (orders : Orders) (b e a place : ℕ) → AreOrders p k top values lows orders
    → times_of b e a orders place ≡ count_both (λ v w. p v w && (winner_by top b e a (k v w) == place)) values lows
orders_win p k top values lows orders b e a place are =
    let below : times_at b orders.below place ≡ count_both (λ v w. (p v w && nat_lt (k v w) top) && (b == place)) values lows = ap (λ n. times_at b n place) are.below ∙ times_both b place (λ v w. p v w && nat_lt (k v w) top) values lows in
    let equal : times_at e orders.equal place ≡ count_both (λ v w. (p v w && (k v w == top)) && (e == place)) values lows = ap (λ n. times_at e n place) are.equal ∙ times_both e place (λ v w. p v w && (k v w == top)) values lows in
    let above : times_at a orders.above place ≡ count_both (λ v w. (p v w && nat_lt top (k v w)) && (a == place)) values lows = ap (λ n. times_at a n place) are.above ∙ times_both a place (λ v w. p v w && nat_lt top (k v w)) values lows in
    omega (
      arith,
      below,
      equal,
      above,
      both_sums (λ v w. (p v w && nat_lt (k v w) top) && (b == place)) (λ v w. (p v w && (k v w == top)) && (e == place)) (λ v w. (p v w && nat_lt top (k v w)) && (a == place)) (λ v w. p v w && (winner_by top b e a (k v w) == place)) values lows
          (λ v w. one_wins (p v w) (k v w) top b e a place),
    )

-- the set that wins, by the sets that stand in the pot
won_there : (rivals : List Winners) (pot value : ℕ) (r : Winners) → slice_get rivals pot ≡ Some r → winner_by (top_at rivals pot) r.below r.equal r.above value ≡ won_at rivals pot value
won_there rivals pot value r found = ap (λ t. winner_by t r.below r.equal r.above value) (top_here rivals pot r found) ∙ sym (won_here rivals pot value r found)

pub low_won : (highs lows : List Winners) (pot : ℕ) (values low_values : List ℕ) (orders : PairOrders) (q : Winners) (place : ℕ) → slice_get lows pot ≡ Some q → ArePairOrders highs lows pot values low_values orders
    → times_of q.below q.equal q.above orders.all place ≡ count_both (λ v w. set_place Low (won_at highs pot v) (won_at lows pot w) == place) values low_values
low_won highs lows pot values low_values orders q place found are =
    orders_win (λ v w. true) (λ v w. w) (top_at lows pot) values low_values orders.all q.below q.equal q.above place are.all
    ∙ both_same (λ v w. winner_by (top_at lows pot) q.below q.equal q.above w == place) (λ v w. won_at lows pot w == place) values low_values (λ v w. ap (λ k. k == place) (won_there lows pot w q found))

pick_marked : (high b e a : ℕ) (p q : Bool) → pick (high + low_mark b) (high + low_mark e) (high + low_mark a) p q ≡ high + low_mark (pick b e a p q)
pick_marked high b e a true q = refl
pick_marked high b e a false true = refl
pick_marked high b e a false false = refl

marked_win : (p : ℕ → ℕ → Bool) (lows : List Winners) (pot : ℕ) (values low_values : List ℕ) (orders : Orders) (high : ℕ) (q : Winners) (place : ℕ) → slice_get lows pot ≡ Some q → AreOrders p (λ v w. w) (top_at lows pot) values low_values orders
    → marked_times high q orders place ≡ count_both (λ v w. p v w && (high + low_mark (won_at lows pot w) == place)) values low_values
marked_win p lows pot values low_values orders high q place found are =
    let top : ℕ = top_at lows pot in
    let win : ℕ → ℕ = λ w. winner_by top (high + low_mark q.below) (high + low_mark q.equal) (high + low_mark q.above) w in
    orders_win p (λ v w. w) top values low_values orders (high + low_mark q.below) (high + low_mark q.equal) (high + low_mark q.above) place are
    ∙ both_same (λ v w. p v w && (win w == place)) (λ v w. p v w && (high + low_mark (won_at lows pot w) == place)) values low_values
    (λ v w. ap (λ k. p v w && (k == place)) (pick_marked high q.below q.equal q.above (nat_lt w top) (w == top) ∙ ap (λ k. high + low_mark k) (won_there lows pot w q found)))

one_high : (x top b e a mark place : ℕ)
    → cond (nat_lt x top && (b + mark == place)) 1 0 + cond ((x == top) && (e + mark == place)) 1 0 + cond (nat_lt top x && (a + mark == place)) 1 0 ≡ cond (winner_by top b e a x + mark == place) 1 0
one_high x top b e a mark place = elim (cases_order x top) [
  | inl same ↦
      let i : nat_lt x top ≡ false = grind arith in
      let j : (x == top) ≡ true = grind arith in
      let k : nat_lt top x ≡ false = grind arith in
      rw (i, j, k) (omega arith)
  | inr other ↦ elim other [
    | inl l ↦
        let i : nat_lt x top ≡ true = grind arith in
        let j : (x == top) ≡ false = grind arith in
        let k : nat_lt top x ≡ false = grind arith in
        rw (i, j, k) (omega arith)
    | inr g ↦
        let i : nat_lt x top ≡ false = grind arith in
        let j : (x == top) ≡ false = grind arith in
        let k : nat_lt top x ≡ true = grind arith in
        rw (i, j, k) (omega arith)
  ]
]

pub high_won : (highs lows : List Winners) (pot : ℕ) (values low_values : List ℕ) (orders : PairOrders) (r q : Winners) (place : ℕ) → slice_get highs pot ≡ Some r → slice_get lows pot ≡ Some q → ArePairOrders highs lows pot values low_values orders
    → marked_times r.below q orders.below place + marked_times r.equal q orders.equal place + marked_times r.above q orders.above place ≡ count_both (λ v w. set_place High (won_at highs pot v) (won_at lows pot w) == place) values low_values
high_won highs lows pot values low_values orders r q place found also are =
    let top : ℕ = top_at highs pot in
    let mark : ℕ → ℕ = λ w. low_mark (won_at lows pot w) in
    let win : ℕ → ℕ = λ v. winner_by top r.below r.equal r.above v in
    let below : marked_times r.below q orders.below place ≡ count_both (λ v w. nat_lt v top && (r.below + mark w == place)) values low_values = marked_win (λ v w. nat_lt v top) lows pot values low_values orders.below r.below q place also are.below in
    let equal : marked_times r.equal q orders.equal place ≡ count_both (λ v w. (v == top) && (r.equal + mark w == place)) values low_values = marked_win (λ v w. v == top) lows pot values low_values orders.equal r.equal q place also are.equal in
    let above : marked_times r.above q orders.above place ≡ count_both (λ v w. nat_lt top v && (r.above + mark w == place)) values low_values = marked_win (λ v w. nat_lt top v) lows pot values low_values orders.above r.above q place also are.above in
    let all : count_both (λ v w. nat_lt v top && (r.below + mark w == place)) values low_values + count_both (λ v w. (v == top) && (r.equal + mark w == place)) values low_values + count_both (λ v w. nat_lt top v && (r.above + mark w == place)) values low_values
    ≡ count_both (λ v w. win v + mark w == place) values low_values =
    both_sums (λ v w. nat_lt v top && (r.below + mark w == place)) (λ v w. (v == top) && (r.equal + mark w == place)) (λ v w. nat_lt top v && (r.above + mark w == place)) (λ v w. win v + mark w == place) values low_values
    (λ v w. one_high v top r.below r.equal r.above (mark w) place) in
    let sum : marked_times r.below q orders.below place + marked_times r.equal q orders.equal place + marked_times r.above q orders.above place ≡ count_both (λ v w. win v + mark w == place) values low_values = omega (arith, below, equal, above, all) in
    sum ∙ both_same (λ v w. win v + mark w == place) (λ v w. won_at highs pot v + mark w == place) values low_values (λ v w. ap (λ k. k + mark w == place) (won_there highs pot v r found))

-- the two rows of a pot are changed
pub record ArePut (counts : List (List ℕ)) (pot : ℕ) (high_more low_more : ℕ → ℕ) (new : List (List ℕ)) : Type 0 where
  pub high : (place : ℕ) → count_at new pot High place ≡ count_at counts pot High place + high_more place
  pub low : (place : ℕ) → count_at new pot Low place ≡ count_at counts pot Low place + low_more place
  pub others : (other place : ℕ) (side : Side) → (other ≡ pot → ⊥) → count_at new other side place ≡ count_at counts other side place

rows_away : (counts : List (List ℕ)) (pot : ℕ) (row low_row : List ℕ) (other place : ℕ) → (other ≡ pot → ⊥) → (side : Side) → count_at (set (set counts (2 * pot) row) (2 * pot + 1) low_row) other side place ≡ count_at counts other side place
rows_away counts pot row low_row other place ne High = other_row (set counts (2 * pot) row) (2 * pot + 1) (2 * other + 0) place low_row (λ e. omega arith) ∙ other_row counts (2 * pot) (2 * other + 0) place row (λ e. ne (omega arith))
rows_away counts pot row low_row other place ne Low = other_row (set counts (2 * pot) row) (2 * pot + 1) (2 * other + 1) place low_row (λ e. ne (omega arith)) ∙ other_row counts (2 * pot) (2 * other + 1) place row (λ e. omega arith)

pub rows_put : (counts : List (List ℕ)) (pot : ℕ) (row low_row : List ℕ) (high_more low_more : ℕ → ℕ) → 2 * pot + 1 < length counts
    → ((place : ℕ) → slice_index row place ≡ slice_index (slice_index_or counts (2 * pot) []) place + high_more place)
    → ((place : ℕ) → slice_index low_row place ≡ slice_index (slice_index_or (set counts (2 * pot) row) (2 * pot + 1) []) place + low_more place)
    → ArePut counts pot high_more low_more (set (set counts (2 * pot) row) (2 * pot + 1) low_row)
rows_put counts pot row low_row high_more low_more inside high low =
    let mid : List (List ℕ) = set counts (2 * pot) row in
    let new : List (List ℕ) = set mid (2 * pot + 1) low_row in
    record {
      high = λ place.
          let none : 2 * pot + 0 ≡ 2 * pot = omega arith in
          let there : slice_index (slice_index_or new (2 * pot + 0) []) place ≡ slice_index (slice_index_or new (2 * pot) []) place = ap (λ k. slice_index (slice_index_or new k []) place) none in
          let was : slice_index (slice_index_or counts (2 * pot + 0) []) place ≡ slice_index (slice_index_or counts (2 * pot) []) place = ap (λ k. slice_index (slice_index_or counts k []) place) none in
          let kept : slice_index (slice_index_or new (2 * pot) []) place ≡ slice_index row place = other_row mid (2 * pot + 1) (2 * pot) place low_row (λ e. omega arith) ∙ same_row counts (2 * pot) place row (omega arith) in
          omega (arith, there, was, kept, high place);
      low = λ place.
          let size : length mid ≡ length counts = length-set counts (2 * pot) row in
          let kept : slice_index (slice_index_or new (2 * pot + 1) []) place ≡ slice_index low_row place = same_row mid (2 * pot + 1) place low_row (omega arith) in
          let was : slice_index (slice_index_or mid (2 * pot + 1) []) place ≡ slice_index (slice_index_or counts (2 * pot + 1) []) place = other_row counts (2 * pot) (2 * pot + 1) place row (λ e. omega arith) in
          omega (arith, kept, was, low place);
      others = λ other place side ne. rows_away counts pot row low_row other place ne side;
    }

pub both_put : (counts new : List (List ℕ)) (pot : ℕ) (high_more low_more : ℕ → ℕ) (highs lows : List Winners) (values low_values : List ℕ) → ArePut counts pot high_more low_more new
    → ((place : ℕ) → high_more place ≡ count_both (λ v w. set_place High (won_at highs pot v) (won_at lows pot w) == place) values low_values)
    → ((place : ℕ) → low_more place ≡ count_both (λ v w. set_place Low (won_at highs pot v) (won_at lows pot w) == place) values low_values)
    → (place : ℕ) (side : Side) → count_at new pot side place ≡ count_at counts pot side place + count_both (λ v w. set_place side (won_at highs pot v) (won_at lows pot w) == place) values low_values
both_put counts new pot high_more low_more highs lows values low_values put high low place High = put.high place ∙ ap (λ n. count_at counts pot High place + n) (high place)
both_put counts new pot high_more low_more highs lows values low_values put high low place Low = put.low place ∙ ap (λ n. count_at counts pot Low place + n) (low place)

-- the row of the high is the first of a pot's two
pub high_row : (counts : List (List ℕ)) (pot place : ℕ) → count_at counts pot High place ≡ slice_index (slice_index_or counts (2 * pot) []) place
high_row counts pot place = let none : 2 * pot + 0 ≡ 2 * pot = omega arith in ap (λ k. slice_index (slice_index_or counts k []) place) none
