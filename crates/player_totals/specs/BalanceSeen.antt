-- How sums of the balance are added, and what keeps them small.
use Rattle.std.specs.Prelude.{ℕ, ◌≡◌, ◌+◌, ◌*◌, ◌^◌, ◌≤◌}
use Rattle.std.proofs.Common.{arith}
use Rattle.player_totals.specs.Balance.{no_balance}
use Rattle.player_totals.specs.SumsSeen.{AreSums}
use Rattle.player_totals.specs.declared.balance_sums.BalanceSums.{BalanceSums}

-- sums of two parts of the hands
abbrev pub both : BalanceSums → BalanceSums → BalanceSums
both a b = record {
  hands = a.hands + b.hands;
  got = a.got + b.got;
  put = a.put + b.put;
  even = a.even + b.even;
  unknown = a.unknown + b.unknown;
}

-- sums that a number of hands may give a player: one hand gives at most 2 ^ 95 units
pub record AreOfSeats (count : ℕ) (sums : BalanceSums) : Type 0 where
  pub hands : sums.hands ≤ count
  pub got : sums.got ≤ count * 2 ^ 95
  pub put : sums.put ≤ count * 2 ^ 95
  pub even : sums.even ≤ count * 2 ^ 95
  pub unknown : sums.unknown ≤ count

-- they are sums
pub balance_is_sums : AreSums no_balance both AreOfSeats
balance_is_sums = record {
  before = λ a.
      let hands : 0 + a.hands ≡ a.hands = omega arith in
      let got : 0 + a.got ≡ a.got = omega arith in
      let put : 0 + a.put ≡ a.put = omega arith in
      let even : 0 + a.even ≡ a.even = omega arith in
      let unknown : 0 + a.unknown ≡ a.unknown = omega arith in
      λ i. record { hands = hands i; got = got i; put = put i; even = even i; unknown = unknown i };
  behind = λ a.
      let hands : a.hands + 0 ≡ a.hands = omega arith in
      let got : a.got + 0 ≡ a.got = omega arith in
      let put : a.put + 0 ≡ a.put = omega arith in
      let even : a.even + 0 ≡ a.even = omega arith in
      let unknown : a.unknown + 0 ≡ a.unknown = omega arith in
      λ i. record { hands = hands i; got = got i; put = put i; even = even i; unknown = unknown i };
  joined = λ a b c.
      let hands : a.hands + b.hands + c.hands ≡ a.hands + (b.hands + c.hands) = omega arith in
      let got : a.got + b.got + c.got ≡ a.got + (b.got + c.got) = omega arith in
      let put : a.put + b.put + c.put ≡ a.put + (b.put + c.put) = omega arith in
      let even : a.even + b.even + c.even ≡ a.even + (b.even + c.even) = omega arith in
      let unknown : a.unknown + b.unknown + c.unknown ≡ a.unknown + (b.unknown + c.unknown) = omega arith in
      λ i. record { hands = hands i; got = got i; put = put i; even = even i; unknown = unknown i };
  none = λ count. record { hands = omega arith; got = omega arith; put = omega arith; even = omega arith; unknown = omega arith };
  one = λ count a b many few.
      let hands = many.hands in
      let got = many.got in
      let put = many.put in
      let even = many.even in
      let unknown = many.unknown in
      let one_hands = few.hands in
      let one_got = few.got in
      let one_put = few.put in
      let one_even = few.even in
      let one_unknown = few.unknown in
      record { hands = omega arith; got = omega arith; put = omega arith; even = omega arith; unknown = omega arith };
  more = λ count most a within small.
      let hands = small.hands in
      let got = small.got in
      let put = small.put in
      let even = small.even in
      let unknown = small.unknown in
      record { hands = omega arith; got = omega arith; put = omega arith; even = omega arith; unknown = omega arith };
}
