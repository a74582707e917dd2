use Rattle.std.proofs.Common.{◌≡◌, false, refl, arith}
use Rattle.std.specs.Prelude.{nat_lt}
use Rattle.std.specs.Int.{bit_at}
use Rattle.std.proofs.lemmas.Nat.Bits.{bit_at_above}
use Rattle.player_totals.proofs.players.plays.Goals as goal

pub returns-else-seat-lt16 : goal.returns-else-seat-lt16
returns-else-seat-lt16 c =
    let none : bit_at c.args.players c.args.seat ≡ 0 = bit_at_above c.args.players 16 c.args.seat (omega arith) (omega arith) in
    let no : nat_lt c.args.seat 16 ≡ false = grind arith in
    rw (none, no) refl
