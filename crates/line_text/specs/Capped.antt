-- What the code keeps of an amount as it is written: numbers up to 2^64 - 1.
use Rattle.std.specs.Prelude.{ℕ, ◌+◌, ◌*◌, ◌-◌, ◌^◌, min, if◌then◌else◌, Bool}
use Rattle.line_text.specs.declared.amounts.WrittenAmount.{WrittenAmount}
use Rattle.line_text.specs.Amounts.{Written}

-- an amount in which greater numbers are replaced by 2^64 - 1
abbrev pub capped : Written → WrittenAmount
capped w = record {
  marked = w.marked;
  pointed = w.pointed;
  whole = min w.whole (2 ^ 64 - 1);
  cents = w.cents;
  length = w.length;
}

-- the units of such an amount, up to 2^64 - 1
abbrev pub kept_units : Bool → WrittenAmount → ℕ
kept_units hundredths w =
    if hundredths then min (min (w.whole * 100) (2 ^ 64 - 1) + w.cents) (2 ^ 64 - 1) else w.whole
