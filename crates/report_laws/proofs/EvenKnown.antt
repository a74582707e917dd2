-- Whether even luck is known goes by the hand alone.
use Rattle.std.proofs.Common.{◌≡◌, ℕ, ◌&&◌, Bool, true, false, is_some, refl}
use Rattle.report_laws.specs.EvenLaws.{EvenIsKnown}
use Rattle.even_luck.specs.EvenLuck.{known_even}
use Rattle.even_luck.specs.Figures.{is_counted}
use Rattle.hand_verdict.specs.declared.settlement.Settlement.{Settlement}
use Rattle.hand_verdict.specs.declared.verdicts.AllIn.TheVariants.{None, Unknown, Known}
use Rattle.showdown_tally.specs.Deals.{deal_of}
use Rattle.showdown_tally.specs.Showdown.{Showdown}
use Rattle.std.specs.Prelude.{List}

known : (s : Settlement) (seats : List ℕ) (deal : Showdown) (seat : ℕ) → is_some (known_even s seats deal seat) ≡ (s.fits && is_counted deal)
unfolding known_even
known s seats deal seat = by (s.fits && is_counted deal) refl
  where
    by : (b : Bool) → (s.fits && is_counted deal) ≡ b → is_some (known_even s seats deal seat) ≡ (s.fits && is_counted deal)
    by true e = rw e refl
    by false e = rw e refl

pub even_is_known : EvenIsKnown
even_is_known s None seat = refl
even_is_known s Unknown seat = refl
even_is_known s (Known street seats table) seat = known s seats (deal_of table) seat
