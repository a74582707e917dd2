-- What a line says keeps the ranges that the replay asks for.
use Rattle.std.proofs.Common.{List, ℕ}
use Rattle.std.specs.Prelude.{Result, Ok, Err, IfOk}
use Rattle.hand_events.specs.declared.events.Event.{Event}
use Rattle.hand_events.specs.declared.events.Event.TheVariants.{Seat, Button, Post, Deal, Street, Act, Uncalled, Collect, Show, Muck, Total, SeatCards, Discard, Pat, Remark}
use Rattle.hand_events.specs.declared.events.Act.{Act as Deed}
use Rattle.hand_events.specs.declared.events.Act.TheVariants.{Fold, Check, Call, Bet, Raise}
use Rattle.hand_events.specs.declared.events.TextFault.{TextFault}
use Rattle.history_text.specs.Within.{IsWithin, ActIsWithin}
use Rattle.betting_replay.specs.Limits.{Fits, ActFits}
use Rattle.hand_audit.specs.Keeping.{HasName}

act_fits : (act : Deed) → ActIsWithin act → ActFits act
act_fits Fold w = tt
act_fits Check w = tt
act_fits (Call units) w = w
act_fits (Bet units) w = w
act_fits (Raise by to) w = (w.0, w.1)

fits : (line : List ℕ) (e : Event) → IsWithin line e → Fits e
fits line (Seat seat units first end) w = record { seats = (w.0, w.1); amounts = w.2 }
fits line (Button seat) w = record { seats = (w.0, w.1); amounts = tt }
fits line (Post seat kind units all_in) w = record { seats = (w.0, w.1); amounts = w.2 }
fits line (Deal seat cards drawn) w = record { seats = (w.0, w.1); amounts = tt }
fits line (Street street number cards) w = record { seats = tt; amounts = tt }
fits line (Act seat act all_in shown) w = record { seats = (w.0, w.1); amounts = act_fits act w.2 }
fits line (Uncalled seat units) w = record { seats = (w.0, w.1); amounts = w.2 }
fits line (Collect seat units pot) w = record { seats = (w.0, w.1); amounts = w.2 }
fits line (Show seat cards) w = record { seats = (w.0, w.1); amounts = tt }
fits line (Muck seat) w = record { seats = (w.0, w.1); amounts = tt }
fits line (Total units rake) w = record { seats = tt; amounts = (w.0, w.1) }
fits line (SeatCards seat cards) w = record { seats = (w.0, w.1); amounts = tt }
fits line (Discard seat count cards) w = record { seats = (w.0, w.1); amounts = tt }
fits line (Pat seat) w = record { seats = (w.0, w.1); amounts = tt }
fits line Remark w = record { seats = tt; amounts = tt }

has_name : (line : List ℕ) (e : Event) → IsWithin line e → HasName e line
has_name line (Seat seat units first end) w = (w.3, w.4)
has_name line _ w = tt

pub all_fit : (line : List ℕ) (r : Result Event TextFault) → IfOk r (λ e. IsWithin line e) → IfOk r (λ e. Fits e)
all_fit line (Ok e) w = fits line e w
all_fit line (Err f) w = tt

pub all_named : (line : List ℕ) (r : Result Event TextFault) → IfOk r (λ e. IsWithin line e) → IfOk r (λ e. HasName e line)
all_named line (Ok e) w = has_name line e w
all_named line (Err f) w = tt
