-- Whether a moment is an all-in point doesn't hang on a point before it.
use Rattle.std.proofs.Common.{◌≡◌, ℕ, List, refl}
use Rattle.std.specs.Prelude.{Option, None}
use Rattle.hand_events.specs.declared.events.Header.{Header}
use Rattle.hand_events.specs.declared.events.Event.{Event}
use Rattle.betting_replay.specs.declared.points.Point.{Point}
use Rattle.betting_replay.specs.Accounts.{contenders}
use Rattle.betting_replay.specs.AllIn.{funded_count, is_point, point_now}
use Rattle.betting_replay.specs.TableAfter.{table_with}
use Rattle.betting_replay.specs.Turns.{greatest, is_contender, contender_count, rivals, is_pending, owes}

pub same_now : (g : Header) (players : ℕ) (h : List Event) (x : Option Point) → point_now (table_with g players h x) ≡ point_now (table_with g players h None)
unfolding point_now is_point funded_count contender_count is_contender owes is_pending greatest rivals contenders
same_now g players h x = refl
