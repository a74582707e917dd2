-- Where a point was found, or no street is to come, the point stays what it is.
use Rattle.std.proofs.Common.{◌≡◌, refl, sym, ap, ◌∙◌, Bool, true, false, not, ◌&&◌}
use Rattle.std.specs.Prelude.{Option, Some, None, is_none, nat_le, if◌then◌else◌}
use Rattle.betting_replay.specs.declared.points.Point.{Point}
use Rattle.betting_replay.specs.Accounts.{contenders}
use Rattle.betting_replay.specs.AllIn.{funded_count, is_point, point_on, point_now}
use Rattle.betting_replay.specs.Counting.{pointed}
use Rattle.betting_replay.specs.Seats.{or_else}
use Rattle.betting_replay.specs.Table.{ReplayState}
use Rattle.betting_replay.specs.Turns.{contender_count, next_to_act}

none_last : (a b c d : Bool) → (a && b && c && d && not true) ≡ false
none_last false b c d = refl
none_last true false c d = refl
none_last true true false d = refl
none_last true true true false = refl
none_last true true true true = refl

none_now : (t : ReplayState) → t.course.last_begun ≡ true → point_now t ≡ None
unfolding point_now is_point
none_now t over =
    ap (λ last. if t.course.opened && nat_le 2 (contender_count t) && nat_le (funded_count t) 1 && is_none (next_to_act t) && not last then point_on t.course.street (contenders t) else None) over
    ∙ ap (λ b. if b then point_on t.course.street (contenders t) else None) (none_last t.course.opened (nat_le 2 (contender_count t)) (nat_le (funded_count t) 1) (is_none (next_to_act t)))

same_or : (o p : Option Point) (last : Bool) → (is_none o && not last) ≡ false → (last ≡ true → p ≡ None) → o ≡ or_else o p
same_or (Some point) p last is none = refl
same_or None p true is none = sym (none refl)
same_or None p false is none = cc

pub point_stays : (t : ReplayState) → (is_none t.point && not t.course.last_begun) ≡ false → t ≡ pointed t
unfolding pointed
point_stays t is = ap (λ o. record t { point = o }) (same_or t.point (point_now t) t.course.last_begun is (none_now t))
