-- The input, as it is read piece by piece.
use Rattle.std.proofs.Common.{◌≡◌, ℕ, ◌+◌, ◌-◌, ◌<◌, ◌≤◌, Bool, false, List, ◌++◌, length, take, drop, refl, sym, ap, ◌∙◌, arith, append_assoc, length-append}
use mathlib.Core.Bool.{true≢false}
use Rattle.std.proofs.lemmas.List.{drop-append-le, length-take-le}
use Rattle.hand_cuts.specs.Units.{UnitLines, units_in}
use Rattle.hand_cuts.specs.CutterState.{CutterState}
use Rattle.hand_cuts.specs.Cutters.{MayFollow, rest}
use Rattle.hand_cuts.specs.declared.limits.TheConstants.{INPUT_MAX}
use Rattle.hand_cuts.specs.declared.units.CutKind.{CutKind}
use Rattle.run_loop.specs.Units.{left_over}
use Rattle.run_loop.specs.declared.reading.Ending.{Ending}
use Rattle.run_loop.specs.declared.reading.Ending.TheVariants.{Whole, Failed, TooLong, Open}
use Rattle.run_loop.specs.declared.reading.Input.{Input}

-- the input with a cutter and an ending
abbrev pub with : CutterState → Ending → Input
with cutter ending = record { cutter = cutter; ending = ending }

-- while the cutter is open anything may follow
pub may_open : (closed whole : Bool) (more : List ℕ) → closed ≡ false → MayFollow closed whole more
may_open closed whole more open_now = λ e. absurd (true≢false (sym e ∙ open_now))

-- a piece more, whatever follows it
pub split_more : (kind : CutKind) (bytes piece : List ℕ) (cutter : CutterState) (done : List UnitLines) (whole : Bool) (more : List ℕ) → cutter.closed ≡ false → cutter.at ≤ length cutter.held
    → ((whole : Bool) (more : List ℕ) → MayFollow cutter.closed whole more → units_in kind whole 1 (bytes ++ more) ≡ done ++ units_in kind whole cutter.line (rest cutter ++ more))
    → units_in kind whole 1 ((bytes ++ piece) ++ more) ≡ done ++ units_in kind whole cutter.line (drop cutter.at (cutter.held ++ piece) ++ more)
split_more kind bytes piece cutter done whole more open_now inside split =
    let cut : drop cutter.at (cutter.held ++ piece) ++ more ≡ rest cutter ++ (piece ++ more) =
    ap (λ xs. xs ++ more) (drop-append-le cutter.at cutter.held piece inside) ∙ append_assoc (rest cutter) piece more in
    ap (units_in kind whole 1) (append_assoc bytes piece more) ∙ split whole (piece ++ more) (may_open cutter.closed whole (piece ++ more) open_now)
    ∙ ap (λ xs. done ++ units_in kind whole cutter.line xs) (sym cut)

abbrev pub with_piece : CutterState → List ℕ → CutterState
with_piece cutter piece = record cutter { held = cutter.held ++ piece; given = cutter.given + length piece }

-- a piece that is given may still be handed out
pub over_given : (limit n : ℕ) (cutter cutter' : CutterState) (after : List ℕ) (ending : Ending) → cutter.at ≤ length cutter.held → n ≤ length after → cutter.given + n ≤ limit → cutter' ≡ with_piece cutter (take n after)
    → left_over limit (with cutter' ending) ≤ left_over limit (with cutter Open)
over_given limit n cutter cutter' after ending inside within few same =
    let size : length (take n after) ≡ n = length-take-le n after within in
    let total = length-append cutter.held (take n after) in
    rw same (let e : limit - (cutter.given + length (take n after)) + (length (cutter.held ++ take n after) - cutter.at) ≤ limit - cutter.given + (length cutter.held - cutter.at) = omega arith in e)

-- the turns that are left: one for each byte that may still be read, one for the end, and one after it
abbrev pub left_to_read : Ending → ℕ → ℕ
left_to_read Whole given = 0
left_to_read Failed given = 0
left_to_read TooLong given = 0
left_to_read Open given = INPUT_MAX + 1 - given + 1

less_by_ending : (ending' : Ending) (given given' : ℕ) → (ending' ≡ Open → (given < given') × (given' ≤ INPUT_MAX)) → left_to_read ending' given' < left_to_read Open given
less_by_ending Whole given given' onward = omega arith
less_by_ending Failed given given' onward = omega arith
less_by_ending TooLong given given' onward = omega arith
less_by_ending Open given given' onward = let o = onward refl in let a = o.0 in let b = o.1 in omega arith

pub fewer_left : (ending ending' : Ending) (given0 given given' : ℕ) → ending ≡ Open → given ≡ given0 → (ending' ≡ Open → (given < given') × (given' ≤ INPUT_MAX)) → left_to_read ending' given' < left_to_read ending given0
fewer_left ending ending' given0 given given' is same onward = rw (is, ← same) (less_by_ending ending' given given' onward)
