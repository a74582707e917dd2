-- The units of the input, as they are asked for.
use Rattle.std.proofs.Common.{◌≡◌, ℕ, ◌+◌, ◌-◌, ◌<◌, ◌≤◌, Bool, true, false, cond, List, [], ◌∷◌, length, refl, sym, ap, ◌∙◌, arith, length-append, length-drop}
use Rattle.hand_audit.specs.Departs.{begins_hand}
use Rattle.history_text.specs.Headers.{is_header}
use Rattle.hand_cuts.specs.Units.{UnitLines, hands_from, lines_in, units_in, up_to_header, without_last}
use Rattle.hand_cuts.specs.CutterState.{CutterState}
use Rattle.hand_cuts.specs.Cutters.{Forgets, Gives, rest, seen, units_left}
use Rattle.hand_cuts.specs.declared.units.CutKind.{CutKind}
use Rattle.hand_cuts.specs.declared.units.CutKind.TheVariants.{Hands}
use Rattle.hand_cuts.specs.declared.units.Unit.{Unit as UnitPlace}
use Rattle.run_loop.specs.Cutting.{Cuts, HandsOver}
use Rattle.run_loop.specs.Units.{IsUnit, left_over}
use Rattle.run_loop.specs.declared.reading.Ending.{Ending}
use Rattle.run_loop.specs.declared.reading.Ending.TheVariants.{Open}
use Rattle.run_loop.specs.declared.reading.Input.{Input}
use Rattle.run_loop.proofs.CuttingFacts.{cuts_unit}
use Rattle.run_loop.proofs.InputPieces.{with}

first_step : (n : ℕ) (l : List ℕ) (ls : List (List ℕ)) (u : UnitLines) (us : List UnitLines) (v : Bool) → is_header l ≡ v → (hands_from (n + 1) ls ≡ u ∷ us → begins_hand u.lines ≡ true)
    → cond v ((let h : UnitLines = record { first = n; lines = l ∷ up_to_header ls } in h) ∷ hands_from (n + 1) ls) (hands_from (n + 1) ls) ≡ u ∷ us → begins_hand u.lines ≡ true
first_step n l ls u us true header later e =
    let h : UnitLines = record { first = n; lines = l ∷ up_to_header ls } in
    let same : u ≡ h = cc in
    ap (λ (x : UnitLines). begins_hand x.lines) same ∙ header
first_step n l ls u us false header later e = later e

first_hand : (n : ℕ) (ls : List (List ℕ)) (u : UnitLines) (us : List UnitLines) → hands_from n ls ≡ u ∷ us → begins_hand u.lines ≡ true
first_hand n [] u us e = absurd (cc)
first_hand n (l ∷ ls) u us e = first_step n l ls u us (is_header l) refl (first_hand (n + 1) ls u us) e

not_last : (hs : List UnitLines) (u : UnitLines) (us : List UnitLines) → without_last hs ≡ u ∷ us → (more : List UnitLines) × (hs ≡ u ∷ more)
not_last [] u us e = absurd (cc)
not_last (x ∷ []) u us e = absurd (cc)
not_last (x ∷ y ∷ ys) u us e = (y ∷ ys, let same : x ≡ u = cc in ap (λ z. z ∷ y ∷ ys) same)

-- a hand begins with its header line
begins_first : (closed_now : Bool) (n : ℕ) (bytes : List ℕ) (u : UnitLines) (us : List UnitLines) → units_in Hands closed_now n bytes ≡ u ∷ us → begins_hand u.lines ≡ true
unfolding units_in
begins_first true n bytes u us e = first_hand n (lines_in true bytes) u us e
begins_first false n bytes u us e = let more = not_last (hands_from n (lines_in false bytes)) u us e in first_hand n (lines_in false bytes) u more.0 more.1

-- a unit that is handed out is a whole one, at its places
is_unit : (limit : ℕ) (kind : CutKind) (cutter cutter' : CutterState) (unit : UnitPlace) → cutter.kind ≡ kind → Gives cutter cutter' unit → cutter'.line ≤ limit + 1 → IsUnit limit kind cutter'.held unit
is_unit limit kind cutter cutter' unit kind_is gives small =
    let held : cutter'.held ≡ cutter.held = ap (λ (c : CutterState). c.held) gives.after in
    let u = seen cutter.held unit in
    let same : seen cutter'.held unit ≡ u = ap (λ xs. seen xs unit) held in
    record {
      begins = λ e. ap (λ (v : UnitLines). begins_hand v.lines) same ∙ begins_first cutter.closed cutter.line (rest cutter) u (units_left cutter')
          (ap (λ k. units_in k cutter.closed cutter.line (rest cutter)) (sym (kind_is ∙ e)) ∙ gives.first);
      ordered = (let l = gives.some in omega arith);
      within = (let w = gives.within in let e = ap length held in omega arith);
      numbers = rw held (let n = gives.counted in omega arith);
    }

-- a unit takes a byte or more
over_unit : (limit : ℕ) (cutter cutter' : CutterState) (ending : Ending) (unit : UnitPlace) → cutter.at ≤ length cutter.held → Gives cutter cutter' unit → left_over limit (with cutter' ending) < left_over limit (with cutter ending)
over_unit limit cutter cutter' ending unit inside gives =
    let b = gives.behind in
    let s = gives.some in
    let w = gives.within in
    rw gives.after (let e : limit - cutter.given + (length cutter.held - unit.end) < limit - cutter.given + (length cutter.held - cutter.at) = omega arith in e)

-- and what is forgotten isn't handed out
pub over_forget : (limit : ℕ) (cutter cutter' : CutterState) (ending : Ending) → Forgets cutter cutter' → left_over limit (with cutter' ending) ≤ left_over limit (with cutter ending)
over_forget limit cutter cutter' ending f =
    let size : length (rest cutter) ≡ length f.dropped + length (rest cutter') = ap length f.split ∙ length-append f.dropped (rest cutter') in
    let left = length-drop cutter.at cutter.held in
    let held : length cutter'.held ≡ length (rest cutter') = ap (λ (c : CutterState). length c.held) f.after in
    let at : cutter'.at ≡ 0 = ap (λ (c : CutterState). c.at) f.after in
    let given : cutter'.given ≡ cutter.given = ap (λ (c : CutterState). c.given) f.after in
    omega arith

-- a unit is handed out
pub hands_over : (limit : ℕ) (kind : CutKind) (before : Input) (cutter cutter' : CutterState) (ending : Ending) (unit : UnitPlace) (bytes : List ℕ) (done : List UnitLines) → Cuts limit kind (with cutter ending) bytes done
    → left_over limit (with cutter ending) ≤ left_over limit before → Gives cutter cutter' unit → cutter'.line ≤ limit + 1 → HandsOver limit kind before (with cutter' ending) bytes done unit
hands_over limit kind before cutter cutter' ending unit bytes done s less gives small =
    let fewer = over_unit limit cutter cutter' ending unit s.inside gives in
    record { unit_is = is_unit limit kind cutter cutter' unit s.kind_is gives small; cuts = cuts_unit limit kind cutter cutter' ending unit bytes done s gives; fewer = omega arith }

-- the cutter of an input whose reading goes on
pub left_open : (limit : ℕ) (input : Input) (cutter : CutterState) → cutter ≡ input.cutter → left_over limit (with cutter Open) ≡ left_over limit input
left_open limit input cutter same = ap (λ (c : CutterState). left_over limit (with c Open)) same
