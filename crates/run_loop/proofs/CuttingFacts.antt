-- How the bytes that were read are cut, piece by piece and unit by unit.
use Rattle.std.proofs.Common.{◌≡◌, ℕ, ◌+◌, ◌-◌, ◌<◌, ◌≤◌, true, false, List, [], ◌∷◌, ◌++◌, length, take, Option, Some, refl, sym, ap, subst, ◌∙◌, arith, append_assoc, append-nil, length-append}
use Rattle.std.proofs.Math.Seq.{take-append-add}
use Rattle.std.proofs.lemmas.List.{length-take-le, take-take, take_all}
use Rattle.hand_cuts.specs.Units.{UnitLines, units_in}
use Rattle.hand_cuts.specs.CutterState.{CutterState}
use Rattle.hand_cuts.specs.Cutters.{Forgets, Gives, MayFollow, rest, seen, units_left}
use Rattle.hand_cuts.specs.declared.units.CutKind.{CutKind}
use Rattle.hand_cuts.specs.declared.units.Unit.{Unit as UnitPlace}
use Rattle.run_loop.specs.Cutting.{Begins, Cuts, ReadsOn}
use Rattle.run_loop.specs.Order.{Comes, with_read}
use Rattle.run_loop.specs.Reading.{piece as most}
use Rattle.run_loop.specs.Units.{is_whole, started}
use Rattle.run_loop.specs.declared.reading.Ending.{Ending}
use Rattle.run_loop.specs.declared.reading.Ending.TheVariants.{Whole, Failed, TooLong, Open}
use Rattle.run_loop.specs.declared.reading.Input.{Input}
use Rattle.run_loop.proofs.InputPieces.{may_open, split_more, with, with_piece}

-- the first bytes of a piece fill the room that is left below the limit
filled : (limit n : ℕ) (so_far piece : List ℕ) → length so_far ≤ limit → limit - length so_far ≤ n → n ≤ length piece → so_far ++ take (limit - length so_far) piece ≡ take limit (so_far ++ take n piece)
filled limit n so_far piece l m k =
    let whole : limit ≡ length so_far + (limit - length so_far) = omega arith in
    let shorter : take (limit - length so_far) (take n piece) ≡ take (limit - length so_far) piece =
    take-take (limit - length so_far) n piece m in
    sym (ap (λ i. take i (so_far ++ take n piece)) whole ∙ take-append-add so_far (take n piece) (limit - length so_far) ∙ ap (λ xs. so_far ++ xs) shorter)

-- nothing was read
pub cuts_start : (limit : ℕ) (kind : CutKind) → Cuts limit kind (started kind) [] []
cuts_start limit kind = record {
  kind_is = refl;
  closed_is = refl;
  inside = omega arith;
  few = omega arith;
  goes_on = λ _. refl;
  split = λ whole more _. refl;
}

-- a read failed
pub cuts_failed : (limit : ℕ) (kind : CutKind) (cutter : CutterState) (bytes : List ℕ) (done : List UnitLines) → Cuts limit kind (with cutter Open) bytes done → Cuts limit kind (with cutter Failed) bytes done
cuts_failed limit kind cutter bytes done s = record {
  kind_is = s.kind_is;
  closed_is = s.closed_is;
  inside = s.inside;
  few = s.few;
  goes_on = λ e. absurd (cc);
  split = s.split;
}

few_bytes : (limit : ℕ) (kind : CutKind) (cutter : CutterState) (bytes : List ℕ) (done : List UnitLines) → Cuts limit kind (with cutter Open) bytes done → length bytes ≤ limit
few_bytes limit kind cutter bytes done s = let e = s.goes_on refl in let f = s.few in omega arith

-- the input has ended
pub cuts_whole : (limit : ℕ) (kind : CutKind) (cutter : CutterState) (bytes : List ℕ) (done : List UnitLines) → Cuts limit kind (with cutter Open) bytes done
    → Cuts limit kind (with (record cutter { closed = true }) Whole) (with_read limit bytes (Some [])) done
cuts_whole limit kind cutter bytes done s =
    let small = few_bytes limit kind cutter bytes done s in
    let same : take limit (bytes ++ []) ≡ bytes = ap (take limit) (append-nil bytes) ∙ take_all limit bytes small in
    rw same (record {
      kind_is = s.kind_is;
      closed_is = refl;
      inside = s.inside;
      few = s.few;
      goes_on = λ e. absurd (cc);
      split = λ whole more may. s.split whole more (may_open cutter.closed whole more s.closed_is);
    })

-- a piece was read
pub cuts_more : (limit : ℕ) (kind : CutKind) (cutter cutter' : CutterState) (bytes piece : List ℕ) (done : List UnitLines) → Cuts limit kind (with cutter Open) bytes done
    → cutter.given + length piece ≤ limit → cutter' ≡ with_piece cutter piece → Cuts limit kind (with cutter' Open) (with_read limit bytes (Some piece)) done
cuts_more limit kind cutter cutter' bytes piece done s few same =
    let total : length (bytes ++ piece) ≡ cutter.given + length piece = length-append bytes piece ∙ ap (λ k. k + length piece) (s.goes_on refl) in
    let all : take limit (bytes ++ piece) ≡ bytes ++ piece = take_all limit (bytes ++ piece) (omega arith) in
    rw (same, all) (record {
      kind_is = s.kind_is;
      closed_is = s.closed_is;
      inside = (let i = s.inside in let a = length-append cutter.held piece in omega arith);
      few = few;
      goes_on = λ _. total;
      split = λ whole more _. split_more kind bytes piece cutter done whole more s.closed_is s.inside s.split;
    })

-- there was more than the limit
cut_same : (limit n : ℕ) (kind : CutKind) (cutter : CutterState) (bytes after : List ℕ) (done : List UnitLines) → Cuts limit kind (with cutter Open) bytes done → n ≤ length after → limit - cutter.given < n
    → take limit (bytes ++ take n after) ≡ bytes ++ take (limit - cutter.given) after
cut_same limit n kind cutter bytes after done s within more =
    let size = s.goes_on refl in
    let small = few_bytes limit kind cutter bytes done s in
    sym (ap (λ k. bytes ++ take (limit - k) after) (sym size) ∙ filled limit n bytes after small (omega arith) within)

pub cuts_cut : (limit n : ℕ) (kind : CutKind) (cutter cutter' : CutterState) (bytes after : List ℕ) (done : List UnitLines) → Cuts limit kind (with cutter Open) bytes done
    → n ≤ length after → limit - cutter.given < n → cutter' ≡ with_piece cutter (take (limit - cutter.given) after) → Cuts limit kind (with cutter' TooLong) (with_read limit bytes (Some (take n after))) done
cuts_cut limit n kind cutter cutter' bytes after done s within more same =
    let piece = take (limit - cutter.given) after in
    let few = s.few in
    rw (same, cut_same limit n kind cutter bytes after done s within more) (record {
      kind_is = s.kind_is;
      closed_is = s.closed_is;
      inside = (let i = s.inside in let a = length-append cutter.held piece in omega arith);
      few = (let z = length-take-le (limit - cutter.given) after (omega arith) in omega arith);
      goes_on = λ e. absurd (cc);
      split = λ whole more _. split_more kind bytes piece cutter done whole more s.closed_is s.inside s.split;
    })

pub comes_cut : (limit n : ℕ) (kind : CutKind) (cutter : CutterState) (bytes after : List ℕ) (done : List UnitLines) → Cuts limit kind (with cutter Open) bytes done → n ≤ length after → n ≤ most → limit - cutter.given < n
    → Comes limit bytes (Some (take n after)) TooLong
comes_cut limit n kind cutter bytes after done s within short more =
    let size = s.goes_on refl in
    let few = s.few in
    let t = length-take-le n after within in
    (omega arith, omega (arith, length-append bytes (take n after)))

pub comes_more : (limit n : ℕ) (kind : CutKind) (cutter : CutterState) (bytes after : List ℕ) (done : List UnitLines) → Cuts limit kind (with cutter Open) bytes done → n ≤ length after → n ≤ most → cutter.given + n ≤ limit → 0 < n
    → Comes limit bytes (Some (take n after)) Open
comes_more limit n kind cutter bytes after done s within short few some =
    let size = s.goes_on refl in
    let t = length-take-le n after within in
    (omega arith, omega arith, omega (arith, length-append bytes (take n after)))

-- memory ran out after a piece
pub begins_piece : (limit : ℕ) (kind : CutKind) (cutter : CutterState) (bytes piece counted : List ℕ) (done : List UnitLines) (ending : Ending) → Cuts limit kind (with cutter Open) bytes done
    → is_whole ending ≡ false → counted ≡ bytes ++ piece → Begins kind ending counted done
begins_piece limit kind cutter bytes piece counted done ending s open_now same = (
  units_in kind false cutter.line (rest cutter ++ piece),
  ap (λ b. units_in kind b 1 counted) open_now ∙ ap (units_in kind false 1) same ∙ s.split false piece (may_open cutter.closed false piece s.closed_is),
)

pub begins_more : (limit n : ℕ) (kind : CutKind) (cutter : CutterState) (bytes after : List ℕ) (done : List UnitLines) → Cuts limit kind (with cutter Open) bytes done → n ≤ length after → cutter.given + n ≤ limit
    → Begins kind Open (with_read limit bytes (Some (take n after))) done
begins_more limit n kind cutter bytes after done s within few =
    let size = s.goes_on refl in
    let piece = take n after in
    let total = length-append bytes piece in
    let t = length-take-le n after within in
    begins_piece limit kind cutter bytes piece (take limit (bytes ++ piece)) done Open s refl (take_all limit (bytes ++ piece) (omega arith))

pub begins_cut : (limit n : ℕ) (kind : CutKind) (cutter : CutterState) (bytes after : List ℕ) (done : List UnitLines) → Cuts limit kind (with cutter Open) bytes done → n ≤ length after → limit - cutter.given < n
    → Begins kind TooLong (with_read limit bytes (Some (take n after))) done
begins_cut limit n kind cutter bytes after done s within more =
    begins_piece limit kind cutter bytes (take (limit - cutter.given) after) (take limit (bytes ++ take n after)) done TooLong s refl (cut_same limit n kind cutter bytes after done s within more)

-- no unit is closed but those that were handed out
pub all_cut : (limit : ℕ) (kind : CutKind) (input : Input) (bytes : List ℕ) (done : List UnitLines) → Cuts limit kind input bytes done → units_left input.cutter ≡ [] → units_in kind (is_whole input.ending) 1 bytes ≡ done
all_cut limit kind input bytes done s none =
    let whole = is_whole input.ending in
    let left : units_in kind whole input.cutter.line (rest input.cutter) ≡ [] =
    ap (λ k. units_in k whole input.cutter.line (rest input.cutter)) (sym s.kind_is) ∙ ap (λ b. units_in input.cutter.kind b input.cutter.line (rest input.cutter)) (sym s.closed_is) ∙ none in
    ap (units_in kind whole 1) (sym (append-nil bytes)) ∙ s.split whole [] (λ e. (sym s.closed_is ∙ e, refl))
    ∙ ap (λ xs. done ++ units_in kind whole input.cutter.line xs) (append-nil (rest input.cutter)) ∙ ap (λ us. done ++ us) left ∙ append-nil done

pub all_cut_open : (limit : ℕ) (kind : CutKind) (input : Input) (bytes : List ℕ) (done : List UnitLines) → Cuts limit kind input bytes done → units_left input.cutter ≡ [] → input.ending ≡ Open → units_in kind false 1 bytes ≡ done
all_cut_open limit kind input bytes done s none is = ap (λ (e : Ending). units_in kind (is_whole e) 1 bytes) (sym is) ∙ all_cut limit kind input bytes done s none

-- a unit is handed out
pub cuts_unit : (limit : ℕ) (kind : CutKind) (cutter cutter' : CutterState) (ending : Ending) (unit : UnitPlace) (bytes : List ℕ) (done : List UnitLines) → Cuts limit kind (with cutter ending) bytes done
    → Gives cutter cutter' unit → Cuts limit kind (with cutter' ending) bytes (done ++ seen cutter'.held unit ∷ [])
cuts_unit limit kind cutter cutter' ending unit bytes done s gives =
    let held : cutter'.held ≡ cutter.held = ap (λ (c : CutterState). c.held) gives.after in
    let u = seen cutter.held unit in
    let same : seen cutter'.held unit ≡ u = ap (λ xs. seen xs unit) held in
    let closed_same : cutter'.closed ≡ cutter.closed = ap (λ (c : CutterState). c.closed) gives.after in
    let kind_same : cutter'.kind ≡ kind = ap (λ (c : CutterState). c.kind) gives.after ∙ s.kind_is in
    let given_same : cutter'.given ≡ cutter.given = ap (λ (c : CutterState). c.given) gives.after in
    let at_same : cutter'.at ≡ unit.end = ap (λ (c : CutterState). c.at) gives.after in
    record {
      kind_is = kind_same;
      closed_is = closed_same ∙ s.closed_is;
      inside = (let w = gives.within in let e = ap length held in omega arith);
      few = (let f = s.few in omega arith);
      goes_on = λ e. s.goes_on e ∙ sym given_same;
      split = λ whole more may.
          let may' : MayFollow cutter.closed whole more = λ e. may (closed_same ∙ e) in
          let first : units_in kind whole cutter.line (rest cutter ++ more) ≡ u ∷ units_in kind whole cutter'.line (rest cutter' ++ more) =
          ap (λ k. units_in k whole cutter.line (rest cutter ++ more)) (sym s.kind_is) ∙ gives.stays whole more may' ∙ ap (λ k. u ∷ units_in k whole cutter'.line (rest cutter' ++ more)) kind_same in
          s.split whole more may' ∙ ap (λ us. done ++ us) first ∙ sym (append_assoc done (u ∷ []) (units_in kind whole cutter'.line (rest cutter' ++ more)))
          ∙ ap (λ v. (done ++ v ∷ []) ++ units_in kind whole cutter'.line (rest cutter' ++ more)) (sym same);
    }

-- the reading goes on
pub cuts_open : (limit : ℕ) (kind : CutKind) (input : Input) (cutter : CutterState) (bytes : List ℕ) (done : List UnitLines) → Cuts limit kind input bytes done → input.ending ≡ Open → cutter ≡ input.cutter
    → Cuts limit kind (with cutter Open) bytes done
cuts_open limit kind input cutter bytes done s is same =
    subst (λ (c : CutterState). Cuts limit kind (with c Open) bytes done) (sym same) (subst (λ (e : Ending). Cuts limit kind (with input.cutter e) bytes done) is s)

-- what was handed out is forgotten
pub cuts_again : (limit : ℕ) (kind : CutKind) (cutter cutter' : CutterState) (bytes : List ℕ) (done : List UnitLines) → Cuts limit kind (with cutter Open) bytes done → Forgets cutter cutter'
    → Cuts limit kind (with cutter' Open) bytes done
cuts_again limit kind cutter cutter' bytes done s f =
    let closed_same : cutter'.closed ≡ cutter.closed = ap (λ (c : CutterState). c.closed) f.after in
    let kind_same : cutter'.kind ≡ kind = ap (λ (c : CutterState). c.kind) f.after ∙ s.kind_is in
    let given_same : cutter'.given ≡ cutter.given = ap (λ (c : CutterState). c.given) f.after in
    let at_same : cutter'.at ≡ 0 = ap (λ (c : CutterState). c.at) f.after in
    record {
      kind_is = kind_same;
      closed_is = closed_same ∙ s.closed_is;
      inside = omega arith;
      few = (let f = s.few in omega arith);
      goes_on = λ e. s.goes_on e ∙ sym given_same;
      split = λ whole more may.
          let may' : MayFollow cutter.closed whole more = λ e. may (closed_same ∙ e) in
          s.split whole more may' ∙ ap (λ k. done ++ units_in k whole cutter.line (rest cutter ++ more)) (sym s.kind_is)
          ∙ ap (λ us. done ++ us) (f.units whole more may') ∙ ap (λ k. done ++ units_in k whole cutter'.line (rest cutter' ++ more)) kind_same;
    }

-- one read more, after others
pub reads_one_more : {S : Type 0} (reads : S → S → Option (List ℕ) → Type 0) (limit : ℕ) (kind : CutKind) (done : List UnitLines) (old : S) (ending : Ending) (bytes : List ℕ) (made : List (Option (List ℕ))) (mid : S) (ending' : Ending) (bytes' : List ℕ)
    (read : Option (List ℕ)) (new : S) (how : Ending) → ReadsOn reads limit kind done old ending bytes made mid ending' bytes' → ending' ≡ Open → units_in kind false 1 bytes' ≡ done → reads mid new read → Comes limit bytes' read how
    → ReadsOn reads limit kind done old ending bytes (made ++ read ∷ []) new how (with_read limit bytes' read)
reads_one_more {S} reads limit kind done old ending bytes [] mid ending' bytes' read new how r is all one comes =
    let step : reads old new read = subst (λ (m : S). reads m new read) r.0 one in
    let comes' : Comes limit bytes read how = subst (λ (bs : List ℕ). Comes limit bs read how) r.2 comes in
    (new, how, sym r.1 ∙ is, ap (units_in kind false 1) (sym r.2) ∙ all, step, comes', (refl, refl, ap (λ bs. with_read limit bs read) r.2))
reads_one_more {S} reads limit kind done old ending bytes (first ∷ later) mid ending' bytes' read new how r is all one comes =
    (r.0, r.1, r.2, r.3, r.4, r.5, reads_one_more reads limit kind done r.0 r.1 (with_read limit bytes first) later mid ending' bytes' read new how r.6 is all one comes)
