use Rattle.std.proofs.Common.{◌≡◌, ℕ, suc, ◌<◌, ◌-◌, [], ◌∷◌, sym, ap, ◌∙◌, arith}
use Rattle.std.specs.Prelude.{replicate}
use Rattle.report_sheet.specs.Progress.{Progress}
use Rattle.report_sheet.specs.Sheets.{Written, in_form, with_words}
use Rattle.report_sheet.specs.declared.form.Form.TheVariants.{Csv}
use Rattle.report_sheet.proofs.record_writer.RecordWriter.pad.Goals as goal

-- one empty word more
pad_more : (w : Written) → 0 < w.left → with_words (with_words w ([] ∷ [])) (replicate (with_words w ([] ∷ [])).left []) ≡ with_words w (replicate w.left [])
unfolding with_words
pad_more w some =
    let one : w.left ≡ suc (w.left - 1) = omega arith in
    sym (ap (λ (n : ℕ). with_words w (replicate n [])) one)

less_left : (w : Written) → 0 < w.left → (with_words w ([] ∷ [])).left < w.left
unfolding with_words
less_left w some = omega arith

pub padding-preserved : goal.padding-preserved
padding-preserved c =
    let left = ap (λ (g : Progress). g.left) c.self.view_is in
    let some : 0 < c.padding.self.left = omega (arith, c.padding-test.true, left) in
    ap (λ (w : Written). with_words w (replicate w.left [])) c.in_ok-word.ensures ∙ pad_more (in_form Csv c.padding.self) some ∙ c.padding.invariant

pub padding-smaller : goal.padding-smaller
padding-smaller c =
    let left = ap (λ (g : Progress). g.left) c.self.view_is in
    let some : 0 < c.padding.self.left = omega (arith, c.padding-test.true, left) in
    rw (← ap (λ (w : Written). w.left) c.in_ok-word.ensures) at (less_left (in_form Csv c.padding.self) some)

pub returns : goal.returns
unfolding with_words
returns c =
    let left = ap (λ (g : Progress). g.left) c.self.view_is in
    let none : c.padding.self.left ≡ 0 = omega (arith, c.padding-test.false, left) in
    sym (ap (λ (n : ℕ). with_words (in_form Csv c.padding.self) (replicate n [])) none) ∙ c.padding.invariant
