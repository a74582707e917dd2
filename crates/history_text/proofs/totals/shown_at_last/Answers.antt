use Rattle.std.proofs.Common.{◌≡◌, ◌+◌, ◌-◌, List, ℕ, true, Some, codes, take, drop, nat_eq, ap, sym, ◌∙◌, arith}
use Rattle.std.specs.List.{starts_with}
use Rattle.std.proofs.lemmas.List.{drop-drop}
use Rattle.history_text.proofs.ShownPlaces.{behind_is, mucked_found, showed_found}
use Rattle.history_text.proofs.totals.shown_at_last.Goals as goal

pub returns-in-Some : goal.returns-in-Some
returns-in-Some c =
    let text = c.args.text.now in
    let place = c.in_ok-bracket.bracket - 8 in
    let enough = c.if-bracket-lt8.false in
    let ninth : place + 8 ≡ c.in_ok-bracket.bracket = omega (arith, enough) in
    let is = behind_is (codes " showed [") c.split_at.result.1.now c.in-Some.inside.now c.in-Some.ensures.value in
    let begins : starts_with nat_eq (drop place text) (codes " showed [") ≡ true = ap (λ words. starts_with nat_eq words (codes " showed [")) (sym c.split_at.ensures.back) ∙ is.0 in
    let inside : c.in-Some.inside.now ≡ drop (place + 9) text = is.1 ∙ ap (drop 9) c.split_at.ensures.back ∙ drop-drop 9 place text in
    ap (λ (before : List ℕ). Some (before, c.in-Some.inside.now)) c.split_at.ensures.front
    ∙ ap (λ (rest : List ℕ). Some (take place text, rest)) inside
    ∙ sym (showed_found text place c.in_ok-bracket.bracket c.in_ok-bracket.ensures ninth begins)

pub returns : goal.returns
returns c =
    let text = c.args.text.now in
    let place = c.in_ok-bracket.bracket - 8 in
    let enough = c.if-bracket-lt8.false in
    let ninth : place + 8 ≡ c.in_ok-bracket.bracket = omega (arith, enough) in
    let is = behind_is (codes " mucked [") c.split_at.result.1.now c.in_ok-inside.inside.now c.in_ok-inside.ensures.value in
    let begins : starts_with nat_eq (drop place text) (codes " mucked [") ≡ true = ap (λ words. starts_with nat_eq words (codes " mucked [")) (sym c.split_at.ensures.back) ∙ is.0 in
    let inside : c.in_ok-inside.inside.now ≡ drop (place + 9) text = is.1 ∙ ap (drop 9) c.split_at.ensures.back ∙ drop-drop 9 place text in
    ap (λ (before : List ℕ). Some (before, c.in_ok-inside.inside.now)) c.split_at.ensures.front
    ∙ ap (λ (rest : List ℕ). Some (take place text, rest)) inside
    ∙ sym (mucked_found text place c.in_ok-bracket.bracket c.in_ok-bracket.ensures ninth begins)
