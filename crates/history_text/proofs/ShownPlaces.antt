-- Where no bracket opens, no words that give cards stand; and where words that give cards end with the last bracket that opens, none stand after them.
use Rattle.std.proofs.Common.{◌≡◌, ℕ, ◌+◌, ◌<◌, ◌≤◌, ◌==◌, ◌||◌, ◌&&◌, Bool, true, false, cond, List, [], ◌∷◌, codes, nat_eq, length, take, drop, get_or, refl, sym, ap, ◌∙◌, arith, eq-eqb, length-drop}
use Rattle.std.specs.Prelude.{Option, Some, None, nat_le, nat_lt, if◌then◌else◌}
use Rattle.std.specs.List.{starts_with}
use Rattle.std.proofs.lemmas.Bool.{eqb-true}
use Rattle.std.proofs.lemmas.Bool.Decides.{nat_tests}
use Rattle.memchr.specs.Find.{IsLastByte, OccursAt, Passes, is_byte}
use Rattle.history_text.specs.Texts.{behind, last_place, one_later, cut_at, cut_last}
use Rattle.history_text.specs.Totals.{last_shown, later, opens_bracket}
use Rattle.history_text.proofs.MarkPlaces.{last_occurs, occurs_first, occurs_there, place_found}

or_right : (a b : Bool) → b ≡ true → (a || b) ≡ true
or_right true b h = refl
or_right false b h = h

both : (a b : Bool) → (a && b) ≡ true → (a ≡ true) × (b ≡ true)
both true b h = (refl, h)
both false b h = cc

either_false : (a b : Bool) → (a || b) ≡ false → (a ≡ false) × (b ≡ false)
either_false true b h = cc
either_false false b h = (refl, h)

-- a text that begins with a mark has its bracket
has_its_bracket : (mark text : List ℕ) → starts_with nat_eq text mark ≡ true → opens_bracket mark ≡ true → opens_bracket text ≡ true
has_its_bracket [] text begins some = cc
has_its_bracket (m ∷ mark) [] begins some = cc
has_its_bracket (m ∷ mark) (x ∷ text) begins some =
    by (m == 91) refl some (has_its_bracket mark text (both (nat_eq m x) (starts_with nat_eq text mark) begins).1)
  where
    by : (b : Bool) → (m == 91) ≡ b → (b || opens_bracket mark) ≡ true → (opens_bracket mark ≡ true → opens_bracket text ≡ true) → ((x == 91) || opens_bracket text) ≡ true
    by true e h later =
        let same : m ≡ x = eqb-true m x (both (nat_eq m x) (starts_with nat_eq text mark) begins).0 in
        ap (λ v. v || opens_bracket text) (ap (λ y. y == 91) (sym same) ∙ e)
    by false e h later = or_right (x == 91) (opens_bracket text) (later h)

begins_not : (mark text : List ℕ) (b : Bool) → starts_with nat_eq text mark ≡ b → opens_bracket mark ≡ true → opens_bracket text ≡ false → starts_with nat_eq text mark ≡ false
begins_not mark text false e some none = e
begins_not mark text true e some none = let has : opens_bracket text ≡ true = has_its_bracket mark text e some in cc

no_place : (mark text : List ℕ) → opens_bracket mark ≡ true → opens_bracket text ≡ false → last_place mark text ≡ None
unfolding last_place
no_place mark [] some none = refl
no_place mark (x ∷ text) some none =
    let later : last_place mark text ≡ None = no_place mark text some (either_false (x == 91) (opens_bracket text) none).1 in
    ap (one_later mark (x ∷ text)) later ∙ ap (λ v. cond v (Some 0) None) (begins_not mark (x ∷ text) (starts_with nat_eq (x ∷ text) mark) refl some none)

pub none_shown : (text : List ℕ) → opens_bracket text ≡ false → last_shown text ≡ None
unfolding last_shown cut_last
none_shown text none =
    ap (λ place. later (cut_at (codes " showed [") text place) (cut_last (codes " mucked [") text)) (no_place (codes " showed [") text refl none)
    ∙ ap (λ place. later None (cut_at (codes " mucked [") text place)) (no_place (codes " mucked [") text refl none)

-- what stands after a front: the text begins with it
pub behind_is : (front text rest : List ℕ) → Some rest ≡ behind front text → (starts_with nat_eq text front ≡ true) × (rest ≡ drop (length front) text)
unfolding behind
behind_is front text rest is = by (starts_with nat_eq text front) refl is
  where
    by : (b : Bool) → starts_with nat_eq text front ≡ b → Some rest ≡ (if b then Some (drop (length front) text) else None) → (starts_with nat_eq text front ≡ true) × (rest ≡ drop (length front) text)
    by true e is = (e, (let same : rest ≡ drop (length front) text = cc in same))
    by false e is = cc

abbrev showed : List ℕ
showed = codes " showed ["

abbrev mucked : List ℕ
mucked = codes " mucked ["

-- the last bracket that opens
abbrev pub IsLastBracket : List ℕ → ℕ → Type 0
IsLastBracket text k = IsLastByte (is_byte 91) text (Some k)

-- words of nine bytes that end with a bracket don't stand after the place from which on the last one is the ninth
not_later : (text mark : List ℕ) (p k q : ℕ) → length mark ≡ 9 → get_or mark 8 0 ≡ 91 → IsLastBracket text k → p + 8 ≡ k → OccursAt text mark q → q ≤ p
not_later text mark p k q long ends last here at = by (nat_le q p) refl
  where
    by : (b : Bool) → nat_le q p ≡ b → q ≤ p
    by true e = grind (arith, nat_tests)
    by false e =
        let past : p < q = grind (arith, nat_tests) in
        let fits = at.fits in
        let bracket : Passes (is_byte 91) text (q + 8) = eq-eqb (get_or text (q + 8) 0) 91 (at.reads 8 (omega (arith, long)) ∙ ends) in
        absurd (last.0.after (q + 8) (omega (arith, past, here)) (omega (arith, fits, long)) bracket)

first_last : (text mark : List ℕ) (p k : ℕ) → length mark ≡ 9 → get_or mark 8 0 ≡ 91 → IsLastBracket text k → p + 8 ≡ k → starts_with nat_eq (drop p text) mark ≡ true → Some p ≡ last_place mark text
first_last text mark p k long ends last here begins =
    let inside = last.0.high in
    place_found text mark p (omega (arith, long)) (omega (arith, here, inside)) begins
    (λ q past within at. let no : q ≤ p = not_later text mark p k q long ends last here at in omega (arith, past, no))

-- both words don't stand at one place
apart : (text : List ℕ) (p q : ℕ) → OccursAt text mucked p → OccursAt text showed q → q ≡ p → ⊥
apart text p q here there same =
    let one : get_or text (p + 1) 0 ≡ 109 = here.reads 1 (omega arith) in
    let other : get_or text (q + 1) 0 ≡ 115 = there.reads 1 (omega arith) in
    let both : 115 ≡ 109 = sym other ∙ ap (λ n. get_or text (n + 1) 0) same ∙ one in
    omega (arith, both)

pub showed_found : (text : List ℕ) (p k : ℕ) → IsLastBracket text k → p + 8 ≡ k → starts_with nat_eq (drop p text) showed ≡ true → last_shown text ≡ Some (take p text, drop (p + 9) text)
unfolding last_shown cut_last
showed_found text p k last here begins =
    ap (λ place. later (cut_at showed text place) (cut_at mucked text (last_place mucked text))) (sym (first_last text showed p k refl refl last here begins))
    ∙ by (last_place mucked text) refl
  where
    by : (o : Option ℕ) → last_place mucked text ≡ o → later (Some (take p text, drop (p + 9) text)) (cut_at mucked text o) ≡ Some (take p text, drop (p + 9) text)
    by None e = refl
    by (Some q) e =
        let no : q ≤ p = not_later text mucked p k q refl refl last here (last_occurs text mucked q e) in
        let more : length (drop (p + 9) text) ≤ length (drop (q + 9) text) = omega (arith, no, length-drop (p + 9) text, length-drop (q + 9) text) in
        let sooner : nat_lt (length (drop (q + 9) text)) (length (drop (p + 9) text)) ≡ false = grind (arith, nat_tests) in
        rw sooner refl

pub mucked_found : (text : List ℕ) (p k : ℕ) → IsLastBracket text k → p + 8 ≡ k → starts_with nat_eq (drop p text) mucked ≡ true → last_shown text ≡ Some (take p text, drop (p + 9) text)
unfolding last_shown cut_last
mucked_found text p k last here begins =
    ap (λ place. later (cut_at showed text (last_place showed text)) (cut_at mucked text place)) (sym (first_last text mucked p k refl refl last here begins))
    ∙ by (last_place showed text) refl
  where
    by : (o : Option ℕ) → last_place showed text ≡ o → later (cut_at showed text o) (Some (take p text, drop (p + 9) text)) ≡ Some (take p text, drop (p + 9) text)
    by None e = refl
    by (Some q) e =
        let inside = last.0.high in
        let there : OccursAt text showed q = last_occurs text showed q e in
        let within : p ≤ length text = omega (arith, here, inside) in
        let at : OccursAt text mucked p = occurs_there p text mucked within (occurs_first (drop p text) mucked begins) in
        let no : q ≤ p = not_later text showed p k q refl refl last here there in
        let other : q ≡ p → ⊥ = apart text p q at there in
        let less : q < p = omega (arith, no, other) in
        let fewer : length (drop (p + 9) text) < length (drop (q + 9) text) = omega (arith, less, here, inside, length-drop (p + 9) text, length-drop (q + 9) text) in
        let later_one : nat_lt (length (drop (p + 9) text)) (length (drop (q + 9) text)) ≡ true = grind (arith, nat_tests) in
        rw later_one refl
