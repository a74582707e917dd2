-- What is seen of a cutter as a piece is given, a unit is handed out or bytes are moved, by what its scan does.
use Rattle.std.proofs.Common.{◌≡◌, ℕ, ◌+◌, ◌-◌, ◌≤◌, List, [], ◌∷◌, ◌++◌, length, take, drop, Option, Some, None, refl, sym, ap, subst, ◌∙◌, arith, append-nil, length-append, length-drop}
use mathlib.Core.Bool.{true≢false}
use Rattle.std.specs.Prelude.{slice_range, IsNone, IfNone, IfSome}
use Rattle.std.specs.List.{copy_within}
use Rattle.std.proofs.lemmas.List.{drop-append-le, take-append-le, take_at, take_all}
use Rattle.line_text.specs.Lines.{lines, has_newline}
use Rattle.hand_cuts.specs.Units.{units_in}
use Rattle.hand_cuts.specs.CutterState.{CutterState}
use Rattle.hand_cuts.specs.Cutters.{Gives, seen, units_left}
use Rattle.hand_cuts.specs.Scans.{IsScan, HeadIs, HandsOut, NoUnit, number_bound}
use Rattle.hand_cuts.specs.Sound.{view_of}
use Rattle.hand_cuts.specs.declared.cutter.Cutter.TheInside.{Inside}
use Rattle.hand_cuts.specs.declared.scan.Head.{Head}
use Rattle.hand_cuts.specs.declared.scan.Scan.{Scan}
use Rattle.hand_cuts.specs.declared.units.CutKind.{CutKind}
use Rattle.hand_cuts.specs.declared.units.Unit.{Unit as UnitPlace}

-- more bytes leave the slices as they are
slice-front : (xs ys : List ℕ) (a b : ℕ) → a ≤ b → b ≤ length xs → slice_range (xs ++ ys) a b ≡ slice_range xs a b
slice-front xs ys a b l m =
    ap (take (b - a)) (drop-append-le a xs ys (omega arith)) ∙ take-append-le (b - a) (drop a xs) ys (omega (arith, length-drop a xs))

given_head : (bytes piece : List ℕ) (at line looked : ℕ) (head : Option Head) → at ≤ looked → looked ≤ length bytes → HeadIs bytes at line looked head → HeadIs (bytes ++ piece) at line looked head
given_head bytes piece at line looked None onward inside h = let same = slice-front bytes piece at looked onward inside in rw same h
given_head bytes piece at line looked (Some head) onward inside h =
    let first = slice-front bytes piece at head.at h.after (let b = h.before in omega arith) in
    let second = slice-front bytes piece head.at looked (let b = h.before in omega arith) inside in
    record {
      after = h.after;
      before = h.before;
      front = rw first h.front;
      passed = rw first h.passed;
      number = rw first h.number;
      whole = rw second h.whole;
      text = h.text;
      later = h.later;
      texts = ap lines second ∙ h.texts;
      header = h.header;
      one = h.one;
    }

-- a piece is given
pub scan_given : (bytes piece : List ℕ) (s : Scan) → IsScan bytes s → IsScan (bytes ++ piece) s
scan_given bytes piece s scan =
    let inside : s.looked ≤ length bytes = (let a = scan.ahead in let w = scan.within in omega arith) in
    let looked = slice-front bytes piece s.at s.looked scan.onward inside in
    let searched = slice-front bytes piece s.looked s.searched scan.ahead scan.within in
    let size = length-append bytes piece in
    record {
      onward = scan.onward;
      ahead = scan.ahead;
      within = (let w = scan.within in omega arith);
      searched = ap has_newline searched ∙ scan.searched;
      whole = rw looked scan.whole;
      counted = rw looked scan.counted;
      head = given_head bytes piece s.at s.line s.looked s.head scan.onward inside scan.head;
    }

-- a unit is handed out
pub gives_unit : (c : Inside) (new : Scan) (unit : UnitPlace) → HandsOut c.kind c.closed c.bytes.items c.scan new unit → Gives (view_of c) (view_of (record c { scan = new })) unit
gives_unit c new unit out =
    let bytes = c.bytes.items in
    let now = out.stays c.closed [] (λ e. (e, refl)) in
    record {
      behind = out.behind;
      some = out.some;
      within = out.within;
      begins = out.begins;
      ends = out.ends;
      counted = out.counted;
      first = ap (units_in c.kind c.closed c.scan.line) (sym (append-nil (drop c.scan.at bytes))) ∙ now ∙ ap (λ xs. seen bytes unit ∷ units_in c.kind c.closed new.line xs) (append-nil (drop new.at bytes));
      stays = out.stays;
      after = ap (λ n. (let v : CutterState = record { kind = c.kind; held = bytes; at = n; line = new.line; given = c.given; closed = c.closed } in v)) out.at
          ∙ ap (λ n. (let v : CutterState = record { kind = c.kind; held = bytes; at = unit.end; line = n; given = c.given; closed = c.closed } in v)) out.line;
    }

pub some_unit : (c : CutterState) (new : CutterState) (unit : UnitPlace) → Gives c new unit → units_left c ≡ [] → ⊥
some_unit c new unit gives none = let e : seen c.held unit ∷ units_left new ≡ [] = sym gives.first ∙ none in cc

pub no_unit : (c : Inside) (new : Scan) → NoUnit c.kind c.closed c.bytes.items c.scan new → view_of (record c { scan = new }) ≡ view_of c
no_unit c new n = ap (λ k. (let v : CutterState = record { kind = c.kind; held = c.bytes.items; at = k; line = new.line; given = c.given; closed = c.closed } in v)) n.at
    ∙ ap (λ k. (let v : CutterState = record { kind = c.kind; held = c.bytes.items; at = c.scan.at; line = k; given = c.given; closed = c.closed } in v)) n.line

-- what is moved to the front
pub moved : (bytes : List ℕ) (from : ℕ) → from ≤ length bytes → take (length bytes - from) (copy_within bytes from (length bytes) 0) ≡ drop from bytes
moved bytes from l =
    let n = length bytes - from in
    let all : take n (drop from bytes) ≡ drop from bytes = take_all n (drop from bytes) (omega (arith, length-drop from bytes)) in
    take_at (take n (drop from bytes)) (drop (0 + n) bytes) n (omega (arith, ap length all, length-drop from bytes)) ∙ all

-- whether a unit is handed out, and which
pub record Told (c : Inside) (now : CutterState) (new : Scan) (result : Option UnitPlace) : Type 0 where
  pub none : (IsNone result → units_left now ≡ []) × (units_left now ≡ [] → IsNone result)
  pub same : IsNone result → view_of (record c { scan = new }) ≡ now
  pub some : IfSome result (λ unit. Gives now (view_of (record c { scan = new })) unit)

told_alone : (c : Inside) (new : Scan) (result : Option UnitPlace) → IfNone result (NoUnit c.kind c.closed c.bytes.items c.scan new) → IfSome result (λ unit. HandsOut c.kind c.closed c.bytes.items c.scan new unit)
    → Told c (view_of c) new result
told_alone c new None none some = record { none = (λ _. none.none, λ _. refl); same = λ _. no_unit c new none; some = tt }
told_alone c new (Some unit) none some =
    let gives = gives_unit c new unit some in
    record { none = (λ e. absurd (true≢false e), λ e. absurd (some_unit (view_of c) (view_of (record c { scan = new })) unit gives e)); same = λ e. absurd (true≢false e); some = gives }

pub told : (c : Inside) (now : CutterState) (new : Scan) (result : Option UnitPlace) (kind : CutKind) (bytes : List ℕ) → view_of c ≡ now → c.kind ≡ kind → bytes ≡ c.bytes.items
    → IfNone result (NoUnit kind c.closed bytes c.scan new) → IfSome result (λ unit. HandsOut kind c.closed bytes c.scan new unit) → Told c now new result
told c now new result kind bytes view is same none some =
    subst (λ (v : CutterState). Told c v new result) view (told_alone c new result
    (subst (λ (k : CutKind). IfNone result (NoUnit k c.closed c.bytes.items c.scan new)) (sym is) (subst (λ (xs : List ℕ). IfNone result (NoUnit kind c.closed xs c.scan new)) same none))
    (subst (λ (k : CutKind). IfSome result (λ unit. HandsOut k c.closed c.bytes.items c.scan new unit)) (sym is) (subst (λ (xs : List ℕ). IfSome result (λ unit. HandsOut kind c.closed xs c.scan new unit)) same some)))

-- numbers of lines are small
pub small_line : (bytes : List ℕ) (s old : Scan) (given most : ℕ) → IsScan bytes s → number_bound bytes s ≤ number_bound bytes old → number_bound bytes old ≤ given + 1 → given ≤ most → s.line ≤ most + 1
small_line bytes s old given most scan fewer few small = let n = scan.counted in omega arith

-- a piece that is given raises the bound by as much
pub bound_given : (bytes piece : List ℕ) (s : Scan) (given : ℕ) → IsScan bytes s → number_bound bytes s ≤ given + 1 → number_bound (bytes ++ piece) s ≤ given + length piece + 1
bound_given bytes piece s given scan few =
    let size = length-append bytes piece in
    let a = scan.ahead in
    let w = scan.within in
    omega arith
