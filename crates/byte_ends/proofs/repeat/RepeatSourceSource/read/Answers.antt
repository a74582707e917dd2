use Rattle.std.proofs.Common.{◌≡◌, ℕ, ◌+◌, ◌-◌, ◌<◌, ◌≤◌, ◌++◌, List, Some, length, take, drop, sym, ap, ◌∙◌, arith}
use Rattle.std.proofs.lemmas.List.{length-take-le, take_at}
use Rattle.byte_ends.specs.Repeat.{RepeatState, repeated}
use Rattle.byte_ends.proofs.GivenBytes.{given_least}
use Rattle.byte_ends.specs.Memory.{least}
use Rattle.byte_ends.proofs.Repeats.{repeated-drop, repeated-length, repeated-take}
use Rattle.byte_ends.proofs.repeat.RepeatSourceSource.read.Goals as goal

pub returns-clause-amount : goal.returns-clause-amount
returns-clause-amount c =
    let i = c.self.inside in
    let left : repeated i.line i.given i.left ≡ c.args.self.now.left = ap (λ (s : RepeatState). s.left) c.self.view_is in
    let piece : i.piece ≡ c.args.self.now.piece = ap (λ (s : RepeatState). s.piece) c.self.view_is in
    omega (arith, c.min.ensures, c.min-count.ensures, piece, ap length left, repeated-length i.line i.given i.left)

pub returns-clause-given : goal.returns-clause-given
returns-clause-given c =
    let i = c.self.inside in
    let n = c.min-count.result in
    let left : repeated i.line i.given i.left ≡ c.args.self.now.left = ap (λ (s : RepeatState). s.left) c.self.view_is in
    let less : n ≤ i.left = omega (arith, c.min-count.ensures) in
    let fits : n ≤ length c.args.piece.now = omega (arith, c.min.ensures, c.min-count.ensures) in
    let given : c.fill.new.piece ≡ take n c.args.self.now.left =
    c.fill.ensures ∙ ap (repeated i.line i.given) (length-take-le n c.args.piece.now fits) ∙ sym (repeated-take i.line i.given n i.left less) ∙ ap (take n) left in
    ap (λ xs. xs ++ drop n c.args.piece.now) given

pub returns-clause-bytes : goal.returns-clause-bytes
returns-clause-bytes c =
    let i = c.self.inside in
    let n = c.min-count.result in
    let left : repeated i.line i.given i.left ≡ c.args.self.now.left = ap (λ (s : RepeatState). s.left) c.self.view_is in
    let less : n ≤ i.left = omega (arith, c.min-count.ensures) in
    let fits : n ≤ length c.args.piece.now = omega (arith, c.min.ensures, c.min-count.ensures) in
    let filled : c.fill.new.piece ≡ repeated i.line i.given n = c.fill.ensures ∙ ap (repeated i.line i.given) (length-take-le n c.args.piece.now fits) in
    let size : length c.fill.new.piece ≡ n = ap length filled ∙ repeated-length i.line i.given n in (
      ap Some (sym (repeated-drop i.line i.given n i.left less) ∙ ap (drop n) left),
      take_at c.fill.new.piece (drop n c.args.piece.now) n size ∙ filled ∙ sym (repeated-take i.line i.given n i.left less) ∙ ap (take n) left,
      omega (arith, less, ap length left, repeated-length i.line i.given i.left),
      λ some none.
          let all : i.left ≡ 0 = omega (arith, c.min.ensures, c.min-count.ensures, some, none, c.self.invariant.some) in
          sym left ∙ ap (repeated i.line i.given) all,
    )

pub returns-clause-after : goal.returns-clause-after
returns-clause-after c =
    let i = c.self.inside in
    let n = c.min-count.result in
    let left : repeated i.line i.given i.left ≡ c.args.self.now.left = ap (λ (s : RepeatState). s.left) c.self.view_is in
    let piece : i.piece ≡ c.args.self.now.piece = ap (λ (s : RepeatState). s.piece) c.self.view_is in
    let less : n ≤ i.left = omega (arith, c.min-count.ensures) in
    let rest : repeated i.line (i.given + n) (i.left - n) ≡ drop n c.args.self.now.left = sym (repeated-drop i.line i.given n i.left less) ∙ ap (drop n) left in
    ap (λ (xs : List ℕ). (let s : RepeatState = record { left = xs; piece = i.piece } in s)) rest
    ∙ ap (λ (p : ℕ). (let s : RepeatState = record { left = drop n c.args.self.now.left; piece = p } in s)) piece

pub returns-clause-one : goal.returns-clause-one
returns-clause-one c = λ some.
    let i = c.self.inside in
    let now = c.args.self.now in
    let n : ℕ = c.min-count.result in
    let left : repeated i.line i.given i.left ≡ now.left = ap (λ (s : RepeatState). s.left) c.self.view_is in
    let piece : i.piece ≡ now.piece = ap (λ (s : RepeatState). s.piece) c.self.view_is in
    let less : n ≤ i.left = omega (arith, c.min-count.ensures) in
    let fits : n ≤ length c.args.piece.now = omega (arith, c.min.ensures, c.min-count.ensures) in
    let filled : c.fill.new.piece ≡ repeated i.line i.given n = c.fill.ensures ∙ ap (repeated i.line i.given) (length-take-le n c.args.piece.now fits) in
    let count : length c.fill.new.piece ≡ n = ap length filled ∙ repeated-length i.line i.given n in
    let size : n ≡ least (length c.args.piece.now) now.piece (length now.left) =
    omega (arith, c.min.ensures, c.min-count.ensures, piece, ap length left, repeated-length i.line i.given i.left) in
    let more : 0 < now.piece = omega (arith, piece, c.self.invariant.some) in
    let front : take n (c.fill.new.piece ++ drop n c.args.piece.now) ≡ take n now.left =
    take_at c.fill.new.piece (drop n c.args.piece.now) n count ∙ filled ∙ sym (repeated-take i.line i.given n i.left less) ∙ ap (take n) left in
    let rest : repeated i.line (i.given + n) (i.left - n) ≡ drop n now.left = sym (repeated-drop i.line i.given n i.left less) ∙ ap (drop n) left in
    let shown = ap (λ (xs : List ℕ). (let s : RepeatState = record { left = xs; piece = i.piece } in s)) rest
    ∙ ap (λ (p : ℕ). (let s : RepeatState = record { left = drop n now.left; piece = p } in s)) piece in
    (drop n now.left, given_least (length c.args.piece.now) now.piece n now.left (c.fill.new.piece ++ drop n c.args.piece.now) size some more front, shown)
