use Rattle.std.proofs.Common.{rules, ◌≡◌, ◌-◌, ◌<◌, ◌≤◌, ◌++◌, ap, sym, ◌∙◌, arith, length, length-drop, drop, take, ℕ, List}
use Rattle.std.proofs.lemmas.List.{drop-drop, length-take-le, take_all, take_at}
use Rattle.byte_ends.specs.Memory.{IsListed, SourceState, least}
use Rattle.byte_ends.specs.Ends.{one_more}
use Rattle.byte_ends.proofs.GivenBytes.{given_least}
use Rattle.byte_ends.proofs.memory.MemorySourceSource.read.Goals as goal

pub returns-clause-one : goal.returns-clause-one
returns-clause-one c = λ some.
    let i = c.self.inside in
    let now = c.args.self.now in
    let n : ℕ = c.min-count.result in
    let after : List ℕ = c.copy_from_slice.new.self ++ drop n c.args.piece.now in
    let held : List ℕ = i.bytes.items in
    let left : drop i.at held ≡ now.left = ap (λ (s : SourceState). s.left) c.self.view_is in
    let piece : i.piece ≡ now.piece = ap (λ (s : SourceState). s.piece) c.self.view_is in
    let rest : take (length held - i.at) (drop i.at held) ≡ now.left = take_all (length held - i.at) (drop i.at held) (omega (arith, length-drop i.at held)) ∙ left in
    let same : c.deref-2.result.now ≡ held = c.deref-2.ensures.value in
    let count : n ≤ length now.left = (let m = rw (same, rest) at c.min-count.ensures in omega arith) in
    let size : n ≡ least (length c.args.piece.now) now.piece (length now.left) =
    (let m = rw (same, rest) at c.min-count.ensures in omega (arith, c.min.ensures, piece)) in
    let more : 0 < now.piece = omega (arith, piece, c.self.invariant.some) in
    let copied : c.copy_from_slice.new.self ≡ take n now.left = rw (same, rest) at c.copy_from_slice.ensures.after in
    let front : take n after ≡ take n now.left =
    take_at c.copy_from_slice.new.self (drop n c.args.piece.now) n (ap length copied ∙ length-take-le n now.left count) ∙ copied in
    let unlisted : IsListed now.fails now.calls → ⊥ = search rules in
    let calls : c.saturating_add-self-inside.result ≡ one_more i.calls = search rules in
    let shown = ap (λ (xs : List ℕ). (let s : SourceState = record { left = xs; piece = i.piece; fails = i.fails.items; calls = c.saturating_add-self-inside.result; faults = i.faults } in s)) (sym (drop-drop n i.at held))
    ∙ ap (λ (k : ℕ). (let s : SourceState = record { left = drop n (drop i.at held); piece = i.piece; fails = i.fails.items; calls = k; faults = i.faults } in s)) calls
    ∙ ap (λ (s : SourceState). (let t : SourceState = record s { left = drop n s.left; calls = one_more s.calls } in t)) c.self.view_is in
    (unlisted, drop n now.left, given_least (length c.args.piece.now) now.piece n now.left after size some more front, shown)
