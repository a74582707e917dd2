use Rattle.std.proofs.Common.{◌≡◌, ◌<◌, ◌≤◌, ℕ, ◌+◌, ◌-◌, ◌++◌, ◌∷◌, [], List, length, take, drop, Option, Some, None, arith, ap, ◌∙◌, append_assoc, sym, length-drop}
use Rattle.std.proofs.lemmas.List.{length-take-le, take_all}
use Rattle.byte_ends.specs.Ends.{WritesAll, Takes}
use Rattle.std.proofs.Math.Seq.{take-add}
use Rattle.byte_ends.proofs.Written.{concat-one_more, writes_one_more}
use Rattle.byte_ends.proofs.write_all.Goals as goal

-- what was written, and then some of the rest
takes_more : (old mid new : Option (List ℕ)) (bytes : List ℕ) (i k : ℕ)
    → WritesAll old mid (take i bytes) → Takes mid new (drop i bytes) k
    → WritesAll old new (take (i + k) bytes)
takes_more None None new bytes i k w t = t
takes_more None (Some m) new bytes i k w t = cc
takes_more (Some o) None new bytes i k w t = cc
takes_more (Some o) (Some m) new bytes i k w t =
    let e : m ≡ o ++ take i bytes = cc in
    t ∙ ap (λ xs. Some xs)
    (ap (λ xs. xs ++ take k (drop i bytes)) e
    ∙ append_assoc o (take i bytes) (take k (drop i bytes))
    ∙ ap (λ xs. o ++ xs) (sym (take-add i k bytes)))

pub loop-at-preserved : goal.loop-at-preserved
loop-at-preserved g c =
    let bytes : List ℕ = c.args.bytes.now in
    let n : ℕ = c.in_ok-at.field-0 in
    let rest : take (length bytes - c.loop-at.at) (drop c.loop-at.at bytes) ≡ drop c.loop-at.at bytes =
    take_all (length bytes - c.loop-at.at) (drop c.loop-at.at bytes) (omega (arith, length-drop c.loop-at.at bytes)) in
    let takes : Takes (g.K.Sink.taken c.loop-at.sink) (g.K.Sink.taken c.write.new.self) (drop c.loop-at.at bytes) n =
    rw rest at c.in_ok-at.ensures.bytes in
    let part : List ℕ = take n (drop c.loop-at.at bytes) in
    let left : length (drop c.loop-at.at bytes) ≡ length bytes - c.loop-at.at = length-drop c.loop-at.at bytes in
    let some : 0 < length (drop c.loop-at.at bytes) = omega arith in
    let within : n ≤ length (drop c.loop-at.at bytes) = omega (arith, c.in_ok-at.ensures.within, ap length rest) in
    let size : length part ≡ n = length-take-le n (drop c.loop-at.at bytes) within in
    let one : g.K.Sink.writes c.loop-at.sink c.write.new.self (Some part) = (rw rest at c.in_ok-at.ensures.one) some in
    let written = c.loop-at.invariant.order in
    record {
      within = omega (arith, c.in_ok-at.ensures.within, ap length rest, length-drop c.loop-at.at bytes);
      written = takes_more _ _ _ bytes c.loop-at.at n c.loop-at.invariant.written takes;
      fine = c.in_ok-at.ensures.fine ∙ c.loop-at.invariant.fine;
      order = (
        written.0 ++ part ∷ [],
        concat-one_more written.0 part ∙ ap (λ xs. xs ++ part) written.1 ∙ sym (take-add c.loop-at.at n bytes),
        writes_one_more g.K.Sink.writes _ c.loop-at.sink _ written.0 part written.2 (omega (arith, (rw rest at c.in_ok-at.ensures.some) some)) one,
      );
    }
