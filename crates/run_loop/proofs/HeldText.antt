-- What is held after one more read.
use Rattle.std.proofs.Common.{◌≡◌, ℕ, ◌+◌, ◌-◌, ◌<◌, ◌≤◌, List, [], ◌++◌, length, take, Option, Some, None, sym, ap, ◌∙◌, arith, append-nil}
use Rattle.std.proofs.lemmas.List.{length-take-le, take-take, take_all}
use Rattle.hand_cuts.specs.CutterState.{CutterState}
use Rattle.hand_cuts.specs.Cutters.{Forgets, rest}
use Rattle.run_loop.specs.Cutting.{Holds, counted}
use Rattle.run_loop.proofs.InputPieces.{with_piece}

given_same : (before mid : CutterState) → Forgets before mid → mid.given ≡ before.given
given_same before mid f = ap (λ (c : CutterState). c.given) f.after

holds : (limit : ℕ) (before mid after : CutterState) (read : Option (List ℕ)) → Forgets before mid → after.held ≡ mid.held ++ counted limit before.given read → after.at ≡ mid.at → Holds limit before after read
holds limit before mid after read f held at = (
  rest mid,
  record { dropped = f.dropped; split = f.split; whole = f.whole; which = f.which },
  held ∙ ap (λ (c : CutterState). c.held ++ counted limit before.given read) f.after,
  at ∙ ap (λ (c : CutterState). c.at) f.after,
)

-- nothing came
pub holds_none : (limit : ℕ) (before mid after : CutterState) → Forgets before mid → after.held ≡ mid.held → after.at ≡ mid.at → Holds limit before after None
holds_none limit before mid after f held at = holds limit before mid after None f (held ∙ sym (append-nil mid.held)) at

-- the input has ended
pub holds_end : (limit : ℕ) (before mid after : CutterState) → Forgets before mid → after.held ≡ mid.held → after.at ≡ mid.at → Holds limit before after (Some [])
holds_end limit before mid after f held at =
    let none : take (limit - before.given) [] ≡ [] = take_all (limit - before.given) [] (omega arith) in
    holds limit before mid after (Some []) f (held ∙ sym (append-nil mid.held) ∙ ap (λ xs. mid.held ++ xs) (sym none)) at

-- a piece was read
pub holds_more : (limit n : ℕ) (before mid after : CutterState) (piece : List ℕ) → Forgets before mid → n ≤ length piece → mid.given + n ≤ limit → after ≡ with_piece mid (take n piece) → Holds limit before after (Some (take n piece))
holds_more limit n before mid after piece f within few same =
    let size : length (take n piece) ≡ n = length-take-le n piece within in
    let given = given_same before mid f in
    let all : take (limit - before.given) (take n piece) ≡ take n piece = take_all (limit - before.given) (take n piece) (omega arith) in
    holds limit before mid after (Some (take n piece)) f (ap (λ (c : CutterState). c.held) same ∙ ap (λ xs. mid.held ++ xs) (sym all)) (ap (λ (c : CutterState). c.at) same)

-- there was more than the limit
pub holds_cut : (limit n : ℕ) (before mid after : CutterState) (piece : List ℕ) → Forgets before mid → limit - mid.given < n → after ≡ with_piece mid (take (limit - mid.given) piece) → Holds limit before after (Some (take n piece))
holds_cut limit n before mid after piece f more same =
    let given = given_same before mid f in
    let first : take (limit - before.given) (take n piece) ≡ take (limit - mid.given) piece = take-take (limit - before.given) n piece (omega arith) ∙ ap (λ k. take (limit - k) piece) (sym given) in
    holds limit before mid after (Some (take n piece)) f (ap (λ (c : CutterState). c.held) same ∙ ap (λ xs. mid.held ++ xs) (sym first)) (ap (λ (c : CutterState). c.at) same)
