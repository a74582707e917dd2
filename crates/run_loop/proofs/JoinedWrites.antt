-- Writes of two pieces, one piece after the other, as writes of both.
use Rattle.std.proofs.Common.{◌≡◌, ℕ, List, [], ◌∷◌, ◌++◌, Option, Result, Ok, Err, inr, sym, ap, subst, ◌∙◌, arith, append_assoc, length-append}
use Rattle.std.specs.List.{concat}
use Rattle.std.specs.Prelude.{OnOk}
use Rattle.byte_ends.specs.Ends.{WritesOn, WritesOut}
use Rattle.byte_ends.specs.declared.Failed.{Failed as Fault}
use Rattle.run_loop.specs.Gathering.{Gathers}
use Rattle.run_loop.proofs.WriteFacts.{concat-append}

-- some writes, and then others
writes_then : {K : Type 0} (writes : K → K → Option (List ℕ) → Type 0) (old mid new : K) (first later : List (List ℕ)) → WritesOn writes old first mid → WritesOn writes mid later new → WritesOn writes old (first ++ later) new
writes_then {K} writes old mid new [] later f l = subst (λ (m : K). WritesOn writes m later new) f l
writes_then writes old mid new (piece ∷ first) later f l = (f.0, f.1, f.2, writes_then writes f.0 mid new first later f.3 l)

-- both pieces are written
pub out_twice : {K : Type 0} (writes : K → K → Option (List ℕ) → Type 0) (old mid new : K) (a b : List ℕ) → WritesOut writes old mid a (Ok tt) → WritesOut writes mid new b (Ok tt) → WritesOut writes old new (a ++ b) (Ok tt)
out_twice writes old mid new a b f l =
    (f.0 ++ l.0, concat-append f.0 l.0 ∙ ap (λ xs. xs ++ concat l.0) f.1 ∙ ap (λ xs. a ++ xs) l.1, writes_then writes old mid new f.0 l.0 f.2 l.2)

-- the first is, and a write of the second fails
pub out_then_fails : {K : Type 0} (writes : K → K → Option (List ℕ) → Type 0) (old mid new : K) (a b : List ℕ) (fault : Fault) → WritesOut writes old mid a (Ok tt) → WritesOut writes mid new b (Err fault) → WritesOut writes old new (a ++ b) (Err fault)
out_then_fails writes old mid new a b fault f l = (
  f.0 ++ l.0,
  l.1,
  l.2,
  l.3,
  ap (λ xs. xs ++ l.1) (concat-append f.0 l.0 ∙ ap (λ xs. xs ++ concat l.0) f.1) ∙ append_assoc a (concat l.0) l.1 ∙ ap (λ xs. a ++ xs) l.4,
  writes_then writes old mid l.2 f.0 l.0 f.2 l.5,
  l.6,
)

-- a write of the first fails
pub out_fails : {K : Type 0} (writes : K → K → Option (List ℕ) → Type 0) (old new : K) (a b : List ℕ) (fault : Fault) → WritesOut writes old new a (Err fault) → WritesOut writes old new (a ++ b) (Err fault)
out_fails writes old new a b fault f = (
  f.0,
  f.1 ++ b,
  f.2,
  (let some = f.3 in omega (arith, length-append f.1 b)),
  sym (append_assoc (concat f.0) f.1 b) ∙ ap (λ xs. xs ++ b) f.4,
  f.5,
  f.6,
)

-- what was gathered is written, and then a block after it
pub gathers_joined : {K : Type 0} (writes : K → K → Option (List ℕ) → Type 0) (old mid new : K) (block ready ready' : List ℕ) (result : Result (Unit {0}) Fault) → ready' ≡ []
    → WritesOut writes old mid ready (Ok tt) → WritesOut writes mid new block result → Gathers writes old new block ready ready' result
gathers_joined writes old mid new block ready ready' (Ok x) none f l = inr (out_twice writes old mid new ready block f l, none)
gathers_joined writes old mid new block ready ready' (Err fault) none f l = out_then_fails writes old mid new ready block fault f l

-- all that was gathered is written, a block after it among them, or a write of it fails
pub gathers_written : {K : Type 0} (writes : K → K → Option (List ℕ) → Type 0) (old new : K) (block ready ready' : List ℕ) (result : Result (Unit {0}) Fault) → OnOk result (ready' ≡ [])
    → WritesOut writes old new (ready ++ block) result → Gathers writes old new block ready ready' result
gathers_written writes old new block ready ready' (Ok x) none w = inr (w, none)
gathers_written writes old new block ready ready' (Err fault) none w = w
