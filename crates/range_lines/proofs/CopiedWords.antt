-- One word more of a copy of the words.
use Rattle.std.proofs.Common.{◌≡◌, ℕ, List, ◌∷◌, Bool, true, false, not, drop, refl, sym, ap, ◌∙◌, Some, None, Bor}
use Rattle.std.specs.Prelude.{Option}
use Rattle.std.specs.Iterator.{YieldsFirstRef}
use Rattle.std.proofs.Math.Bool.{beq}
use Rattle.spot_text.specs.Words.{words_left}
use Rattle.spot_text.specs.declared.words.Words.{Words}

pub step_same : (t t' : Words) (r : Option (Bor (List ℕ))) (w : List ℕ) (ws : List (List ℕ)) → YieldsFirstRef words_left t r t' → words_left t ≡ w ∷ ws → words_left t' ≡ ws
step_same t t' None w ws y e = absurd (cc (sym y.0 ∙ e))
step_same t t' (Some x) w ws y e = ap (drop 1) (sym y ∙ e)

pub are_same : (a b : Bool) → not (beq a b) ≡ false → a ≡ b
are_same true true h = refl
are_same true false h = cc
are_same false true h = cc
are_same false false h = refl

pub are_other : (a b : Bool) → not (beq a b) ≡ true → a ≡ not b
are_other true true h = cc
are_other true false h = refl
are_other false true h = refl
are_other false false h = cc
