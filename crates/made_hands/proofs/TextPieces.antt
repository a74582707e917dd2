-- Text that is put together piece after piece.
use Rattle.std.proofs.Common.{◌≡◌, List, ℕ, ◌++◌, ap, ◌∙◌, append_assoc}
use Rattle.std.specs.Prelude.{Result, Ok, Err, OnOk, is_ok, if◌then◌else◌}

-- one piece more after what was put there so far
pub one_more : (was front piece so_far next : List ℕ) → so_far ≡ was ++ front → next ≡ so_far ++ piece → next ≡ was ++ (front ++ piece)
one_more was front piece so_far next e f = f ∙ ap (λ text. text ++ piece) e ∙ append_assoc was front piece

-- the last piece, where memory suffices for it
pub last_more : {T E : Type 0} (r : Result T E) (was front piece so_far next : List ℕ) → so_far ≡ was ++ front →
    next ≡ (if is_ok r then so_far ++ piece else so_far) → OnOk r (next ≡ was ++ (front ++ piece))
last_more (Ok x) was front piece so_far next e f = one_more was front piece so_far next e f
last_more (Err x) was front piece so_far next e f = tt
