-- What is written, block by block.
use Rattle.std.proofs.Common.{◌≡◌, ℕ, ◌≤◌, List, [], ◌∷◌, ◌++◌, Option, Some, None, Bool, true, false, refl, sym, ap, ◌∙◌, arith, append_assoc, append-nil}
use mir.Val.{bool_byte}
use Rattle.std.specs.List.{concat}
use Rattle.byte_ends.specs.Ends.{WritesAll}
use Rattle.run_loop.specs.Writing.{one_if}

pub concat-append : (xs ys : List (List ℕ)) → concat (xs ++ ys) ≡ concat xs ++ concat ys
concat-append [] ys = refl
concat-append (x ∷ xs) ys = ap (λ r. x ++ r) (concat-append xs ys) ∙ sym (append_assoc x (concat xs) (concat ys))

-- nothing is written
pub writes_none : (old : Option (List ℕ)) → WritesAll old old []
writes_none None = refl
writes_none (Some taken) = ap Some (sym (append-nil taken))

-- two pieces are written, one after the other
pub writes_join : (old mid new : Option (List ℕ)) (a b : List ℕ) → WritesAll old mid a → WritesAll mid new b → WritesAll old new (a ++ b)
writes_join None None new a b x y = y
writes_join None (Some m) new a b x y = cc
writes_join (Some o) None new a b x y = cc
writes_join (Some o) (Some m) new a b x y =
    let e : m ≡ o ++ a = cc in
    y ∙ ap Some (ap (λ z. z ++ b) e ∙ append_assoc o a b)

pub one_small : (b : Bool) → one_if b ≤ 1
one_small true = omega arith
one_small false = omega arith

-- a bool as a number
pub bool_byte-one : (b : Bool) → bool_byte b ≡ one_if b
bool_byte-one true = refl
bool_byte-one false = refl
