-- A vector whose slice was lent.
use Rattle.std.proofs.Common.{◌≡◌, ◌++◌, List, ℕ, length, take, drop, append-nil, arith, ap, ◌∙◌}
use Rattle.std.proofs.lemmas.List.{drop_all, take_all}

-- what it holds after its slice was lent whole
pub back : {X : Type 0} (len : ℕ) (new items : List X) → length new ≡ length items → len ≡ length items → take len (new ++ drop (length new) items) ≡ new
back len new items same is =
    ap (λ r. take len (new ++ r)) (drop_all (length new) items (omega arith)) ∙ ap (take len) (append-nil new) ∙ take_all len new (omega arith)
