use Rattle.std.proofs.Common.{◌≡◌, ℕ, List, [], ◌∷◌, length, refl, sym, ap, ◌∙◌, arith, None}
use Rattle.std.specs.Prelude.{slice_get}
use Rattle.card_sets.specs.Bits.{first_rest}
use Rattle.board_ranks.proofs.ten_threes.lowest_of.Goals as goal

-- a list with no first has nothing
nothing : (cards : List ℕ) → slice_get cards 0 ≡ None → length cards ≡ 0
nothing [] h = refl
nothing (card ∷ cards) h = cc

pub unreachable-requires : goal.unreachable-requires
unreachable-requires c =
    let none : length c.args.cards ≡ 0 = nothing c.args.cards (sym c.first.ensures.value ∙ c.in_default.is) in
    omega arith

pub returns : goal.returns
returns c = first_rest c.args.cards c.in-Some.card c.rising.ensures.set (sym c.first.ensures.value ∙ c.in-Some.is) ∙ ap (λ rest. c.in-Some.card ∷ rest) (sym c.without.ensures)
