use Rattle.std.proofs.Common.{◌≡◌, ℕ, List, [], ◌∷◌, refl, ap, ◌∙◌, arith, length}
use Rattle.board_ranks.proofs.ten_threes.five_cards.Goals as goal

pub lowest_of-second-requires : goal.lowest_of-second-requires
lowest_of-second-requires c = omega (arith, ap length c.lowest_of-first.ensures, c.requires)

pub lowest_of-third-requires : goal.lowest_of-third-requires
lowest_of-third-requires c = omega (arith, ap length c.lowest_of-first.ensures, ap length c.lowest_of-second.ensures, c.requires)

pub lowest_of-fourth-requires : goal.lowest_of-fourth-requires
lowest_of-fourth-requires c = omega (arith, ap length c.lowest_of-first.ensures, ap length c.lowest_of-second.ensures, ap length c.lowest_of-third.ensures, c.requires)

pub lowest_of-fifth-requires : goal.lowest_of-fifth-requires
lowest_of-fifth-requires c =
    omega (arith, ap length c.lowest_of-first.ensures, ap length c.lowest_of-second.ensures, ap length c.lowest_of-third.ensures, ap length c.lowest_of-fourth.ensures, c.requires)

none_left : (cards : List ℕ) → length cards ≡ 0 → cards ≡ []
none_left [] e = refl
none_left (card ∷ cards) e = absurd (omega (arith, e))

pub returns : goal.returns
returns c =
    let left : length c.lowest_of-fifth.result.others ≡ 0 =
    omega (arith, ap length c.lowest_of-first.ensures, ap length c.lowest_of-second.ensures, ap length c.lowest_of-third.ensures, ap length c.lowest_of-fourth.ensures, ap length c.lowest_of-fifth.ensures, c.requires) in
    c.lowest_of-first.ensures
    ∙ ap (λ cards. c.lowest_of-first.result.card ∷ cards) (c.lowest_of-second.ensures
    ∙ ap (λ cards. c.lowest_of-second.result.card ∷ cards) (c.lowest_of-third.ensures
    ∙ ap (λ cards. c.lowest_of-third.result.card ∷ cards) (c.lowest_of-fourth.ensures
    ∙ ap (λ cards. c.lowest_of-fourth.result.card ∷ cards) (c.lowest_of-fifth.ensures
    ∙ ap (λ cards. c.lowest_of-fifth.result.card ∷ cards) (none_left c.lowest_of-fifth.result.others left)))))
