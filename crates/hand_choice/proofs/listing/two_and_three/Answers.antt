use Rattle.std.proofs.Common.{◌≡◌, ◌∙◌, ◌*◌, ◌≤◌, arith, refl, length, ap}
use Rattle.card_sets.specs.Rising.{IsCardSet-rising}
use Rattle.card_sets.specs.Choose.{choose}
use Rattle.hand_choice.proofs.PlainChoices.{choices-alone}
use Rattle.hand_choice.proofs.PushedChoices.{six, ten, at_most_sixty}
use Rattle.hand_choice.proofs.listing.two_and_three.Goals as goal

pub push_choices-requires-clause-above : goal.push_choices-requires-clause-above
push_choices-requires-clause-above c = λ set. rw c.empty-2.ensures (IsCardSet-rising c.args.board set)

pub push_choices-requires-clause-room : goal.push_choices-requires-clause-room
push_choices-requires-clause-room c = omega (arith, ap length c.new-threes.ensures, ten c.args.board c.requires.board)

pub push_pairs-requires-clause-above : goal.push_pairs-requires-clause-above
push_pairs-requires-clause-above c = λ set. rw c.empty-3.ensures (IsCardSet-rising c.args.own set)

pub push_pairs-requires-clause-room : goal.push_pairs-requires-clause-room
push_pairs-requires-clause-room c =
    let three : c.push_choices.new.list ≡ choose 3 c.args.board = c.push_choices.ensures ∙ rw (c.new-threes.ensures, c.empty.ensures, c.empty-2.ensures) (choices-alone 3 c.args.board c.rising.ensures.set) in
    let most : length (choose 2 c.args.own) * length (choose 3 c.args.board) ≤ 60 = at_most_sixty (length (choose 2 c.args.own)) (length (choose 3 c.args.board)) (six c.args.own c.requires.own) (ten c.args.board c.requires.board) in
    rw (c.new-list.ensures, three) (omega (arith, most))

pub returns : goal.returns
returns c =
    let three : c.push_choices.new.list ≡ choose 3 c.args.board = c.push_choices.ensures ∙ rw (c.new-threes.ensures, c.empty.ensures, c.empty-2.ensures) (choices-alone 3 c.args.board c.rising.ensures.set) in
    c.of.ensures ∙ c.push_pairs.ensures ∙ rw (c.new-list.ensures, c.empty-3.ensures, three) refl
