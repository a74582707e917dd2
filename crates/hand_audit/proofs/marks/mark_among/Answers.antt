use Rattle.std.proofs.Common.{◌==◌, ◌∙◌, ap}
use Rattle.std.specs.Prelude.{filter, map}
use Rattle.card_sets.specs.Games.{allowed}
use Rattle.hand_audit.specs.Marks.{highest, top_card}
use Rattle.hand_audit.specs.MarkNumbers.{number_of_five, top_number}
use Rattle.hand_audit.proofs.lemmas.marks.FiveNumbers.{mark_is}
use Rattle.hand_audit.proofs.lemmas.splits.HandNumbers.{full_of}
use Rattle.hand_audit.proofs.marks.mark_among.Goals as goal

pub returns-clause-value : goal.returns-clause-value
returns-clause-value c =
    let side = c.args.side in
    let all = allowed c.args.game c.args.own c.args.board in
    let full = full_of c.args.game c.args.own c.args.board c.rising.ensures.set c.rising-2.ensures.set c.requires.full in
    let fives = c.law_fives_have_five_cards.ensures c.args.game c.args.own c.args.board c.rising.ensures.set c.rising-2.ensures.set full.apart in
    c.mark_with.ensures.value
    ∙ ap (λ fives. highest (map (top_card side) (filter (λ five. number_of_five side five == c.top_number-number.result) fives))) c.fives-2.ensures
    ∙ ap (λ n. highest (map (top_card side) (filter (λ five. number_of_five side five == n) all))) (c.top_number-number.ensures ∙ ap (top_number side) c.fives.ensures)
    ∙ mark_is side all fives
