use Rattle.std.proofs.Common.{◌≡◌, ◌<◌, [], length, sym, ap, refl, ◌∙◌, arith, take}
use Rattle.std.specs.Prelude.{slice_index_or}
use Rattle.std.specs.Option.{option_map}
use Rattle.std.proofs.lemmas.List.{length-map, length-take, get_or-take}
use Rattle.card_sets.specs.State.{state_of}
use Rattle.card_sets.specs.Rising.{IsRising-cards_where}
use Rattle.runout_ranges.specs.Slots.{slots, unseen, counts_of}
use Rattle.showdown_tally.specs.Numbers.{side_number}
use Rattle.showdown_tally.specs.Showdown.{best, own_after, board_after}
use Rattle.showdown_tally.proofs.DealtCards.{Deals, deals-length, runout_deals}
use Rattle.showdown_tally.proofs.after.values_after.Goals as goal

pub dealt_in-requires : goal.dealt_in-requires
dealt_in-requires c =
    let st = state_of c.args.table.now.known in
    let deals : Deals (unseen st) (counts_of (slots st)) c.args.sets.now = runout_deals (unseen st) (counts_of (slots st)) c.args.sets.now (IsRising-cards_where _) c.requires.runout in
    let same : length (counts_of (slots st)) ≡ length (slots st) = simp length-map in
    deals-length (unseen st) (counts_of (slots st)) c.args.sets.now deals ∙ same ∙ ap length (sym c.requires.shape.lacking)

pub side_values-requires-clause-full : goal.side_values-requires-clause-full
side_values-requires-clause-full c h l =
    let st = state_of c.args.table.now.known in
    let few = c.args.table.now.known.few in
    let inside : h < c.args.table.now.known.count = omega (arith, length-take c.args.table.now.known.count c.hands_after-full.result) in
    let within : h < length (take c.args.table.now.known.count c.args.table.now.known.hands) = omega (arith, length-take c.args.table.now.known.count c.args.table.now.known.hands, c.ten_places.ensures.hands, few) in
    let board : c.union-board.result ≡ board_after st c.args.sets.now = rw (c.union-board.ensures, c.dealt_in.ensures, c.requires.shape.lacking) refl in
    let own : slice_index_or (take c.args.table.now.known.count c.hands_after-full.result) h [] ≡ own_after st c.args.sets.now h = get_or-take c.args.table.now.known.count c.hands_after-full.result h [] inside ∙ c.hands_after-full.ensures.hands h within in
    rw (own, board) (c.hands_after-full.ensures.full h within)

pub returns : goal.returns
returns c =
    let st = state_of c.args.table.now.known in
    let few = c.args.table.now.known.few in
    let board : c.union-board.result ≡ board_after st c.args.sets.now = rw (c.union-board.ensures, c.dealt_in.ensures, c.requires.shape.lacking) refl in
    record {
      numbers = λ h l.
          let inside : h < c.args.table.now.known.count = omega (arith, length-take c.args.table.now.known.count c.args.table.now.known.hands) in
          let there : h < length (take c.args.table.now.known.count c.hands_after-full.result) = omega (arith, length-take c.args.table.now.known.count c.hands_after-full.result, c.hands_after-full.ensures.ten, few) in
          let own : slice_index_or (take c.args.table.now.known.count c.hands_after-full.result) h [] ≡ own_after st c.args.sets.now h = get_or-take c.args.table.now.known.count c.hands_after-full.result h [] inside ∙ c.hands_after-full.ensures.hands h l in
          c.side_values.ensures h there
          ∙ ap (λ cards. option_map (side_number c.args.side c.args.table.now.known.game) (best c.args.side c.args.table.now.known.game cards c.union-board.result)) own
          ∙ ap (λ cards. option_map (side_number c.args.side c.args.table.now.known.game) (best c.args.side c.args.table.now.known.game (own_after st c.args.sets.now h) cards)) board;
      full = c.hands_after-full.ensures.full;
    }
