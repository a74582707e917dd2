-- The modes whose report is one block for all hands, which is written when the reading has ended.
use Rattle.std.proofs.Common.{◌≡◌, ◌∷◌, [], refl, sym, ap, subst}
use Rattle.std.specs.Prelude.{count_by, not}
use Rattle.std.specs.List.{filter_map}
use Rattle.player_totals.specs.Balance.{balance_block, balance_lines, balance_of}
use Rattle.player_totals.specs.Totals.{is_accepted, run_block, totals_block, totals_of}
use Rattle.run_loop.specs.Histories.{chips_hand, verdict_of}
use Rattle.run_loop.specs.UnitSums.{IsOneBlock}
use Rattle.command_words.specs.declared.command.Command.{Command}
use Rattle.command_words.specs.declared.command.Mode.{Mode}
use Rattle.command_words.specs.declared.command.Mode.TheVariants as mode
use Rattle.run_loop.specs.Laws.{has_blocks}
use Rattle.run_loop.specs.Reading.{reported}
use Rattle.run_loop.specs.Report.{blocks_in, rejects_in}
use Rattle.run_loop.specs.Units.{is_whole}
use Rattle.hand_cuts.specs.Units.{units_in}
use Rattle.hand_cuts.specs.declared.units.CutKind.TheVariants.{Hands}
use Rattle.run_loop.proofs.UnitFacts.{hands_reported}

-- that of the totals
pub totals_block_alone : (asked : Command) → asked.mode ≡ mode.Totals → IsOneBlock asked (λ hands. totals_of (filter_map verdict_of hands)) run_block (λ totals. totals.rejected)
totals_block_alone asked is = record {
  waits = ap has_blocks is;
  blocks = λ ending bytes.
      subst (λ (m : Mode). blocks_in m asked (reported m ending bytes) ≡ totals_block asked.form (filter_map verdict_of (units_in Hands (is_whole ending) 1 bytes)) ∷ []) (sym is)
      (ap (λ hands. totals_block asked.form (filter_map verdict_of hands) ∷ []) (sym (hands_reported mode.Totals ending bytes refl)));
  rejects = λ ending bytes.
      subst (λ (m : Mode). rejects_in m asked (reported m ending bytes) ≡ count_by (λ hand. not (is_accepted hand)) (filter_map verdict_of (units_in Hands (is_whole ending) 1 bytes))) (sym is)
      (ap (λ hands. count_by (λ hand. not (is_accepted hand)) (filter_map verdict_of hands)) (sym (hands_reported mode.Totals ending bytes refl)));
}

-- and that of the balance
pub balance_block_alone : (asked : Command) → asked.mode ≡ mode.Balance → IsOneBlock asked (λ hands. balance_of (filter_map chips_hand hands)) balance_lines (λ balance. balance.rejected)
balance_block_alone asked is = record {
  waits = ap has_blocks is;
  blocks = λ ending bytes.
      subst (λ (m : Mode). blocks_in m asked (reported m ending bytes) ≡ balance_block asked.form (filter_map chips_hand (units_in Hands (is_whole ending) 1 bytes)) ∷ []) (sym is)
      (ap (λ hands. balance_block asked.form (filter_map chips_hand hands) ∷ []) (sym (hands_reported mode.Balance ending bytes refl)));
  rejects = λ ending bytes.
      subst (λ (m : Mode). rejects_in m asked (reported m ending bytes) ≡ count_by (λ hand. not (is_accepted hand.audit)) (filter_map chips_hand (units_in Hands (is_whole ending) 1 bytes))) (sym is)
      (ap (λ hands. count_by (λ hand. not (is_accepted hand.audit)) (filter_map chips_hand hands)) (sym (hands_reported mode.Balance ending bytes refl)));
}
