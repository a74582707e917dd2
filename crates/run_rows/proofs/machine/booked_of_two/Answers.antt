use Rattle.std.proofs.Common.{◌≡◌, ℕ, [], ◌∷◌, rules, subst, sym, refl}
use Rattle.std.specs.Prelude.{IsPermutation}
use Rattle.std.specs.List.{range_with_len}
use Rattle.std.proofs.lemmas.List.Sorted.{IsPermutation-refl}
use Rattle.showdown_tally.specs.Deals.{deal_of}
use Rattle.steal_core.specs.declared.state.State.{State}
use Rattle.steal_core.specs.Interleavings.{IsFair, deal_blocks}
use Rattle.run_rows.proofs.machine.booked_of_two.Goals as goal

pub law_all_booked-requires : goal.law_all_booked-requires
law_all_booked-requires c =
    let two : deal_blocks (deal_of c.args.job.now.table) ≡ 2 = search rules in
    record {
      fair = subst (λ (s : State). IsFair (deal_of c.args.job.now.table) s _) (sym c.in_ok-start.ensures) (record {
        hands = refl;
        booked = refl;
        blocks = subst (λ (n : ℕ). IsPermutation (range_with_len 0 n) (0 ∷ 1 ∷ [])) (sym two) (IsPermutation-refl (0 ∷ 1 ∷ []));
      });
    }
