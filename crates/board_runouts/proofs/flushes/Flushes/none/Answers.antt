use Rattle.std.proofs.Common.{◌≡◌, ◌≤◌, ℕ, Some, ap, sym, ◌∙◌, arith}
use Rattle.std.specs.Prelude.{slice_get}
use Rattle.board_runouts.specs.Highs.{AreBestFlushes}
use Rattle.board_runouts.specs.declared.flush.Flush.{Flush}
use Rattle.board_runouts.proofs.RowSets.{all_alike}
use Rattle.board_runouts.proofs.flushes.Flushes.none.Goals as goal

pub returns : goal.returns
returns c = λ deal.
    let none = c.none.result in
    let zero : none.stamp ≡ 0 = c.none.ensures in
    let list = c.in_ok-list.list.items in
    let all : (P : Flush → Type 0) → P none → (i : ℕ) (f : Flush) → slice_get list i ≡ Some f → P f = (λ P is i f at. all_alike P 2048 none is i f (ap (λ l. slice_get l i) (sym c.in_ok-list.ensures.items) ∙ at)) in
    record {
      past = record { places = c.in_ok-list.ensures.places; each = all (λ f. f.stamp ≤ 1) (omega arith) };
      best = all (λ f. f.stamp ≡ 1 → AreBestFlushes deal f.cards f.suit f.tops f.sets) (λ one. absurd (omega arith));
    }
