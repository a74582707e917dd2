use Rattle.std.proofs.Common.{◌≡◌, ℕ, List, take}
use Rattle.std.specs.List.{list_all}
use Rattle.card_sets.specs.Cards.{IsCardSet}
use Rattle.card_sets.specs.Disjoint.{apart}
use Rattle.hand_ranges.proofs.taken.Taken.cards.Given as goal

abbrev pub invariant-loop-w : goal.invariant-loop-w
invariant-loop-w l = (hand : List ℕ) → IsCardSet hand → apart hand l.cards ≡ list_all (λ w. apart w.hand hand) (take l.w-index l.w-items)
