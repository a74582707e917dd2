-- The best low of five cards or more has the list of a low.
use Rattle.std.proofs.Common.{◌≡◌, ℕ, List, [], refl, map, Some}
use Rattle.std.specs.Prelude.{filter}
use Rattle.card_sets.specs.Cards.{IsCardSet}
use Rattle.card_sets.specs.Choose.{choose}
use Rattle.card_sets.specs.Rising.{IsCardSet-rising}
use Rattle.rank_low.specs.Low.{low_a5, qualifies, best_low, best_eight}
use Rattle.rank_low.proofs.CallerLemmas.{IsAceList}
use Rattle.rank_low.proofs.CallerLemmas.{with_taken-AreAceLists}
use Rattle.rank_low.proofs.CallerLemmas.{eight-AreAceLists, least-IsAceList}

pub best_low-IsAceList : (cards x : List ℕ) → IsCardSet cards → best_low cards ≡ Some x → IsAceList x
unfolding best_low
best_low-IsAceList cards x set e = least-IsAceList (map low_a5 (choose 5 cards)) x (with_taken-AreAceLists [] 5 cards (IsCardSet-rising cards set) refl) e

pub best_eight-IsAceList : (cards x : List ℕ) → IsCardSet cards → best_eight cards ≡ Some x → IsAceList x
unfolding best_eight
best_eight-IsAceList cards x set e = least-IsAceList (map low_a5 (filter qualifies (choose 5 cards))) x (eight-AreAceLists cards set) e
