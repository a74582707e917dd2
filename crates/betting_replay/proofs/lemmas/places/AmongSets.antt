-- Parts of sets that share no card share none.
use Rattle.std.proofs.Common.{◌≡◌, ℕ, List, true}
use Rattle.card_sets.specs.Disjoint.{apart}
use Rattle.betting_replay.specs.CardLaws.{Among}
use Rattle.card_sets.proofs.CallerLemmas.{Apart-apart, apart-Apart}

-- parts of sets that share no card share none
pub apart_among : (a b whole other : List ℕ) → Among a whole → Among b other → apart whole other ≡ true → apart a b ≡ true
apart_among a b whole other x y h = apart-Apart a b (λ k p q. Apart-apart whole other h k (x.each k p) (y.each k q))
