-- A table of no hands, on which all cards are dead.
use Rattle.std.proofs.Common.{◌≡◌, ℕ, zero, suc, ◌&&◌, not, List, [], ◌∷◌, length, refl, ap, ◌∙◌, Bool, true, false, drop}
use Rattle.std.specs.Prelude.{nat_le, replicate}
use Rattle.std.specs.List.{list_all}
use Rattle.card_sets.specs.Bits.{cards_where_same, has-cards_where}
use Rattle.card_sets.specs.Cards.{cards_below, cards_where, deck, has_card}
use Rattle.card_sets.specs.Disjoint.{all_apart, all_empty, apart}
use Rattle.card_sets.specs.Games.{all_fit}
use Rattle.card_sets.specs.declared.games.Game.TheVariants.{Holdem}
use Rattle.runout_ranges.specs.Slots.{unseen}

apart_none : (cards : List ℕ) → apart cards [] ≡ true
apart_none [] = refl
apart_none (c ∷ cards) = apart_none cards

all_from_none : (n : ℕ) → list_all (apart []) (replicate n []) ≡ true
all_from_none zero = refl
all_from_none (suc n) = all_from_none n

all_from : (dead : List ℕ) (n : ℕ) → list_all (apart dead) (replicate n []) ≡ true
all_from dead zero = refl
all_from dead (suc n) = rw (apart_none dead) (all_from dead n)

none_apart : (n : ℕ) → all_apart (replicate n []) ≡ true
none_apart zero = refl
none_apart (suc n) = rw (all_from_none n) (none_apart n)

pub no_disjoint : (n : ℕ) (none dead : List ℕ) → none ≡ [] → all_apart (none ∷ dead ∷ replicate n none) ≡ true
no_disjoint n none dead e =
    let all : all_apart ([] ∷ dead ∷ replicate n []) ≡ true = rw (all_from_none n, all_from dead n) (none_apart n) in
    ap (λ l. all_apart (l ∷ dead ∷ replicate n l)) e ∙ all

none_empty : (n : ℕ) → all_empty (replicate n []) ≡ true
none_empty zero = refl
none_empty (suc n) = none_empty n

pub no_unused : (n : ℕ) (none : List ℕ) → none ≡ [] → all_empty (drop 0 (replicate n none)) ≡ true
no_unused n none e = ap (λ l. all_empty (replicate n l)) e ∙ none_empty n

none_small : (n : ℕ) → list_all (λ hand. nat_le (length hand) 2) (replicate {A = List ℕ} n []) ≡ true
none_small zero = refl
none_small (suc n) = none_small n

pub no_fitting : (n : ℕ) (none : List ℕ) → none ≡ [] → all_fit Holdem none (replicate n none) ≡ true
no_fitting n none e = ap (λ l. all_fit Holdem l (replicate n l)) e ∙ none_small n

none_below : (n : ℕ) → cards_below (λ k. false) n ≡ []
none_below zero = refl
none_below (suc n) = rw (none_below n) refl

none_where : cards_where (λ k. false) ≡ []
unfolding cards_where
none_where = none_below 52

and_false : (a b : Bool) → (not a && false && b) ≡ false
and_false true b = refl
and_false false b = refl

-- no card may come
pub no_unseen : (board dead : List ℕ) → dead ≡ deck → unseen (record { game = Holdem; hands = []; board = board; dead = dead }) ≡ []
no_unseen board dead e =
    cards_where_same _ (λ k. false) (λ k l.
    let has : has_card dead k ≡ true = ap (λ d. has_card d k) e ∙ has-cards_where (λ n. true) k l in
    rw has (and_false (has_card board k) _)) ∙ none_where
