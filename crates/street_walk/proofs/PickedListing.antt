-- The sums by picked cards are the sums over the listing of runouts.
use Rattle.std.proofs.Common.{◌≡◌, ℕ, zero, suc, ◌+◌, ◌*◌, List, [], ◌∷◌, ◌++◌, map, refl, sym, ap, ◌∙◌, arith, true, false, ◌==◌}
use Rattle.std.specs.List.{sum_by, flat_map}
use Rattle.std.proofs.lemmas.List.Sums.{sum_by-cons, sum_by-append}
use mathlib.Core.Bool.{true≢false}
use Rattle.card_sets.specs.Cards.{has_card, IsRising, RisingFrom}
use Rattle.card_sets.specs.Choose.{choose}
use Rattle.card_sets.specs.Rising.{has_card-low}
use Rattle.runout_ranges.specs.Runouts.{runouts, left_by}
use Rattle.runout_ranges.proofs.CallerLemmas.{choose_within, other_left, rising_left}
use Rattle.street_walk.proofs.Picks.{picks, deals, joined, now_of, later_of, whole_of, divided, ByAllCards, streets}

-- two sums of the same numbers, of members only
pub sum_same : {X : Type 0} (xs : List X) (f g : X → ℕ) → ((front back : List X) (x : X) → xs ≡ front ++ x ∷ back → f x ≡ g x) → sum_by f xs ≡ sum_by g xs
sum_same [] f g h = refl
sum_same (x ∷ xs) f g h =
    let rest = sum_same xs f g (λ front back y e. h (x ∷ front) back y (ap (λ l. x ∷ l) e)) in
    sum_by-cons f x xs ∙ ap (λ n. n + sum_by f xs) (h [] xs x refl) ∙ ap (λ n. g x + n) rest ∙ sym (sum_by-cons g x xs)

pub sum_map : {X Y : Type 0} (g : X → Y) (f : Y → ℕ) (xs : List X) → sum_by f (map g xs) ≡ sum_by (λ x. f (g x)) xs
sum_map g f [] = refl
sum_map g f (x ∷ xs) = sum_by-cons f (g x) (map g xs) ∙ ap (λ n. f (g x) + n) (sum_map g f xs) ∙ sym (sum_by-cons (λ x. f (g x)) x xs)

pub sum_flat : {X Y : Type 0} (g : X → List Y) (f : Y → ℕ) (xs : List X) → sum_by f (flat_map g xs) ≡ sum_by (λ x. sum_by f (g x)) xs
sum_flat g f [] = refl
sum_flat g f (x ∷ xs) = sum_by-append f (g x) (flat_map g xs) ∙ ap (λ n. sum_by f (g x) + n) (sum_flat g f xs) ∙ sym (sum_by-cons (λ x. sum_by f (g x)) x xs)

-- nothing taken leaves all
pub left_none : (cards : List ℕ) → left_by cards [] ≡ cards
left_none [] = refl
left_none (x ∷ cards) = ap (λ l. x ∷ l) (left_none cards)

-- picks are choices
pub picks_listed : (n low : ℕ) (cards : List ℕ) (f : List ℕ → List ℕ → ℕ) → RisingFrom low cards → picks n cards f ≡ sum_by (λ c. f c (left_by cards c)) (choose n cards)
picks_listed zero low cards f r = ap (λ l. f [] l) (sym (left_none cards)) ∙ sym (omega arith)
picks_listed (suc n) low [] f r = refl
picks_listed (suc n) low (x ∷ cards) f r =
    let out : has_card cards x ≡ false = has_card-low (x + 1) cards x r.2 (omega arith) in
    let is : (x == x) ≡ true = grind arith in
    let g : List ℕ → ℕ = λ c. f c (left_by (x ∷ cards) c) in
    let with : sum_by (λ c. f (x ∷ c) (left_by cards c)) (choose n cards) ≡ sum_by (λ c. g (x ∷ c)) (choose n cards) =
    sum_same (choose n cards) _ _ (λ front back c e. ap (λ l. f (x ∷ c) l) (sym (rw is (other_left x cards c out)))) in
    let without : sum_by (λ c. f c (x ∷ left_by cards c)) (choose (suc n) cards) ≡ sum_by g (choose (suc n) cards) =
    sum_same (choose (suc n) cards) _ _ (λ front back c e.
    let free : has_card c x ≡ false = elim (has_card c x) as (λ b. has_card c x ≡ b → b ≡ false) [
      | true ↦ λ t. absurd (true≢false (sym (choose_within (suc n) cards c front back e x t) ∙ out))
      | false ↦ λ t. refl
    ] refl in
    ap (λ l. f c l) (sym (rw free refl))) in
    let a = picks_listed n (x + 1) cards (λ c rest. f (x ∷ c) rest) r.2 in
    let b = picks_listed (suc n) (x + 1) cards (λ c rest. f c (x ∷ rest)) r.2 in
    ap (λ m. m + picks (suc n) cards (λ c rest. f c (x ∷ rest))) (a ∙ with ∙ sym (sum_map (λ rest. x ∷ rest) g (choose n cards)))
    ∙ ap (λ m. sum_by g (map (λ rest. x ∷ rest) (choose n cards)) + m) (b ∙ without)
    ∙ sym (sum_by-append g (map (λ rest. x ∷ rest) (choose n cards)) (choose (suc n) cards))

-- the cards that all sets leave
abbrev pub left_by_all : List ℕ → List (List ℕ) → List ℕ
left_by_all cards [] = cards
left_by_all cards (set ∷ sets) = left_by_all (left_by cards set) sets

-- deals are runouts
pub deals_listed : (counts cards : List ℕ) (f : List (List ℕ) → List ℕ → ℕ) → IsRising cards → deals counts cards f ≡ sum_by (λ sets. f sets (left_by_all cards sets)) (runouts cards counts)
deals_listed [] cards f r = sym (omega arith)
deals_listed (n ∷ counts) cards f r =
    let g : List (List ℕ) → ℕ = λ sets. f sets (left_by_all cards sets) in
    picks_listed n 0 cards (λ c rest. deals counts rest (λ sets left. f (c ∷ sets) left)) r
    ∙ sum_same (choose n cards) _ _ (λ front back c e.
    deals_listed counts (left_by cards c) (λ sets left. f (c ∷ sets) left) (rising_left 0 cards c r)
    ∙ sym (sum_map (λ rest. c ∷ rest) g (runouts (left_by cards c) counts)))
    ∙ sym (sum_flat (λ first. map (λ rest. first ∷ rest) (runouts (left_by cards first) counts)) g (choose n cards))

-- The law of streets over the listings.
pub streets_listed : (parts : List (ℕ × ℕ)) (cards : List ℕ) (f : List (List ℕ) → ℕ) → IsRising cards → ByAllCards (λ sets left. f sets)
    → sum_by (λ now. sum_by (λ later. f (joined now later)) (runouts (left_by_all cards now) (later_of parts))) (runouts cards (now_of parts)) ≡ divided parts * sum_by f (runouts cards (whole_of parts))
streets_listed parts cards f r by =
    sum_same (runouts cards (now_of parts)) _ _ (λ front back now e. sym (deals_listed (later_of parts) (left_by_all cards now) (λ later left. f (joined now later)) (rising_all now cards r)))
    ∙ sym (deals_listed (now_of parts) cards (λ now rest. deals (later_of parts) rest (λ later left. f (joined now later))) r)
    ∙ streets parts cards (λ sets left. f sets) by
    ∙ ap (λ n. divided parts * n) (deals_listed (whole_of parts) cards (λ sets left. f sets) r)
  where
    rising_all : (sets : List (List ℕ)) (cards : List ℕ) → IsRising cards → IsRising (left_by_all cards sets)
    rising_all [] cards r = r
    rising_all (s ∷ sets) cards r = rising_all sets (left_by cards s) (rising_left 0 cards s r)
