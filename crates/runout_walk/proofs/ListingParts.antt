-- The listing of the runouts that go on from some cards, in parts.
use Rattle.std.proofs.Common.{◌≡◌, ℕ, zero, suc, ◌+◌, ◌-◌, ◌*◌, ◌<◌, ◌≤◌, List, [], ◌∷◌, ◌++◌, length, length-append, map, refl, sym, ap, ◌∙◌, arith, subst, append_assoc, append-nil, sum}
use Rattle.std.specs.List.{flat_map}
use Rattle.std.proofs.lemmas.List.{length-map}
use Rattle.std.proofs.lemmas.Grind.{flat_map-append}
use Rattle.std.proofs.lemmas.List.Folds.{flat_map-map}
use Rattle.std.proofs.lemmas.List.Concat.{flat_map_single}
use Rattle.card_sets.specs.Cards.{IsCardSet, IsRising}
use Rattle.card_sets.specs.Choose.{choose}
use Rattle.card_sets.specs.Rising.{IsCardSet-rising}
use Rattle.runout_ranges.specs.Runouts.{runouts, left_by, HasMember}
use Rattle.runout_ranges.specs.Ways.{ways, binomial}
use Rattle.runout_ranges.proofs.CallerLemmas.{length_choose, length_runouts, rising_left, left_length}
use Rattle.runout_walk.specs.Listing.{going_on, IsBranch, IsEndOf}
use Rattle.runout_walk.proofs.ListingMembers.{with_members, without_members}

flat-same : {X A : Type 0} (f g : X → List A) (xs : List X) → ((x : X) → f x ≡ g x) → flat_map f xs ≡ flat_map g xs
flat-same f g [] h = refl
flat-same f g (x ∷ xs) h = ap (λ l. l ++ flat_map f xs) (h x) ∙ ap (λ l. g x ++ l) (flat-same f g xs h)

-- so many for each member
length-flat : {X A : Type 0} (f : X → List A) (xs : List X) (each : ℕ) → ((x : X) → HasMember xs x → length (f x) ≡ each) → length (flat_map f xs) ≡ length xs * each
length-flat f [] each h = omega arith
length-flat f (x ∷ xs) each h =
    let here : length (f x) ≡ each = h x ([], xs, refl) in
    let ih : length (flat_map f xs) ≡ length xs * each = length-flat f xs each (λ y m. h y (x ∷ m.0, m.1, ap (λ l. x ∷ l) m.2)) in
    omega (arith, length-append (f x) (flat_map f xs))

-- with the first card of the rest, and without it
pub going_step : (unseen taken with rest others later : List ℕ) (card left : ℕ) → 0 < left → rest ≡ card ∷ others → with ≡ taken ++ card ∷ []
    → going_on unseen taken rest left later ≡ going_on unseen with others (left - 1) later ++ going_on unseen taken others left later
going_step unseen taken with rest others later card zero some first w = absurd (omega arith)
going_step unseen taken with rest others later card (suc k) some first w =
    let less : suc k - 1 ≡ k = omega arith in
    let f : List ℕ → List (List (List ℕ)) = λ more. map (λ sets. (taken ++ more) ∷ sets) (runouts (left_by unseen (taken ++ more)) later) in
    let g : List ℕ → List (List (List ℕ)) = λ more. map (λ sets. (with ++ more) ∷ sets) (runouts (left_by unseen (with ++ more)) later) in
    ap (λ l. flat_map f (choose (suc k) l)) first
    ∙ flat_map-append f (map (λ more. card ∷ more) (choose k others)) (choose (suc k) others)
    ∙ ap (λ l. l ++ flat_map f (choose (suc k) others)) (flat_map-map f (λ more. card ∷ more) (choose k others)
    ∙ flat-same (λ more. f (card ∷ more)) g (choose k others) (λ more. ap (λ (cards : List ℕ). map (λ sets. cards ∷ sets) (runouts (left_by unseen cards) later)) (sym (ap (λ l. l ++ more) w ∙ append_assoc taken (card ∷ []) more))))
    ∙ ap (λ n. flat_map g (choose n others) ++ flat_map f (choose (suc k) others)) (sym less)

-- a slot that has its cards
pub going_next : (unseen taken rest later : List ℕ) (count : ℕ) → going_on unseen taken rest 0 (count ∷ later) ≡ map (λ sets. taken ∷ sets) (going_on (left_by unseen taken) [] (left_by unseen taken) count later)
going_next unseen taken rest later count =
    append-nil (map (λ sets. (taken ++ []) ∷ sets) (runouts (left_by unseen (taken ++ [])) (count ∷ later)))
    ∙ ap (λ (cards : List ℕ). map (λ sets. cards ∷ sets) (runouts (left_by unseen cards) (count ∷ later))) (append-nil taken)

-- the last slot
pub going_last : (unseen taken rest : List ℕ) (left : ℕ) → going_on unseen taken rest left [] ≡ map (λ more. (taken ++ more) ∷ []) (choose left rest)
going_last unseen taken rest left = flat_map_single (λ more. (taken ++ more) ∷ []) (choose left rest)

-- how long it is
pub length_going : (unseen taken rest later : List ℕ) (left each : ℕ) → IsCardSet unseen → IsBranch unseen taken rest left later each → length (going_on unseen taken rest left later) ≡ binomial (length rest) left * each
length_going unseen taken rest later left each set is =
    length-flat (λ more. map (λ sets. (taken ++ more) ∷ sets) (runouts (left_by unseen (taken ++ more)) later)) (choose left rest) each (λ more m.
    let c = is.chosen more m in
    let r : IsRising unseen = IsCardSet-rising unseen set in
    let l : length (left_by unseen (taken ++ more)) + (length taken + left) ≡ length unseen = left_length 0 (length taken + left) unseen (taken ++ more) c.0 c.1 r c.2 in
    let l' : length (left_by unseen (taken ++ more)) ≡ length unseen - (length taken + left) = omega arith in
    length-map (runouts (left_by unseen (taken ++ more)) later) (λ sets. (taken ++ more) ∷ sets)
    ∙ length_runouts later (left_by unseen (taken ++ more)) (rising_left 0 unseen (taken ++ more) r)
    ∙ ap (λ n. ways n later) l' ∙ sym is.ways_later)
    ∙ ap (λ n. n * each) (length_choose left rest)

end_of : (cards rest others : List ℕ) (card : ℕ) → rest ≡ card ∷ others → IsEndOf rest cards → IsEndOf others cards
end_of cards rest others card first end = (end.0 ++ card ∷ [], end.1 ∙ ap (λ l. end.0 ++ l) first ∙ sym (append_assoc end.0 (card ∷ []) others))

-- the branch with the first card, and that without it
pub branch_with : (unseen taken with rest others later : List ℕ) (card left each : ℕ) → 0 < left → rest ≡ card ∷ others → with ≡ taken ++ card ∷ [] → IsRising (with ++ others)
    → IsBranch unseen taken rest left later each → IsBranch unseen with others (left - 1) later each
branch_with unseen taken with rest others later card left each some first w rises is =
    let l : length with ≡ length taken + 1 = ap length w ∙ length-append taken (card ∷ []) in
    let n : length taken + left ≡ length with + (left - 1) = omega arith in
    let M : List ℕ → Type 0 = λ cards. HasMember (choose (length taken + left) unseen) cards in
    let P : ℕ → Type 0 = λ n. (more : List ℕ) → HasMember (choose (left - 1) others) more → HasMember (choose n unseen) (with ++ more) in
    record {
      above = λ set. rises;
      end = end_of unseen rest others card first is.end;
      chosen = subst P n (with_members M taken with rest others card left some first w is.chosen);
      enough = (let e = is.enough in omega arith);
      ways_later = is.ways_later ∙ ap (λ n. ways (length unseen - n) later) n;
    }

pub branch_without : (unseen taken rest others later : List ℕ) (card left each : ℕ) → 0 < left → rest ≡ card ∷ others → IsRising (taken ++ others)
    → IsBranch unseen taken rest left later each → IsBranch unseen taken others left later each
branch_without unseen taken rest others later card left each some first rises is =
    let M : List ℕ → Type 0 = λ cards. HasMember (choose (length taken + left) unseen) cards in
    record {
      above = λ set. rises;
      end = end_of unseen rest others card first is.end;
      chosen = without_members M taken rest others card left some first is.chosen;
      enough = is.enough;
      ways_later = is.ways_later;
    }

-- the branch of a slot that has no card yet
pub first_branch : (others none later : List ℕ) (count each : ℕ) → none ≡ [] → IsCardSet others → count ≤ length others → sum later ≤ length others - count → each ≡ ways (length others - count) later → IsBranch others none others count later each
first_branch others none later count each is_none set within enough is =
    let P : List ℕ → Type 0 = λ cards. IsBranch others cards others count later each in
    let z : 0 + count ≡ count = omega arith in
    let M : List ℕ → ℕ → Type 0 = λ more n. HasMember (choose n others) more in
    subst P (sym is_none) (record {
      above = λ s. IsCardSet-rising others set;
      end = ([], refl);
      chosen = λ more m. subst (M more) (sym z) m;
      enough = omega arith;
      ways_later = is ∙ ap (λ n. ways (length others - n) later) (sym z);
    })
