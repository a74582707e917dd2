-- For loops over all runouts: a walk over a list by its next member, and the number of sets of a runout.
use Rattle.std.proofs.Common.{◌≡◌, ℕ, List, [], ◌∷◌, ◌++◌, map, suc, ap, sym, ◌∙◌, append_assoc, length, subst, refl}
use Rattle.std.specs.List.{flat_map}
use Rattle.card_sets.specs.Choose.{choose}
use Rattle.runout_ranges.specs.Runouts.{runouts, left_by, HasMember, Begins, Follows, Ends}

-- the first member is a member
pub HasMember-first : {X : Type 0} (list : List X) (x : X) → Begins list x → HasMember list x
HasMember-first list x b = ([], b.0, b.1)

-- what follows a member is a member
pub HasMember-next : {X : Type 0} (list : List X) (at next : X) → HasMember list at → Follows list at next → HasMember list next
HasMember-next list at next m f =
    let r = f m.0 m.1 m.2 in
    (m.0 ++ at ∷ [], r.0, m.2 ∙ ap (λ l. m.0 ++ at ∷ l) r.1 ∙ sym (append_assoc m.0 (at ∷ []) (next ∷ r.0)))

-- a step of a walk: the current member is done, and the next one is current
pub walk_more : {X : Type 0} (list done todo : List X) (at next : X) → list ≡ done ++ at ∷ todo → Follows list at next → (rest : List X) × (list ≡ (done ++ at ∷ []) ++ next ∷ rest)
walk_more list done todo at next e f =
    let r = f done todo e in
    (r.0, e ∙ ap (λ l. done ++ at ∷ l) r.1 ∙ sym (append_assoc done (at ∷ []) (next ∷ r.0)))

-- the end of a walk: the members done and the current one are all
pub walk_all : {X : Type 0} (list done todo : List X) (at : X) → list ≡ done ++ at ∷ todo → Ends list at → list ≡ done ++ at ∷ []
walk_all list done todo at e f = e ∙ ap (λ l. done ++ at ∷ l) (f done todo e)

-- no runout of a block is empty
block_has : (f : List ℕ) (rs : List (List (List ℕ))) (more front back : List (List (List ℕ))) (sets : List (List ℕ)) (P : List (List ℕ) → Type 0)
    → ((r : List (List ℕ)) → HasMember rs r → P (f ∷ r)) → ((d : List (List (List ℕ))) → more ≡ d ++ sets ∷ back → P sets)
    → map (λ rest. f ∷ rest) rs ++ more ≡ front ++ sets ∷ back → P sets
block_has f [] more front back sets P here later e = later front e
block_has f (r ∷ rs) more [] back sets P here later e =
    let first : f ∷ r ≡ sets = cc in
    subst P first (here r ([], rs, refl))
block_has f (r ∷ rs) more (x ∷ front) back sets P here later e =
    let inner : map (λ rest. f ∷ rest) rs ++ more ≡ front ++ sets ∷ back = cc in
    block_has f rs more front back sets P (λ s m. here s (r ∷ m.0, m.1, ap (λ l. r ∷ l) m.2)) later inner

blocks_have : (g : List ℕ → List (List (List ℕ))) (firsts : List (List ℕ)) (front back : List (List (List ℕ))) (sets : List (List ℕ)) (P : List (List ℕ) → Type 0)
    → ((f : List ℕ) (r : List (List ℕ)) → HasMember (g f) r → P (f ∷ r)) → flat_map (λ f. map (λ rest. f ∷ rest) (g f)) firsts ≡ front ++ sets ∷ back → P sets
blocks_have g [] [] back sets P all e = cc
blocks_have g [] (x ∷ front) back sets P all e = cc
blocks_have g (f ∷ firsts) front back sets P all e =
    block_has f (g f) (flat_map (λ f. map (λ rest. f ∷ rest) (g f)) firsts) front back sets P (all f) (λ d later. blocks_have g firsts d back sets P all later) e

-- a runout has one set for each slot
pub length-runout : (counts unseen : List ℕ) (sets : List (List ℕ)) → HasMember (runouts unseen counts) sets → length sets ≡ length counts
length-runout [] unseen sets m = one sets m.0 m.1 m.2
  where
    one : (sets : List (List ℕ)) (front back : List (List (List ℕ))) → [] ∷ [] ≡ front ++ sets ∷ back → length sets ≡ 0
    one sets [] back e = let same : sets ≡ [] = cc in ap length same
    one sets (x ∷ []) back e = cc
    one sets (x ∷ y ∷ front) back e = cc
length-runout (n ∷ counts) unseen sets m =
    blocks_have (λ first. runouts (left_by unseen first) counts) (choose n unseen) m.0 m.1 sets (λ s. length s ≡ suc (length counts)) (λ f r h. ap suc (length-runout counts (left_by unseen f) r h)) m.2
