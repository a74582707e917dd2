-- Outcomes of all pots, and codes for them.
use Rattle.std.proofs.Common.{◌≡◌, ℕ, zero, suc, ◌+◌, ◌*◌, ◌<◌, List, [], ◌∷◌, length, refl, ap, ◌∙◌, arith, set, Some}
use Rattle.std.specs.Prelude.{replicate, slice_get, slice_index, slice_index_or}
use Rattle.std.proofs.Math.ListN.{length-set}
use Rattle.std.proofs.lemmas.List.{get_or-set_other}
use Rattle.std.proofs.lemmas.Grind.{get_or-set_at}
use Rattle.card_sets.specs.declared.games.Side.{Side}
use Rattle.card_sets.specs.declared.games.Side.TheVariants.{High, Low}
use Rattle.board_runouts.specs.Fields.{end_of, ends_of}
use Rattle.board_runouts.specs.KeptRows.{row_place}
use Rattle.board_runouts.specs.declared.row.Row.{Row}

pub zeros_at : (n place : ℕ) → slice_index (replicate n 0) place ≡ 0
zeros_at zero place = refl
zeros_at (suc n) zero = refl
zeros_at (suc n) (suc place) = zeros_at n place

pub zeros_in : (n m code end : ℕ) → slice_index (slice_index_or (replicate n (replicate m 0)) code []) end ≡ 0
zeros_in zero m code end = refl
zeros_in (suc n) m zero end = zeros_at m end
zeros_in (suc n) m (suc code) end = zeros_in n m code end

-- the two places of a pot are written
pub end_put : (outcome : List ℕ) (pot i j : ℕ) (row : Row) (place : ℕ) (side : Side) → i ≡ 2 * pot → j ≡ 2 * pot + 1 → j < length outcome → end_of pot side (set (set outcome i (slice_index row.mains place)) j (slice_index row.lows place)) ≡ row_place row side place
end_put outcome pot i j row place High e f l =
    get_or-set_other (set outcome i (slice_index row.mains place)) j (2 * pot + 0) (slice_index row.lows place) 0 (λ s. omega arith) ∙ get_or-set_at outcome i (2 * pot + 0) (slice_index row.mains place) 0 (omega arith) (omega arith)
end_put outcome pot i j row place Low e f l =
    let there : j < length (set outcome i (slice_index row.mains place)) = rw length-set l in
    get_or-set_at (set outcome i (slice_index row.mains place)) j (2 * pot + 1) (slice_index row.lows place) 0 (omega arith) there

pub end_kept : (outcome : List ℕ) (pot p i j main low : ℕ) (side : Side) → i ≡ 2 * pot → j ≡ 2 * pot + 1 → p < pot → end_of p side (set (set outcome i main) j low) ≡ end_of p side outcome
end_kept outcome pot p i j main low High e f l = get_or-set_other (set outcome i main) j (2 * p + 0) low 0 (λ s. omega arith) ∙ get_or-set_other outcome i (2 * p + 0) main 0 (λ s. omega arith)
end_kept outcome pot p i j main low Low e f l = get_or-set_other (set outcome i main) j (2 * p + 1) low 0 (λ s. omega arith) ∙ get_or-set_other outcome i (2 * p + 1) main 0 (λ s. omega arith)

pub few_put : (n : ℕ) (xs : List ℕ) (i v : ℕ) → ((k : ℕ) → slice_index xs k < n) → v < n → (k : ℕ) → slice_index (set xs i v) k < n
few_put n [] i v all l k = all k
few_put n (x ∷ xs) zero v all l zero = l
few_put n (x ∷ xs) zero v all l (suc k) = all (suc k)
few_put n (x ∷ xs) (suc i) v all l zero = all zero
few_put n (x ∷ xs) (suc i) v all l (suc k) = few_put n xs i v (λ m. all (suc m)) l k

-- where outcomes are counted
pub ends_index : (pot : ℕ) (side : Side) (ends : List (List ℕ)) (code : ℕ) → slice_index (ends_of pot side ends) code ≡ end_of pot side (slice_index_or ends code [])
unfolding ends_of
ends_index pot side [] code = refl
ends_index pot side (outcome ∷ ends) zero = refl
ends_index pot side (outcome ∷ ends) (suc code) = ends_index pot side ends code

pub ends_get : (pot : ℕ) (side : Side) (ends : List (List ℕ)) (i : ℕ) (outcome : List ℕ) → slice_get ends i ≡ Some outcome → slice_get (ends_of pot side ends) i ≡ Some (end_of pot side outcome)
unfolding ends_of
ends_get pot side [] i outcome e = cc
ends_get pot side (first ∷ ends) zero outcome e = let same : first ≡ outcome = cc in ap (λ o. Some (end_of pot side o)) same
ends_get pot side (first ∷ ends) (suc i) outcome e = ends_get pot side ends i outcome e

pub ends_count : (pot : ℕ) (side : Side) (ends : List (List ℕ)) → length (ends_of pot side ends) ≡ length ends
unfolding ends_of
ends_count pot side [] = refl
ends_count pot side (outcome ∷ ends) = ap suc (ends_count pot side ends)
