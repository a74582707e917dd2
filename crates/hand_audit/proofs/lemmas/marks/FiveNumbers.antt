-- The numbers of fives tell which are of best value, and so which card is the mark.
use Rattle.std.proofs.Common.{◌≡◌, ℕ, ◌^◌, ◌-◌, ◌≤◌, List, [], ◌∷◌, refl, sym, ap, ◌∙◌, true, not, ◌==◌, ◌&&◌, arith, length}
use Rattle.std.specs.Prelude.{nat_le, nat_lt, filter, map, max, if◌then◌else◌}
use Rattle.std.specs.List.{list_all}
use Rattle.std.specs.Ordering.{is_gt, is_lt}
use Rattle.card_sets.specs.Cards.{IsCardSet}
use Rattle.card_sets.specs.declared.games.Side.{Side}
use Rattle.card_sets.specs.declared.games.Side.TheVariants.{High, Low}
use Rattle.rank_high.specs.High.{high, value_of}
use Rattle.rank_low.specs.Low.{low_a5, ace_number}
use Rattle.rank_high.proofs.CallerLemmas.{value_of-order, high-IsHighList}
use Rattle.rank_low.proofs.CallerLemmas.{IsAceList, ace-order, low_a5-IsAceList, set-FewOfEach, ace_number-lt}
use Rattle.hand_choice.specs.AllowedFives.{AreFives}
use Rattle.showdown_tally.proofs.CallerLemmas.{greater_is, less_is}
use Rattle.showdown_tally.specs.Showdown.{beats}
use Rattle.showdown_tally.specs.Numbers.{turned}
use Rattle.hand_audit.specs.Marks.{worth_of_five, best_fives, highest, top_card, mark_among}
use Rattle.hand_audit.specs.MarkNumbers.{number_of_five, top_number}

-- one five beats another where its number is the greater
beats_by_number : (side : Side) (a b : List ℕ) → IsCardSet a → length a ≡ 5 → IsCardSet b → length b ≡ 5 → beats side (worth_of_five side a) (worth_of_five side b) ≡ nat_lt (number_of_five side b) (number_of_five side a)
unfolding number_of_five
beats_by_number High a b sa la sb lb =
    ap is_gt (sym (value_of-order (high a) (high b) (high-IsHighList a (omega (arith, la))) (high-IsHighList b (omega (arith, lb))))) ∙ greater_is (value_of (high a)) (value_of (high b))
beats_by_number Low a b sa la sb lb =
    let pa : IsAceList (low_a5 a) = low_a5-IsAceList a la (set-FewOfEach a sa) in
    let pb : IsAceList (low_a5 b) = low_a5-IsAceList b lb (set-FewOfEach b sb) in
    ap is_lt (sym (ace-order (low_a5 a) (low_a5 b) pa pb)) ∙ less_is (ace_number (low_a5 a)) (ace_number (low_a5 b)) (omega (arith, ace_number-lt (low_a5 a) pa)) (omega (arith, ace_number-lt (low_a5 b) pb))

-- a five that no other of some fives beats has at least their greatest number
not_below : (m n : ℕ) → not (nat_lt m n) ≡ nat_le n m
not_below m n = grind arith

at_most : (m n k : ℕ) → (nat_le n m && nat_le k m) ≡ nat_le (max n k) m
at_most m n k = grind arith

unbeaten_by : (side : Side) (five : List ℕ) (fives : List (List ℕ)) → IsCardSet five → length five ≡ 5 → AreFives fives
    → list_all (λ other. not (beats side (worth_of_five side other) (worth_of_five side five))) fives ≡ nat_le (top_number side fives) (number_of_five side five)
unbeaten_by side five [] set size are = let z : nat_le 0 (number_of_five side five) ≡ true = grind arith in sym z
unbeaten_by side five (other ∷ fives) set size are =
    let here : not (beats side (worth_of_five side other) (worth_of_five side five)) ≡ nat_le (number_of_five side other) (number_of_five side five)
    = ap not (beats_by_number side other five are.0 are.1 set size) ∙ not_below (number_of_five side five) (number_of_five side other) in
    let rest = unbeaten_by side five fives set size are.2 in
    ap (λ b. b && list_all (λ o. not (beats side (worth_of_five side o) (worth_of_five side five))) fives) here
    ∙ ap (λ b. nat_le (number_of_five side other) (number_of_five side five) && b) rest
    ∙ at_most (number_of_five side five) (number_of_five side other) (top_number side fives)

-- of those whose numbers are at most one, it has just that
meets : (top n : ℕ) → n ≤ top → nat_le top n ≡ (n == top)
meets top n l = grind arith

pub best_below : (side : Side) (all fives : List (List ℕ)) → AreFives all → AreFives fives → top_number side fives ≤ top_number side all
    → filter (λ five. list_all (λ other. not (beats side (worth_of_five side other) (worth_of_five side five))) all) fives ≡ filter (λ five. number_of_five side five == top_number side all) fives
best_below side all [] a f l = refl
best_below side all (five ∷ fives) a f l =
    let few : number_of_five side five ≤ top_number side all = omega (arith, l) in
    let test : list_all (λ other. not (beats side (worth_of_five side other) (worth_of_five side five))) all ≡ (number_of_five side five == top_number side all)
    = unbeaten_by side five all f.0 f.1 a ∙ meets (top_number side all) (number_of_five side five) few in
    let rest = best_below side all fives a f.2 (omega (arith, l)) in
    ap (λ b. if b then five ∷ filter (λ x. list_all (λ other. not (beats side (worth_of_five side other) (worth_of_five side x))) all) fives else filter (λ x. list_all (λ other. not (beats side (worth_of_five side other) (worth_of_five side x))) all) fives) test
    ∙ ap (λ xs. if number_of_five side five == top_number side all then five ∷ xs else xs) rest

pub mark_is : (side : Side) (fives : List (List ℕ)) → AreFives fives → highest (map (top_card side) (filter (λ five. number_of_five side five == top_number side fives) fives)) ≡ mark_among side fives
unfolding mark_among best_fives
mark_is side fives are = ap (λ xs. highest (map (top_card side) xs)) (sym (best_below side fives fives are are (omega arith)))

pub number_high : (five : List ℕ) (n : ℕ) → n ≡ value_of (high five) → n ≡ number_of_five High five
unfolding number_of_five
number_high five n is = is

pub number_low : (five : List ℕ) (n : ℕ) → n ≡ ace_number (low_a5 five) → 2 ^ 32 - 1 - n ≡ number_of_five Low five
unfolding number_of_five
number_low five n is = ap turned is
