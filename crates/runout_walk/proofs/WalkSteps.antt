-- The steps of a walk: a card is dealt, or left out, or the next slot is filled, or the last cards come.
use Rattle.std.proofs.Common.{◌≡◌, ℕ, zero, suc, ◌+◌, ◌-◌, ◌*◌, ◌<◌, ◌≤◌, ◌^◌, ◌==◌, Bool, true, false, List, [], ◌∷◌, ◌++◌, length, length-append, map, take, drop, set, refl, sym, ap, ◌∙◌, arith, subst, append_assoc, append-nil, sum, get_or, ◌&&◌, not, inl, inr, Option, Some}
use Rattle.std.specs.Prelude.{slice_get}
use Rattle.std.specs.List.{slice_range}
use Rattle.std.proofs.lemmas.List.{length-map, length-take, map-append}
use Rattle.std.proofs.lemmas.Bool.{cases_eq}
use mathlib.Core.Bool.{true≢false}
use Rattle.card_sets.specs.Cards.{IsCardSet, IsRising, has_card, minus, with_card, without_card}
use Rattle.card_sets.specs.Bits.{IsCardSet-cards_where}
use Rattle.card_sets.specs.Choose.{choose}
use Rattle.card_sets.specs.Rising.{IsCardSet-rising}
use Rattle.runout_ranges.specs.Runouts.{runouts, left_by, HasMember}
use Rattle.runout_ranges.specs.Shapes.{IsShapeOf, slots_of}
use Rattle.runout_ranges.specs.Slots.{slots, unseen, counts_of}
use Rattle.runout_ranges.specs.Ways.{ways, binomial}
use Rattle.runout_ranges.specs.declared.shapes.Receiver.TheVariants.{Board}
use Rattle.runout_ranges.specs.declared.shapes.Shape.{Shape}
use Rattle.runout_ranges.specs.declared.shapes.Slot.{Slot}
use Rattle.card_sets.proofs.CallerLemmas.{first_taken}
use Rattle.runout_ranges.proofs.CallerLemmas.{minus_left, first_part, left_length, at_first, enough_for, length_runouts}
use Rattle.showdown_tally.specs.Showdown.{Showdown}
use Rattle.showdown_tally.specs.SideCounts.{CountsGrow}
use Rattle.showdown_tally.specs.Tallies.{runouts_after}
use Rattle.runout_walk.specs.Branches.{IsAt}
use Rattle.runout_walk.specs.Listing.{going_on, IsBranch, IsEndOf, last_count, left_after}
use Rattle.runout_walk.proofs.ListingMembers.{member-map, member-left, member-right}
use Rattle.runout_walk.proofs.ListingRanges.{map-map, map-same, map-itself, range_both, range_first, range_mapped, range_second}
use Rattle.runout_walk.proofs.GrowingCounts.{grow_more}
use Rattle.runout_walk.proofs.ListingParts.{going_step, going_next, going_last, length_going, branch_with, branch_without, first_branch}

pub positive : (n : ℕ) → (n ≡ 0 → ⊥) → 0 < n
positive zero h = absurd (h refl)
positive (suc n) h = omega arith

first_positive : (a b : ℕ) → 0 < a * b → 0 < a
first_positive zero b h = absurd (omega arith)
first_positive (suc a) b h = omega arith

-- whether the last cards come next
pub not_last : (n left depth deep : ℕ) (last : Bool) → last ≡ ((n == 0) && (left == deep)) → last ≡ false → deep ≡ depth → n ≡ 0 → left ≡ depth → ⊥
not_last n left depth deep last is isnt at none same =
    let t : (n == 0) ≡ true = grind arith in
    let u : (left == deep) ≡ true = grind arith in
    true≢false (sym (is ∙ rw (t, u) refl) ∙ isnt)

pub yes_last : (n left deep : ℕ) (last : Bool) → last ≡ ((n == 0) && (left == deep)) → last ≡ true → (n ≡ 0) × (left ≡ deep)
yes_last n left deep last is holds = elim (cases_eq n 0) [
  | inl e ↦ elim (cases_eq left deep) [
    | inl f ↦ (e, f)
    | inr ne ↦ let t : (n == 0) ≡ true = grind arith in let u : (left == deep) ≡ false = grind arith in absurd (true≢false (sym holds ∙ is ∙ rw (t, u) refl))
  ]
  | inr ne ↦ let t : (n == 0) ≡ false = grind arith in absurd (true≢false (sym holds ∙ is ∙ rw t refl))
]

-- the last slot of those from one on
last_less : (left depth : ℕ) (later : List Slot) → 0 < left → (length later ≡ 0 → left ≡ depth → ⊥) → depth ≤ last_count (record { receiver = Board; count = left } ∷ later) → depth ≤ last_count (record { receiver = Board; count = left - 1 } ∷ later)
last_less left depth [] some more deep = elim (cases_eq left depth) [
  | inl e ↦ absurd (more refl e)
  | inr ne ↦ let d : depth ≤ left = deep in let g : depth ≤ left - 1 = omega arith in g
]
last_less left depth (s ∷ later) some more deep = deep

-- what is known where a card is dealt, or left out
pub record IsStep (deal : Showdown) (depth : ℕ) (front : List (List ℕ)) (cards taken with rest others : List ℕ) (left : ℕ) (later : List Slot) (each weight : ℕ) : Type 0 where
  pub parts : going_on cards taken rest left (counts_of later) ≡ going_on cards with others (left - 1) (counts_of later) ++ going_on cards taken others left (counts_of later)
  pub weighed : weight ≡ length (going_on cards with others (left - 1) (counts_of later))
  pub has : IsAt deal depth front cards with others (left - 1) later each
  pub hasnt : IsAt deal depth front cards taken others left later each
  pub shorter : length rest ≡ suc (length others)
  pub whole : length (going_on cards taken rest left (counts_of later)) ≡ length (going_on cards with others (left - 1) (counts_of later)) + length (going_on cards taken others left (counts_of later))

one_step : (deal : Showdown) (depth : ℕ) (front : List (List ℕ)) (cards taken with rest others : List ℕ) (left : ℕ) (later : List Slot) (each weight card : ℕ) → IsCardSet cards → (left ≡ 0 → ⊥) → (length later ≡ 0 → left ≡ depth → ⊥)
    → rest ≡ card ∷ others → with ≡ taken ++ card ∷ [] → IsRising (with ++ others) → IsRising (taken ++ others)
    → IsAt deal depth front cards taken rest left later each → weight ≡ binomial (length others) (left - 1) * each → IsStep deal depth front cards taken with rest others left later each weight
one_step deal depth front cards taken with rest others left later each weight card set some more first w up down at weighed =
    let pos : 0 < left = positive left some in
    let has = branch_with cards taken with rest others (counts_of later) card left each pos first w up at.branch in
    let parts = going_step cards taken with rest others (counts_of later) card left pos first w in
    let all = going_on cards taken rest left (counts_of later) in
    let A = going_on cards with others (left - 1) (counts_of later) in
    let B = going_on cards taken others left (counts_of later) in
    let whole : length all ≡ length A + length B = ap length parts ∙ length-append A B in
    let few = at.few in
    record {
      parts = parts;
      weighed = weighed ∙ sym (length_going cards with others (counts_of later) (left - 1) each set has);
      has = record {
        place = at.place;
        kept = at.kept;
        branch = has;
        members = λ more m. at.members more (member-left all A B more parts m);
        deep = last_less left depth later pos more at.deep;
        few = omega arith;
      };
      hasnt = record {
        place = at.place;
        kept = at.kept;
        branch = branch_without cards taken rest others (counts_of later) card left each pos first down at.branch;
        members = λ more m. at.members more (member-right all A B more parts m);
        deep = at.deep;
        few = omega arith;
      };
      shorter = ap length first;
      whole = whole;
    }

-- the same by what the code has: the first card of the rest, what is left without it, and what is taken with it
pub step_at : (deal : Showdown) (depth : ℕ) (front : List (List ℕ)) (cards taken with rest others : List ℕ) (left : ℕ) (later : List Slot) (each weight size card : ℕ) (found : Option ℕ) → IsCardSet cards → (left ≡ 0 → ⊥) → (length later ≡ 0 → left ≡ depth → ⊥)
    → IsAt deal depth front cards taken rest left later each → IsCardSet rest → found ≡ slice_get rest 0 → found ≡ Some card → with ≡ with_card taken card → others ≡ without_card rest card → size ≡ length others → weight ≡ binomial size (left - 1) * each
    → IsStep deal depth front cards taken with rest others left later each weight
step_at deal depth front cards taken with rest others left later each weight size card found set some more at rest_set is_found is with_is others_is size_is weighed =
    let f = first_taken taken rest card (at.branch.above rest_set) rest_set (sym is_found ∙ is) in
    let first : rest ≡ card ∷ others = f.first ∙ ap (λ l. card ∷ l) (sym others_is) in
    let up : IsRising (with ++ others) = rw (with_is, others_is) f.above in
    let down : IsRising (taken ++ others) = rw others_is f.left_out in
    one_step deal depth front cards taken with rest others left later each weight card set some more first (with_is ∙ f.more) up down at (weighed ∙ ap (λ n. binomial n (left - 1) * each) size_is)

-- a branch that isn't empty has cards enough
pub enough_cards : (cards taken rest later : List ℕ) (left each lo hi : ℕ) → IsCardSet cards → IsBranch cards taken rest left later each → lo < hi → hi ≤ length (going_on cards taken rest left later) → left ≤ length rest
enough_cards cards taken rest later left each lo hi set is l h =
    let size = length_going cards taken rest later left each set is in
    let some : 0 < binomial (length rest) left * each = omega arith in
    enough_for (length rest) left 0 (first_positive (binomial (length rest) left) each some)

-- so many runouts that have the first card are few
pub few_with : (deal : Showdown) (depth : ℕ) (front : List (List ℕ)) (cards taken rest others : List ℕ) (left : ℕ) (later : List Slot) (each size card : ℕ) (found : Option ℕ) → IsCardSet cards → (left ≡ 0 → ⊥) → IsAt deal depth front cards taken rest left later each
    → IsCardSet rest → found ≡ slice_get rest 0 → found ≡ Some card → others ≡ without_card rest card → size ≡ length others → binomial size (left - 1) * each < 2 ^ 64
few_with deal depth front cards taken rest others left later each size card found set some at rest_set is_found is others_is size_is =
    let pos : 0 < left = positive left some in
    let f = first_taken taken rest card (at.branch.above rest_set) rest_set (sym is_found ∙ is) in
    let first : rest ≡ card ∷ others = f.first ∙ ap (λ l. card ∷ l) (sym others_is) in
    let with = with_card taken card in
    let up : IsRising (with ++ others) = rw others_is f.above in
    let A = going_on cards with others (left - 1) (counts_of later) in
    let B = going_on cards taken others left (counts_of later) in
    let whole : length (going_on cards taken rest left (counts_of later)) ≡ length A + length B = ap length (going_step cards taken with rest others (counts_of later) card left pos first f.more) ∙ length-append A B in
    let size = length_going cards with others (counts_of later) (left - 1) each set (branch_with cards taken with rest others (counts_of later) card left each pos first f.more up at.branch) in
    let few = at.few in
    let all : binomial (length others) (left - 1) * each < 2 ^ 64 = omega arith in
    let P : ℕ → Type 0 = λ n. binomial n (left - 1) * each < 2 ^ 64 in
    subst P (sym size_is) all

-- the rest is its first card and the others
pub longer_rest : (taken rest others : List ℕ) (card : ℕ) (found : Option ℕ) → (IsCardSet rest → IsRising (taken ++ rest)) → IsCardSet rest → found ≡ slice_get rest 0 → found ≡ Some card → others ≡ without_card rest card → length rest ≡ suc (length others)
longer_rest taken rest others card found above rest_set is_found is others_is = let f = first_taken taken rest card (above rest_set) rest_set (sym is_found ∙ is) in ap length (f.first ∙ ap (λ l. card ∷ l) (sym others_is))

-- how the counts grow over a range of two parts
pub grown_with : (deal : Showdown) (front : List (List ℕ)) (all a b : List (List (List ℕ))) (lo hi : ℕ) (old new : List (List ℕ)) → all ≡ a ++ b → hi ≤ length a
    → CountsGrow deal (map (λ more. front ++ more) (slice_range a lo hi)) old new → CountsGrow deal (map (λ more. front ++ more) (slice_range all lo hi)) old new
grown_with deal front all a b lo hi old new e h grown =
    let P : List (List (List ℕ)) → Type 0 = λ l. CountsGrow deal (map (λ more. front ++ more) l) old new in
    subst P (range_first all a b lo hi e h) grown

pub grown_without : (deal : Showdown) (front : List (List ℕ)) (all a b : List (List (List ℕ))) (lo hi w : ℕ) (old new : List (List ℕ)) → all ≡ a ++ b → w ≡ length a → w ≤ lo
    → CountsGrow deal (map (λ more. front ++ more) (slice_range b (lo - w) (hi - w))) old new → CountsGrow deal (map (λ more. front ++ more) (slice_range all lo hi)) old new
grown_without deal front all a b lo hi w old new e is h grown =
    let P : List (List (List ℕ)) → Type 0 = λ l. CountsGrow deal (map (λ more. front ++ more) l) old new in
    let same : slice_range b (lo - w) (hi - w) ≡ slice_range all lo hi = ap (λ n. slice_range b (lo - n) (hi - n)) is ∙ range_second all a b lo hi e (omega arith) in
    subst P same grown

pub grown_both : (deal : Showdown) (front : List (List ℕ)) (all a b : List (List (List ℕ))) (lo hi w : ℕ) (old mid new : List (List ℕ)) → all ≡ a ++ b → w ≡ length a → lo ≤ w → w ≤ hi
    → CountsGrow deal (map (λ more. front ++ more) (slice_range a lo w)) old mid → CountsGrow deal (map (λ more. front ++ more) (slice_range b 0 (hi - w))) mid new
    → CountsGrow deal (map (λ more. front ++ more) (slice_range all lo hi)) old new
grown_both deal front all a b lo hi w old mid new e is h k one two =
    let f : List (List ℕ) → List (List ℕ) = λ more. front ++ more in
    let P : List (List (List ℕ)) → Type 0 = λ l. CountsGrow deal l old new in
    let both : slice_range a lo w ++ slice_range b 0 (hi - w) ≡ slice_range all lo hi = ap (λ n. slice_range a lo n ++ slice_range b 0 (hi - n)) is ∙ range_both all a b lo hi e (omega arith) (omega arith) in
    subst P (sym (map-append f (slice_range a lo w) (slice_range b 0 (hi - w))) ∙ ap (map f) both) (grow_more deal (map f (slice_range a lo w)) (map f (slice_range b 0 (hi - w))) old mid new one two)

-- the sets of the slots before the next one
left_more : (cards set : List ℕ) (front : List (List ℕ)) → left_after cards (front ++ set ∷ []) ≡ left_by (left_after cards front) set
left_more cards set [] = refl
left_more cards set (x ∷ front) = left_more (left_by cards x) set front

pub take_set : {X : Type 0} (n : ℕ) (xs : List X) (x : X) → n < length xs → take (n + 1) (set xs n x) ≡ take n xs ++ x ∷ []
take_set n [] x h = absurd (omega arith)
take_set zero (y ∷ xs) x h = refl
take_set (suc n) (y ∷ xs) x h = let e : suc n + 1 ≡ suc (n + 1) = omega arith in rw e (ap (λ l. y ∷ l) (take_set n xs x (omega arith)))

take-take : {X : Type 0} (n : ℕ) (xs : List X) → take n (take (suc n) xs) ≡ take n xs
take-take zero xs = refl
take-take (suc n) [] = refl
take-take (suc n) (x ∷ xs) = ap (λ l. x ∷ l) (take-take n xs)

take-front : {X : Type 0} (n : ℕ) (xs : List X) (x : X) → n < length xs → take n (take n xs ++ x ∷ []) ≡ take n xs
take-front zero xs x h = refl
take-front (suc n) [] x h = absurd (omega arith)
take-front (suc n) (y ∷ xs) x h = ap (λ l. y ∷ l) (take-front n xs x (omega arith))

-- the sets before a slot stay where those up to it did
pub front_again : {X : Type 0} (slot : ℕ) (old after : List X) (x : X) → slot < length old → take (slot + 1) after ≡ take (slot + 1) (set old slot x) → take slot after ≡ take slot old
front_again slot old after x h same =
    let s : suc slot ≡ slot + 1 = omega arith in
    let same' : take (suc slot) after ≡ take slot old ++ x ∷ [] = ap (λ n. take n after) s ∙ same ∙ take_set slot old x h in
    sym (take-take slot after) ∙ ap (take slot) same' ∙ take-front slot old x h

pub last_length : {X : Type 0} (xs : List X) → 0 < length xs → length (take (length xs - 1) (drop 1 xs)) + 1 ≡ length xs
last_length [] some = absurd (omega arith)
last_length (x ∷ xs) some = omega (arith, length-take (suc (length xs) - 1) xs)

last_same : (s : Slot) (later : List Slot) (count : ℕ) → count ≡ s.count → last_count (s ∷ later) ≡ last_count (record { receiver = Board; count = count } ∷ later)
last_same s [] count e = sym e
last_same s (t ∷ later) count e = refl

-- what is known where the next slot is filled
pub record IsNext (deal : Showdown) (depth : ℕ) (front : List (List ℕ)) (cards taken rest others : List ℕ) (slots last : List Slot) (left count : ℕ) : Type 0 where
  pub within : count ≤ length others
  pub enough : sum (counts_of last) ≤ length others - count
  pub fewer : ways (length others - count) (counts_of last) < 2 ^ 64
  pub parts : going_on cards taken rest left (counts_of slots) ≡ map (λ sets. taken ∷ sets) (going_on others [] others count (counts_of last))
  pub same : length (going_on cards taken rest left (counts_of slots)) ≡ length (going_on others [] others count (counts_of last))
  pub at : (none : List ℕ) (filled : ℕ) → none ≡ [] → filled ≡ ways (length others - count) (counts_of last) → IsAt deal depth (front ++ taken ∷ []) others none others count last filled

next_set : (cards taken others : List ℕ) → others ≡ minus cards taken → IsCardSet others
next_set cards taken others is = let P : List ℕ → Type 0 = λ cards. IsCardSet cards in subst P (sym is) (IsCardSet-cards_where (λ k. has_card cards k && not (has_card taken k)))

-- no more ways to fill the later slots than runouts
few_each : (cards taken rest later : List ℕ) (left each : ℕ) → IsCardSet cards → left ≡ 0 → IsBranch cards taken rest left later each → each ≡ length (going_on cards taken rest left later)
few_each cards taken rest later zero each set none is = let l = length_going cards taken rest later 0 each set is in omega arith
few_each cards taken rest later (suc left) each set none is = absurd (omega arith)

pub next_slot : (deal : Showdown) (depth : ℕ) (front : List (List ℕ)) (cards taken rest others : List ℕ) (slots : List Slot) (d : Slot) (left count each : ℕ) → IsCardSet cards → left ≡ 0 → 0 < length slots → count ≡ (get_or slots 0 d).count → others ≡ minus cards taken
    → IsAt deal depth front cards taken rest left slots each → IsNext deal depth front cards taken rest others slots (take (length slots - 1) (drop 1 slots)) left count
next_slot deal depth front cards taken rest others slots d left count each set zero_left some is_count is_others at =
    let is = at.branch in
    let last = take (length slots - 1) (drop 1 slots) in
    let whole : others ≡ left_by cards taken = is_others ∙ minus_left cards taken set in
    let M : ℕ → Type 0 = λ n. HasMember (choose n rest) [] in
    let none : HasMember (choose 0 rest) [] = ([], [], refl) in
    let c = is.chosen [] (subst M (sym zero_left) none) in
    let l : length (left_by cards (taken ++ [])) + (length taken + left) ≡ length cards = left_length 0 (length taken + left) cards (taken ++ []) c.0 c.1 (IsCardSet-rising cards set) c.2 in
    let l' : length (left_by cards taken) + (length taken + left) ≡ length cards = ap (λ set. length (left_by cards set) + (length taken + left)) (sym (append-nil taken)) ∙ l in
    let o : length others ≡ length (left_by cards taken) = ap length whole in
    let sums : sum (counts_of slots) ≤ length others = (let e = is.enough in omega arith) in
    let f = at_first slots d (length others) count some is_count sums in
    let same : length cards - (length taken + left) ≡ length others = omega arith in
    let first : slots ≡ get_or slots 0 d ∷ last = first_part slots d some in
    let counts : counts_of slots ≡ count ∷ counts_of last = ap counts_of first ∙ ap (λ n. n ∷ counts_of last) (sym is_count) in
    let parts : going_on cards taken rest left (counts_of slots) ≡ map (λ sets. taken ∷ sets) (going_on others [] others count (counts_of last)) =
    ap (λ l. going_on cards taken rest left l) counts ∙ ap (λ n. going_on cards taken rest n (count ∷ counts_of last)) zero_left ∙ going_next cards taken rest (counts_of last) count
    ∙ ap (λ set. map (λ sets. taken ∷ sets) (going_on set [] set count (counts_of last))) (sym whole) in
    let here = going_on others [] others count (counts_of last) in
    let size : length (going_on cards taken rest left (counts_of slots)) ≡ length here = ap length parts ∙ length-map here (λ sets. taken ∷ sets) in
    let each_is = few_each cards taken rest (counts_of slots) left each set zero_left is in
    let most : ways (length others - count) (counts_of last) ≤ ways (length others) (counts_of slots) = f.fewer in
    let ways_is : each ≡ ways (length others) (counts_of slots) = is.ways_later ∙ ap (λ n. ways n (counts_of slots)) same in
    let few = at.few in
    let place = at.place in
    let deep : last_count (record { receiver = Board; count = left } ∷ slots) ≡ last_count (record { receiver = Board; count = count } ∷ last) =
    ap (λ l. last_count (record { receiver = Board; count = left } ∷ l)) first ∙ last_same (get_or slots 0 d) last count is_count in
    let P : List (List (List ℕ)) → List (List ℕ) → Type 0 = λ l sets. HasMember l sets in
    record {
      within = f.within;
      enough = f.enough;
      fewer = omega arith;
      parts = parts;
      same = size;
      at = λ empty filled is_none is_filled.
          let same_here : going_on others empty others count (counts_of last) ≡ here = ap (λ e. going_on others e others count (counts_of last)) is_none in
          record {
            place = (let n = last_length slots some in let a = length-append front (taken ∷ []) in omega arith);
            kept = left_more (unseen deal.state) taken front ∙ ap (λ l. left_by l taken) at.kept ∙ sym whole;
            branch = first_branch others empty (counts_of last) count filled is_none (next_set cards taken others is_others) f.within f.enough is_filled;
            members = λ more m.
                let m' : HasMember here more = (let Q : List (List (List ℕ)) → Type 0 = λ l. HasMember l more in subst Q same_here m) in
                let Q : List (List (List ℕ)) → Type 0 = λ l. HasMember l (taken ∷ more) in
                let R : List (List ℕ) → Type 0 = λ sets. HasMember (runouts_after deal.state) sets in
                subst R (sym (append_assoc front (taken ∷ []) more)) (at.members (taken ∷ more) (subst Q (sym parts) (member-map (λ sets. taken ∷ sets) here more m')));
            deep = (let d = at.deep in omega arith);
            few = (let n = ap length same_here in omega arith);
          };
    }

-- how the counts grow where the next slot is filled
pub grown_next : (deal : Showdown) (front front' : List (List ℕ)) (taken : List ℕ) (all here : List (List (List ℕ))) (lo hi : ℕ) (old new : List (List ℕ)) → front' ≡ front ++ taken ∷ [] → all ≡ map (λ sets. taken ∷ sets) here
    → CountsGrow deal (map (λ more. front' ++ more) (slice_range here lo hi)) old new → CountsGrow deal (map (λ more. front ++ more) (slice_range all lo hi)) old new
grown_next deal front front' taken all here lo hi old new f e grown =
    let P : List (List (List ℕ)) → Type 0 = λ l. CountsGrow deal l old new in
    let range = slice_range here lo hi in
    let same : map (λ more. front' ++ more) range ≡ map (λ more. front ++ more) (slice_range all lo hi) =
    ap (λ (sets : List (List ℕ)). map (λ more. sets ++ more) range) f
    ∙ map-same (λ more. (front ++ taken ∷ []) ++ more) (λ more. front ++ taken ∷ more) range (λ more. append_assoc front (taken ∷ []) more)
    ∙ sym (map-map (λ more. front ++ more) (λ sets. taken ∷ sets) range)
    ∙ ap (map (λ more. front ++ more)) (sym (range_mapped (λ sets. taken ∷ sets) all here lo hi e)) in
    subst P same grown

-- what is known where the last cards come
pub record IsLast (deal : Showdown) (front : List (List ℕ)) (cards taken rest : List ℕ) (left : ℕ) (later : List Slot) : Type 0 where
  pub place : suc (length front) ≡ length (slots deal.state)
  pub end : IsEndOf rest (left_after (unseen deal.state) front)
  pub members : (more : List ℕ) → HasMember (choose left rest) more → HasMember (runouts_after deal.state) (front ++ (taken ++ more) ∷ [])
  pub same : length (going_on cards taken rest left (counts_of later)) ≡ length (choose left rest)
  pub parts : going_on cards taken rest left (counts_of later) ≡ map (λ more. (taken ++ more) ∷ []) (choose left rest)

pub last_slot : (deal : Showdown) (depth : ℕ) (front : List (List ℕ)) (cards taken rest : List ℕ) (left : ℕ) (later : List Slot) (each : ℕ) → length later ≡ 0 → IsAt deal depth front cards taken rest left later each → IsLast deal front cards taken rest left later
last_slot deal depth front cards taken rest left (s ∷ later) each none at = absurd (omega arith)
last_slot deal depth front cards taken rest left [] each none at =
    let parts : going_on cards taken rest left [] ≡ map (λ more. (taken ++ more) ∷ []) (choose left rest) = going_last cards taken rest left in
    let E : List ℕ → Type 0 = λ l. IsEndOf rest l in
    record {
      place = (let p = at.place in omega arith);
      end = subst E (sym at.kept) at.branch.end;
      members = λ more m.
          let Q : List (List (List ℕ)) → Type 0 = λ l. HasMember l ((taken ++ more) ∷ []) in
          at.members ((taken ++ more) ∷ []) (subst Q (sym parts) (member-map (λ more. (taken ++ more) ∷ []) (choose left rest) more m));
      same = ap length parts ∙ length-map (choose left rest) (λ more. (taken ++ more) ∷ []);
      parts = parts;
    }

-- how the counts grow there
pub grown_last : (deal : Showdown) (front : List (List ℕ)) (taken : List ℕ) (all : List (List (List ℕ))) (here : List (List ℕ)) (lo hi : ℕ) (old new : List (List ℕ)) → all ≡ map (λ more. (taken ++ more) ∷ []) here
    → CountsGrow deal (map (λ more. front ++ (taken ++ more) ∷ []) (slice_range here lo hi)) old new → CountsGrow deal (map (λ more. front ++ more) (slice_range all lo hi)) old new
grown_last deal front taken all here lo hi old new e grown =
    let P : List (List (List ℕ)) → Type 0 = λ l. CountsGrow deal l old new in
    let range = slice_range here lo hi in
    let same : map (λ more. front ++ (taken ++ more) ∷ []) range ≡ map (λ more. front ++ more) (slice_range all lo hi) =
    sym (map-map (λ more. front ++ more) (λ more. (taken ++ more) ∷ []) range) ∙ ap (map (λ more. front ++ more)) (sym (range_mapped (λ more. (taken ++ more) ∷ []) all here lo hi e)) in
    subst P same grown

-- what is known of the first slot
pub record IsFirst (deal : Showdown) (depth : ℕ) (cards : List ℕ) (last : List Slot) (count : ℕ) : Type 0 where
  pub within : count ≤ length cards
  pub enough : sum (counts_of last) ≤ length cards - count
  pub fewer : ways (length cards - count) (counts_of last) < 2 ^ 64
  pub all : going_on cards [] cards count (counts_of last) ≡ runouts_after deal.state
  pub room : length last < 11
  pub at : (none : List ℕ) (filled : ℕ) → none ≡ [] → filled ≡ ways (length cards - count) (counts_of last) → IsAt deal depth [] cards none cards count last filled

first_slot : (deal : Showdown) (depth : ℕ) (shape : Shape) (d : Slot) (count : ℕ) → IsShapeOf deal.state shape → 0 < length (slots deal.state) → IsCardSet shape.unseen → count ≡ (get_or (slots_of shape) 0 d).count
    → depth ≤ last_count (slots deal.state) → length (runouts_after deal.state) < 2 ^ 64 → sum (counts_of (slots_of shape)) ≤ length shape.unseen → IsFirst deal depth shape.unseen (take (length (slots_of shape) - 1) (drop 1 (slots_of shape))) count
first_slot deal depth shape d count is some set is_count deep small sums =
    let cards = shape.unseen in
    let last = take (length (slots_of shape) - 1) (drop 1 (slots_of shape)) in
    let long : length (slots_of shape) ≡ length (slots deal.state) = ap length is.lacking in
    let f = at_first (slots_of shape) d (length cards) count (omega arith) is_count sums in
    let first : slots_of shape ≡ get_or (slots_of shape) 0 d ∷ last = first_part (slots_of shape) d (omega arith) in
    let counts : counts_of (slots_of shape) ≡ count ∷ counts_of last = ap counts_of first ∙ ap (λ n. n ∷ counts_of last) (sym is_count) in
    let all : going_on cards [] cards count (counts_of last) ≡ runouts_after deal.state = ap (runouts cards) (sym counts) ∙ ap (λ l. runouts cards (counts_of l)) is.lacking ∙ ap (λ u. runouts u (counts_of (slots deal.state))) is.cards in
    let size : length (runouts_after deal.state) ≡ ways (length cards) (counts_of (slots_of shape)) = ap length (sym all ∙ ap (runouts cards) (sym counts)) ∙ length_runouts (counts_of (slots_of shape)) cards (IsCardSet-rising cards set) in
    let most = f.fewer in
    let last_is : last_count (slots deal.state) ≡ last_count (record { receiver = Board; count = count } ∷ last) = ap last_count (sym is.lacking ∙ first) ∙ last_same (get_or (slots_of shape) 0 d) last count is_count in
    let short : suc (length last) ≡ length (slots deal.state) = (let n = last_length (slots_of shape) (omega arith) in omega arith) in
    record {
      within = f.within;
      enough = f.enough;
      fewer = omega arith;
      all = all;
      room = (let few = shape.few in let t = length-take shape.used shape.slots in omega arith);
      at = λ none filled is_none is_filled.
          let same : going_on cards none cards count (counts_of last) ≡ runouts_after deal.state = ap (λ e. going_on cards e cards count (counts_of last)) is_none ∙ all in
          record {
            place = omega arith;
            kept = sym is.cards;
            branch = first_branch cards none (counts_of last) count filled is_none set f.within f.enough is_filled;
            members = λ more m. (let Q : List (List (List ℕ)) → Type 0 = λ l. HasMember l more in subst Q same m);
            deep = omega arith;
            few = (let n = ap length same in omega arith);
          };
    }

-- the same with the number of slots as the code has it
pub first_of : (deal : Showdown) (depth : ℕ) (shape : Shape) (d : Slot) (count used : ℕ) → used ≡ shape.used → IsShapeOf deal.state shape → 0 < length (slots deal.state) → IsCardSet shape.unseen → count ≡ (get_or (take used shape.slots) 0 d).count
    → depth ≤ last_count (slots deal.state) → length (runouts_after deal.state) < 2 ^ 64 → IsFirst deal depth shape.unseen (take (length (take used shape.slots) - 1) (drop 1 (take used shape.slots))) count
first_of deal depth shape d count used e is some set is_count deep small =
    let P : ℕ → Type 0 = λ n. count ≡ (get_or (take n shape.slots) 0 d).count → IsFirst deal depth shape.unseen (take (length (take n shape.slots) - 1) (drop 1 (take n shape.slots))) count in
    subst P (sym e) (λ c. first_slot deal depth shape d count is some set c deep small shape.enough) is_count

-- how the counts grow from there
pub grown_all : (deal : Showdown) (front : List (List ℕ)) (all here : List (List (List ℕ))) (lo hi : ℕ) (old new : List (List ℕ)) → front ≡ [] → here ≡ all
    → CountsGrow deal (map (λ more. front ++ more) (slice_range here lo hi)) old new → CountsGrow deal (slice_range all lo hi) old new
grown_all deal front all here lo hi old new f e grown =
    let P : List (List (List ℕ)) → Type 0 = λ l. CountsGrow deal l old new in
    let same : map (λ more. front ++ more) (slice_range here lo hi) ≡ slice_range all lo hi =
    ap (λ (sets : List (List ℕ)). map (λ more. sets ++ more) (slice_range here lo hi)) f ∙ map-itself (λ more. more) (slice_range here lo hi) (λ more. refl) ∙ ap (λ l. slice_range l lo hi) e in
    subst P same grown
