-- What all hands could expect of all pots adds up to the pots.
use Rattle.std.proofs.Common.{◌≡◌, ℕ, zero, suc, ◌+◌, ◌*◌, ◌<◌, ◌≤◌, ◌&&◌, Bool, true, false, cond, List, [], ◌∷◌, length, map, refl, sym, ap, ◌∙◌, arith, length-append}
use Rattle.std.specs.Prelude.{All, slice_index_or, take}
use Rattle.std.specs.List.{sum_by}
use Rattle.std.proofs.lemmas.List.{length-map}
use Rattle.std.proofs.lemmas.List.Sums.{sum_by-append, sum_by-cons}
use Rattle.card_sets.specs.PlayerSets.{has_player, hands_below, hands_of, all_within}
use Rattle.card_sets.specs.declared.games.Side.TheVariants.{High, Low}
use Rattle.hand_verdict.specs.declared.settlement.PotLine.{PotLine}
use Rattle.showdown_tally.specs.Laws.{AddUp}
use Rattle.showdown_tally.specs.Showdown.{Showdown, eligible_in, is_among, units, units_by_sides, winners}
use Rattle.showdown_tally.specs.Tallies.{runouts_after, units_over}
use Rattle.showdown_tally.proofs.CallerLemmas.{among_hands, eligible_pot, among_passed}
use Rattle.report_laws.specs.ExpectLaws.{GivesAll, given_to_all}
use Rattle.even_luck.specs.Figures.{every_pot, gross_of}
use Rattle.report_sheet.specs.SpotLines.{every_hand}
use Rattle.even_luck.proofs.CallerLemmas.{sums_same}

-- sums of zeros, of sums, of multiples and of equals
sum_zero : {X : Type 0} (xs : List X) → sum_by (λ x. 0) xs ≡ 0
sum_zero [] = refl
sum_zero (x ∷ xs) = omega (arith, sum_by-cons (λ x. 0) x xs, sum_zero xs)

sum_plus : {X : Type 0} (f g : X → ℕ) (xs : List X) → sum_by (λ x. f x + g x) xs ≡ sum_by f xs + sum_by g xs
sum_plus f g [] = refl
sum_plus f g (x ∷ xs) = omega (arith, sum_plus f g xs, sum_by-cons (λ x. f x + g x) x xs, sum_by-cons f x xs, sum_by-cons g x xs)

times_more : (a s n : ℕ) → a * n + s * n ≡ (a + s) * n
times_more a s n = grind arith

more_times : (n a s : ℕ) → n * a + n * s ≡ n * (a + s)
more_times n a s = grind arith

one_more : (n k : ℕ) → n + n * k ≡ n * suc k
one_more n k = grind arith

sum_times : {X : Type 0} (n : ℕ) (f : X → ℕ) (xs : List X) → sum_by (λ x. f x * n) xs ≡ sum_by f xs * n
sum_times n f [] = omega arith
sum_times n f (x ∷ xs) = sum_by-cons (λ x. f x * n) x xs ∙ ap (λ s. f x * n + s) (sum_times n f xs) ∙ times_more (f x) (sum_by f xs) n ∙ ap (λ s. s * n) (sym (sum_by-cons f x xs))

pub multiple : {X : Type 0} (n : ℕ) (f : X → ℕ) (xs : List X) → sum_by (λ x. n * f x) xs ≡ n * sum_by f xs
multiple n f [] = omega arith
multiple n f (x ∷ xs) = sum_by-cons (λ x. n * f x) x xs ∙ ap (λ s. n * f x + s) (multiple n f xs) ∙ more_times n (f x) (sum_by f xs) ∙ ap (λ s. n * s) (sym (sum_by-cons f x xs))

pub sum_of_equals : {X : Type 0} (f : X → ℕ) (n : ℕ) (xs : List X) → All (λ x. f x ≡ n) xs → sum_by f xs ≡ n * length xs
sum_of_equals f n [] all = omega arith
sum_of_equals f n (x ∷ xs) all =
    let first : f x ≡ n = all 0 x (omega arith) in
    let later : sum_by f xs ≡ n * length xs = sum_of_equals f n xs (λ k d below. all (suc k) d (omega arith)) in
    sum_by-cons f x xs ∙ ap (λ a. a + sum_by f xs) first ∙ ap (λ s. n + s) later ∙ one_more n (length xs)

-- two sums change places
same_sums : {X : Type 0} (f g : X → ℕ) (xs : List X) → ((x : X) → f x ≡ g x) → sum_by f xs ≡ sum_by g xs
same_sums f g [] same = refl
same_sums f g (x ∷ xs) same = omega (arith, sum_by-cons f x xs, sum_by-cons g x xs, same x, same_sums f g xs same)

pub sum_swap : {X Y : Type 0} (f : X → Y → ℕ) (xs : List X) (ys : List Y) → sum_by (λ x. sum_by (λ y. f x y) ys) xs ≡ sum_by (λ y. sum_by (λ x. f x y) xs) ys
sum_swap f [] ys = sym (sum_zero ys)
sum_swap f (x ∷ xs) ys = sum_by-cons (λ x. sum_by (λ y. f x y) ys) x xs ∙ ap (λ later. sum_by (λ y. f x y) ys + later) (sum_swap f xs ys) ∙ sym (sum_plus (λ y. f x y) (λ y. sum_by (λ z. f z y) xs) ys)
    ∙ sym (same_sums (λ y. sum_by (λ z. f z y) (x ∷ xs)) (λ y. f x y + sum_by (λ z. f z y) xs) ys (λ y. sum_by-cons (λ z. f z y) x xs))

-- over all hands below n as over those of a set, where the others have nothing
over_set : (f : ℕ → ℕ) (set n : ℕ) → ((h : ℕ) → h < n → has_player set h ≡ false → f h ≡ 0) → sum_by f (every_hand n) ≡ sum_by f (hands_below set n)
over_set f set zero none = refl
over_set f set (suc n) none =
    let before : sum_by f (every_hand n) ≡ sum_by f (hands_below set n) = over_set f set n (λ h below out. none h (omega arith) out) in
    sum_by-append f (every_hand n) (n ∷ []) ∙ ap (λ s. s + sum_by f (n ∷ [])) before
    ∙ one (has_player set n) refl ∙ sym (sum_by-append f (hands_below set n) (cond (has_player set n) (n ∷ []) []))
  where
    one : (b : Bool) → has_player set n ≡ b → sum_by f (hands_below set n) + sum_by f (n ∷ []) ≡ sum_by f (hands_below set n) + sum_by f (cond (has_player set n) (n ∷ []) [])
    one true e = rw e refl
    one false e = let nothing : f n ≡ 0 = none n (omega arith) e in rw e (omega (arith, nothing))

few_below : (set n : ℕ) → length (hands_below set n) ≤ n
few_below set zero = omega arith
few_below set (suc n) = omega (arith, few_below set n, length-append (hands_below set n) (cond (has_player set n) (n ∷ []) []), one (has_player set n))
  where
    one : (b : Bool) → length {A = ℕ} (cond b (n ∷ []) []) ≤ 1
    one true = omega arith
    one false = omega arith

-- a hand that isn't eligible wins nothing
and_false : (b : Bool) → (b && false) ≡ false
and_false true = refl
and_false false = refl

nothing_of : (two : Bool) (highs lows : List ℕ) (h : ℕ) → is_among h highs ≡ false → is_among h lows ≡ false → units_by_sides two highs lows h ≡ 0
nothing_of true highs [] h high low = rw high refl
nothing_of true highs (w ∷ lows) h high low = rw (high, low) refl
nothing_of false highs lows h high low = rw (high, low) refl

no_units : (deal : Showdown) (k h : ℕ) (runout : List (List ℕ)) → is_among h (eligible_in deal k) ≡ false → units deal k h runout ≡ 0
unfolding winners
no_units deal k h runout out =
    nothing_of _ (winners deal k High runout) (winners deal k Low runout) h
    (among_passed _ h (eligible_in deal k) ∙ rw out (and_false _)) (among_passed _ h (eligible_in deal k) ∙ rw out (and_false _))

-- the eligible hands of a pot are those of a set of the hands that there are
pub record IsPotOf (deal : Showdown) (k set : ℕ) : Type 0 where
  pub hands : eligible_in deal k ≡ hands_below set (length deal.state.hands)

-- a runout gives the hands all units of a pot
units_add_up : (deal : Showdown) (k set : ℕ) (runout : List (List ℕ)) → IsPotOf deal k set → AddUp deal runout k
    → sum_by (λ h. units deal k h runout) (every_hand (length deal.state.hands)) ≡ 5040
units_add_up deal k set runout pot all =
    over_set (λ h. units deal k h runout) set (length deal.state.hands) (λ h below out. no_units deal k h runout (ap (is_among h) pot.hands ∙ among_hands set (length deal.state.hands) h ∙ rw out (and_false _)))
    ∙ ap (λ hands. sum_by (λ h. units deal k h runout) hands) (sym pot.hands) ∙ all

-- all runouts do
pot_adds_up : (deal : Showdown) (k set : ℕ) → IsPotOf deal k set → All (λ runout. AddUp deal runout k) (runouts_after deal.state)
    → sum_by (λ h. units_over deal (runouts_after deal.state) k h) (every_hand (length deal.state.hands)) ≡ 5040 * length (runouts_after deal.state)
pot_adds_up deal k set pot all =
    sum_swap (λ h runout. units deal k h runout) (every_hand (length deal.state.hands)) (runouts_after deal.state)
    ∙ sum_of_equals (λ runout. sum_by (λ h. units deal k h runout) (every_hand (length deal.state.hands))) 5040 (runouts_after deal.state)
    (λ i d below. units_add_up deal k set (slice_index_or (runouts_after deal.state) i d) pot (all i d below))

-- so all pots are given out
pub all_given : (pots : List PotLine) (deal : Showdown) → ((k : ℕ) → k < length deal.pots → (set : ℕ) × IsPotOf deal k set × All (λ runout. AddUp deal runout k) (runouts_after deal.state)) → GivesAll pots deal
all_given pots deal each =
    let hands = every_hand (length deal.state.hands) in
    let count = length deal.pots in
    let whole = 5040 * length (runouts_after deal.state) in
    let unit = λ (k h : ℕ). units_over deal (runouts_after deal.state) k h in
    let swapped : given_to_all pots deal ≡ sum_by (λ k. sum_by (λ h. gross_of pots k * unit k h) hands) (every_pot count) = sum_swap (λ h k. gross_of pots k * unit k h) hands (every_pot count) in
    let one_pot : (k : ℕ) → k < count → sum_by (λ h. gross_of pots k * unit k h) hands ≡ gross_of pots k * whole =
    λ k below. multiple (gross_of pots k) (unit k) hands ∙ ap (λ n. gross_of pots k * n) (pot_adds_up deal k (each k below).0 (each k below).1 (each k below).2) in
    swapped ∙ sums_same (λ k. sum_by (λ h. gross_of pots k * unit k h) hands) (λ k. gross_of pots k * whole) count one_pot
    ∙ sum_times whole (λ k. gross_of pots k) (every_pot count)

-- the pots of a table
pub table_pot : (deal : Showdown) (count pots : ℕ) (sets : List ℕ) (k : ℕ) → deal.pots ≡ map hands_of (take pots sets) → length deal.state.hands ≡ count → all_within count sets ≡ true → count ≤ 10 → k < length deal.pots
    → IsPotOf deal k (slice_index_or sets k 0)
table_pot deal count pots sets k made hands within few below =
    let inside : k < length (take pots sets) = omega (arith, below, ap length made, length-map (take pots sets) hands_of) in
    record { hands = eligible_pot deal pots sets count k made inside within few ∙ ap (λ n. hands_below (slice_index_or sets k 0) n) (sym hands) }

pub few_eligible : (deal : Showdown) (k set : ℕ) → IsPotOf deal k set → length deal.state.hands ≤ 10 → length (eligible_in deal k) ≤ 10
few_eligible deal k set pot few = omega (arith, ap length pot.hands, few_below set (length deal.state.hands), few)
