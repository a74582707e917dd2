-- Choices beside a full board: hands that are compared with the best of those taken, and walks over shown ranges.
use Rattle.std.proofs.Common.{◌==◌, ◌&&◌, ◌≡◌, ℕ, zero, suc, ◌+◌, ◌-◌, ◌*◌, ◌<◌, ◌≤◌, ◌^◌, List, [], ◌∷◌, ◌++◌, map, filter, take, drop, length, get_or, refl, sym, ap, ◌∙◌, arith, Bool, true, false, cond}
use Rattle.std.specs.Prelude.{Option, nat_lt, slice_index_or}
use Rattle.std.specs.List.{sum_by, list_all}
use Rattle.std.proofs.lemmas.List.{length-map, take_all}
use Rattle.std.proofs.lemmas.List.Sums.{sum_by-cons}
use Rattle.std.proofs.lemmas.Nat.{mul-le}
use Rattle.card_sets.specs.Cards.{IsCardSet}
use Rattle.card_sets.specs.Disjoint.{apart}
use Rattle.card_sets.specs.PlayerSets.{set_of_players}
use Rattle.showdown_tally.specs.Settling.{number_of, top_below, tops_of}
use Rattle.hand_ranges.specs.declared.beside.Shown.{Shown}
use Rattle.range_lines.specs.declared.spot.Weighted.{Weighted}
use Rattle.hand_ranges.specs.Boards.{AreShown, AllShown, IsShown, adds_beside, is_off, level_of, pick, ranges_shown, shown_beside, shown_of, versus_adds, weighted_in, winners_beside}
use Rattle.range_lines.specs.Choices.{is_disjoint, most_choices, walked, weight_of, hands_in}
use Rattle.range_lines.specs.Sound.{AreHands, AreRanges}
use Rattle.hand_ranges.specs.Taken.{number_beside}
use Rattle.range_lines.proofs.CallerLemmas.{disjoint_push, weight_push}
use Rattle.hand_ranges.proofs.WalkSums.{first_next, first_of, step_none, step_of, step_some}
use Rattle.hand_ranges.proofs.WinnersBeside.{winners_push}

-- one of three numbers, under a function and so many times
pick_by : (f : ℕ → ℕ) (level value a b c : ℕ) → f (pick level value a b c) ≡ pick level value (f a) (f b) (f c)
pick_by f level value a b c = elim (nat_lt level (value + 1)) as (λ t. f (cond t c (cond (value + 1 == level) b a)) ≡ cond t (f c) (cond (value + 1 == level) (f b) (f a))) [
  | true ↦ refl
  | false ↦ elim (value + 1 == level) as (λ t. f (cond t b a) ≡ cond t (f b) (f a)) [ true ↦ refl | false ↦ refl ]
]

times_both : (more weight x each : ℕ) → more * (weight * x) + each ≡ (weight * more) * x + each
times_both more weight x each = omega arith

-- what a hand adds to the comparison is what the choice with it adds
pub last_step : (full : List ℕ) (taken : List Weighted) (s : Shown) (values : List (Option ℕ)) (n weight : ℕ) (cards : List ℕ) (by_set : ℕ → ℕ) (each : ℕ)
    → length taken ≡ n → ((h : ℕ) → h < length taken → number_of values h ≡ number_beside full (slice_index_or (hands_in taken) h [])) → is_disjoint taken ≡ true → weight ≡ weight_of taken
    → ((hand : List ℕ) → IsCardSet hand → apart hand cards ≡ list_all (λ w. apart w.hand hand) taken) → IsShown full s
    → (let set = set_of_players (tops_of values (2 ^ n - 1) n) in let level = level_of (top_below values (2 ^ n - 1) n) in
    versus_adds cards level (weight * by_set set) (weight * by_set (set + 2 ^ n)) (weight * by_set (2 ^ n)) each s)
    ≡ cond (is_disjoint (taken ++ weighted_in s ∷ [])) (adds_beside full by_set each (taken ++ weighted_in s ∷ [])) 0
last_step full taken s values n weight cards by_set each long worth apart_all is all shown =
    let set = set_of_players (tops_of values (2 ^ n - 1) n) in
    let level = level_of (top_below values (2 ^ n - 1) n) in
    let f : ℕ → ℕ = λ k. weight * by_set k in
    let test : is_disjoint (taken ++ weighted_in s ∷ []) ≡ apart s.hand cards = disjoint_push taken (weighted_in s) ∙ ap (λ b. b && list_all (λ w. apart w.hand s.hand) taken) apart_all ∙ sym (all s.hand shown.set) in
    let winners : winners_beside full (taken ++ weighted_in s ∷ []) ≡ pick level s.value set (set + 2 ^ n) (2 ^ n) = winners_push full taken (weighted_in s) values n s.value long worth shown.value in
    let product : weight_of (taken ++ weighted_in s ∷ []) ≡ weight * s.weight = weight_push taken (weighted_in s) ∙ ap (λ k. k * s.weight) (sym is) in
    ap (λ x. cond (apart s.hand cards) (s.weight * x + each) 0) (sym (pick_by f level s.value set (set + 2 ^ n) (2 ^ n)))
    ∙ ap (λ k. cond (apart s.hand cards) (s.weight * (weight * by_set k) + each) 0) (sym winners)
    ∙ ap (λ k. cond (apart s.hand cards) k 0) (times_both s.weight weight (by_set (winners_beside full (taken ++ weighted_in s ∷ []))) each)
    ∙ ap (λ k. cond (apart s.hand cards) (k * by_set (winners_beside full (taken ++ weighted_in s ∷ [])) + each) 0) (sym product)
    ∙ ap (λ b. cond b (adds_beside full by_set each (taken ++ weighted_in s ∷ [])) 0) (sym test)

-- a sum over shown hands
pub sum_shown : (full : List ℕ) (hands : List Shown) (f : Shown → ℕ) (g : Weighted → ℕ) → AreShown full hands → ((s : Shown) → IsShown full s → f s ≡ g (weighted_in s)) → sum_by f hands ≡ sum_by g (map weighted_in hands)
sum_shown full [] f g are same = refl
sum_shown full (s ∷ hands) f g are same =
    let here : f s ≡ g (weighted_in s) = same s are.0 in
    omega (arith, sum_by-cons f s hands, sum_by-cons g (weighted_in s) (map weighted_in hands), here, sum_shown full hands f g are.1 same)

pub last_sum : (full : List ℕ) (taken : List Weighted) (hands : List Shown) (values : List (Option ℕ)) (n weight level set : ℕ) (cards : List ℕ) (by_set : ℕ → ℕ) (each : ℕ)
    → length taken ≡ n → ((h : ℕ) → h < length taken → number_of values h ≡ number_beside full (slice_index_or (hands_in taken) h [])) → is_disjoint taken ≡ true → weight ≡ weight_of taken
    → ((hand : List ℕ) → IsCardSet hand → apart hand cards ≡ list_all (λ w. apart w.hand hand) taken) → AreShown full hands
    → level ≡ level_of (top_below values (2 ^ n - 1) n) → set ≡ set_of_players (tops_of values (2 ^ n - 1) n)
    → sum_by (versus_adds cards level (weight * by_set set) (weight * by_set (set + 2 ^ n)) (weight * by_set (2 ^ n)) each) hands
    ≡ walked (map weighted_in hands ∷ []) taken (adds_beside full by_set each)
last_sum full taken hands values n weight level set cards by_set each long worth apart_all is all are high won =
    ap (λ k. sum_by (versus_adds cards k (weight * by_set set) (weight * by_set (set + 2 ^ n)) (weight * by_set (2 ^ n)) each) hands) high
    ∙ ap (λ k. sum_by (versus_adds cards (level_of (top_below values (2 ^ n - 1) n)) (weight * by_set k) (weight * by_set (k + 2 ^ n)) (weight * by_set (2 ^ n)) each) hands) won
    ∙ sum_shown full hands _ (λ w. cond (is_disjoint (taken ++ w ∷ [])) (adds_beside full by_set each (taken ++ w ∷ [])) 0) are
    (λ s shown. last_step full taken s values n weight cards by_set each long worth apart_all is all shown)

-- what counts grow by is what a comparison is worth
pub same_worth : (weight less same more hands a b c each : ℕ) → weight * less * a + weight * same * b + weight * more * c + hands * each ≡ less * (weight * a) + same * (weight * b) + more * (weight * c) + hands * each
same_worth weight less same more hands a b c each = omega arith

-- ---- shown ranges

pub shown_again : (full : List ℕ) (hands : List Weighted) → map weighted_in (map (shown_beside full) hands) ≡ hands
shown_again full [] = refl
shown_again full (w ∷ hands) = ap (λ l. w ∷ l) (shown_again full hands)

pub ranges_again : (full : List ℕ) (ranges : List (List Weighted)) → ranges_shown (map (shown_of full) ranges) ≡ map (filter (is_off full)) ranges
ranges_again full [] = refl
ranges_again full (range ∷ ranges) = ap (λ r. r ∷ ranges_shown (map (shown_of full) ranges)) (shown_again full (filter (is_off full) range)) ∙ ap (λ rs. filter (is_off full) range ∷ rs) (ranges_again full ranges)

one_shown : (full : List ℕ) (w : Weighted) → IsCardSet w.hand → IsShown full (shown_beside full w)
one_shown full w set = record { set = set; value = refl }

pub range_shown : (board dead full : List ℕ) (hands : List Weighted) → AreHands board dead hands → AreShown full (shown_of full hands)
range_shown board dead full [] are = tt
range_shown board dead full (w ∷ hands) are =
    elim (is_off full w) as (λ b. AreShown full (map (shown_beside full) (cond b (w ∷ filter (is_off full) hands) (filter (is_off full) hands)))) [
      | true ↦ (one_shown full w are.0.set, range_shown board dead full hands are.1)
      | false ↦ range_shown board dead full hands are.1
    ]

pub all_shown : (board dead full : List ℕ) (ranges : List (List Weighted)) → AreRanges board dead ranges → AllShown full (map (shown_of full) ranges)
all_shown board dead full [] are = tt
all_shown board dead full (range ∷ ranges) are = (range_shown board dead full range are.0.each, all_shown board dead full ranges are.1)

-- fewer hands make fewer choices
pub length_off : (p : Weighted → Bool) (hands : List Weighted) → length (filter p hands) ≤ length hands
length_off p [] = omega arith
length_off p (w ∷ hands) = elim (p w) as (λ b. length (cond b (w ∷ filter p hands) (filter p hands)) ≤ suc (length hands)) [
  | true ↦ omega (arith, length_off p hands)
  | false ↦ omega (arith, length_off p hands)
]

pub most_off : (p : Weighted → Bool) (ranges : List (List Weighted)) → most_choices (map (filter p) ranges) ≤ most_choices ranges
most_off p [] = omega arith
most_off p (range ∷ ranges) = mul-le (length (filter p range)) (most_choices (map (filter p) ranges)) (length range) (most_choices ranges) (length_off p range) (most_off p ranges)

-- ---- one shown hand more

pub shown_at : (full : List ℕ) (hands : List Shown) (i : ℕ) (d : Shown) → AreShown full hands → i < length hands → IsShown full (get_or hands i d)
shown_at full [] i d are l = absurd (omega arith)
shown_at full (s ∷ hands) zero d are l = are.0
shown_at full (s ∷ hands) (suc i) d are l = shown_at full hands i d are.1 (omega arith)

get_shown : (hands : List Shown) (i : ℕ) (s : Shown) → i < length hands → s ≡ get_or hands i s → get_or (map weighted_in hands) i (weighted_in s) ≡ weighted_in s
get_shown hands i s l is = at hands i l ∙ ap weighted_in (sym is)
  where
    at : (hands : List Shown) (i : ℕ) → i < length hands → get_or (map weighted_in hands) i (weighted_in s) ≡ weighted_in (get_or hands i s)
    at [] i l = absurd (omega arith)
    at (h ∷ hands) zero l = refl
    at (h ∷ hands) (suc i) l = at hands i (omega arith)

pub length_shown : (hands : List Shown) → length (map weighted_in hands) ≡ length hands
length_shown hands = length-map hands weighted_in

-- the first range and the others
pub split_shown : (lists : List (List Shown)) (list hands : List Shown) → 0 < length lists → list ≡ get_or lists 0 list → hands ≡ list → lists ≡ hands ∷ take (length lists - 1) (drop 1 lists)
split_shown [] list hands some is same = absurd (omega arith)
split_shown (first ∷ lists) list hands some is same =
    let less : length (first ∷ lists) - 1 ≡ length lists = omega arith in
    ap (λ h. h ∷ lists) (sym is) ∙ ap (λ h. h ∷ lists) (sym same) ∙ ap (λ l. hands ∷ l) (sym (take_all (length lists) lists (omega arith))) ∙ ap (λ n. hands ∷ take n lists) (sym less)

pub most_shown : (hands : List Shown) (lists : List (List Shown)) → most_choices (ranges_shown (hands ∷ lists)) ≡ length hands * most_choices (ranges_shown lists)
most_shown hands lists = ap (λ n. n * most_choices (ranges_shown lists)) (length_shown hands)

-- one hand more: the choices with it are added, or it shares a card
pub shown_more : (hands : List Shown) (ranges : List (List Weighted)) (taken more : List Weighted) (i : ℕ) (s : Shown) (number : List Weighted → ℕ) (old mid new : ℕ) → i < length hands → s ≡ get_or hands i s
    → more ≡ taken ++ weighted_in s ∷ [] → is_disjoint (taken ++ weighted_in s ∷ []) ≡ true
    → mid ≡ old + first_of (map weighted_in hands) ranges taken i number → new ≡ mid + walked ranges more number → new ≡ old + first_of (map weighted_in hands) ranges taken (i + 1) number
shown_more hands ranges taken more i s number old mid new l is push d a b =
    let range = map weighted_in hands in
    let inside : i < length range = omega (arith, length_shown hands) in
    let here : walked ranges more number ≡ step_of ranges taken number (get_or range i (weighted_in s)) =
    ap (λ t. walked ranges t number) push ∙ sym (step_some ranges taken number (weighted_in s) d) ∙ ap (step_of ranges taken number) (sym (get_shown hands i s l is)) in
    let next = first_next range ranges taken i (weighted_in s) number inside in
    omega (arith, a, b, here, next)

pub shown_skip : (hands : List Shown) (ranges : List (List Weighted)) (taken : List Weighted) (i : ℕ) (s : Shown) (number : List Weighted → ℕ) (old mid : ℕ) → i < length hands → s ≡ get_or hands i s
    → is_disjoint (taken ++ weighted_in s ∷ []) ≡ false
    → mid ≡ old + first_of (map weighted_in hands) ranges taken i number → mid ≡ old + first_of (map weighted_in hands) ranges taken (i + 1) number
shown_skip hands ranges taken i s number old mid l is d a =
    let range = map weighted_in hands in
    let inside : i < length range = omega (arith, length_shown hands) in
    let here : step_of ranges taken number (get_or range i (weighted_in s)) ≡ 0 = ap (step_of ranges taken number) (get_shown hands i s l is) ∙ step_none ranges taken number (weighted_in s) d in
    let next = first_next range ranges taken i (weighted_in s) number inside in
    omega (arith, a, here, next)

pub length_shown_of : (full : List ℕ) (hands : List Weighted) → length (shown_of full hands) ≤ length hands
length_shown_of full hands = omega (arith, length-map (filter (is_off full) hands) (shown_beside full), length_off (is_off full) hands)

-- all ranges, once each is shown
pub all_of_front : (full : List ℕ) (room : List (List Shown)) (ranges : List (List Weighted)) (place count : ℕ) → take place room ≡ map (shown_of full) (take place ranges) → count ≤ place → place ≤ count → count ≡ length ranges
    → take count room ≡ map (shown_of full) ranges
all_of_front full room ranges place count front l m is =
    let same : count ≡ place = omega arith in
    ap (λ n. take n room) same ∙ front ∙ ap (map (shown_of full)) (take_all place ranges (omega (arith, is)))
