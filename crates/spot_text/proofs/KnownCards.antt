-- The sets of a whole spot: what they hold, and that no card is in two of them.
use Rattle.std.proofs.Common.{◌≡◌, ℕ, zero, suc, ◌+◌, ◌<◌, ◌≤◌, Bool, true, false, cond, ◌||◌, ◌&&◌, ◌==◌, not, List, [], ◌∷◌, ◌++◌, length, take, drop, map, get_or, refl, sym, ap, ◌∙◌, subst, Some, None, inl, inr, arith}
use Rattle.std.specs.Prelude.{Option, is_none, nat_le, codes}
use Rattle.std.specs.List.{list_all, onto_first, before_first, after_first, cons_option}
use Rattle.std.proofs.lemmas.List.Folds.{list_any-append}
use Rattle.std.proofs.lemmas.Bool.{cases_lt, and_from, not-true}
use Rattle.std.specs.Str.{bytes_eq}
use Rattle.std.proofs.lemmas.Slice.Eq.{bytes_eq-Decides}
use mathlib.Core.Bool.{true≢false}
use Rattle.card_sets.specs.Cards.{has_card}
use Rattle.card_sets.specs.CardText.{card_of_text, card_of_letters}
use Rattle.card_sets.specs.Bits.{has-cards_where}
use Rattle.card_sets.specs.Rising.{IsRising-cards_where}
use Rattle.card_sets.specs.Disjoint.{apart, all_apart, all_empty}
use Rattle.card_sets.specs.declared.games.Game.{Game}
use Rattle.card_sets.specs.Games.{all_fit, own_size, board_size}
use Rattle.card_sets.specs.State.{State}
use Rattle.spot_text.specs.Parts.{is_slash, is_dashes, is_dash, hand_words, board_words, dead_words, cards_of, set_of}
use Rattle.spot_text.specs.Games.{least_own, hand_fits, board_fits}
use Rattle.spot_text.specs.Collected.{spread}
use Rattle.spot_text.specs.Spot.{all_differ, hands_fit, repeated_after, state_of_words}
use Rattle.card_sets.proofs.CallerLemmas.{and_first, and_second, or_first, or_second, or_either, false_unless, has_past, NoneIn, apart-NoneIn}
use Rattle.spot_text.proofs.PartsByWord.{before_yes, before_no, after_yes, after_no, slash_first, dashes_first, hand_first, none_first}
use Rattle.spot_text.proofs.CardsByWord.{set_of-nil}
use Rattle.spot_text.proofs.RepeatedCard.{none_repeated}
use Rattle.spot_text.proofs.SetSizes.{length-set_of, length-cards_of}

pub take_spread : (n : ℕ) (hands : List (List (List ℕ))) → length hands ≤ n → take (length hands) (spread n hands) ≡ map (λ hand. set_of (cards_of hand)) hands
take_spread zero [] few = refl
take_spread zero (hand ∷ hands) few = absurd (omega arith)
take_spread (suc n) [] few = refl
take_spread (suc n) (hand ∷ hands) few = ap (λ r. set_of (cards_of hand) ∷ r) (take_spread n hands (omega arith))

empty_spread : (n : ℕ) → all_empty (spread n []) ≡ true
empty_spread zero = refl
empty_spread (suc n) = empty_spread n

pub drop_spread : (n : ℕ) (hands : List (List (List ℕ))) → length hands ≤ n → all_empty (drop (length hands) (spread n hands)) ≡ true
drop_spread zero [] few = refl
drop_spread zero (hand ∷ hands) few = absurd (omega arith)
drop_spread (suc n) [] few = empty_spread (suc n)
drop_spread (suc n) (hand ∷ hands) few = drop_spread n hands (omega arith)

pub fit_spread : (game : Game) (n : ℕ) (hands : List (List (List ℕ))) → hands_fit game hands ≡ true → list_all (λ hand. nat_le (length hand) (own_size game)) (spread n hands) ≡ true
fit_spread game zero hands fit = refl
fit_spread game (suc n) [] fit = and_from (nat_le 0 (own_size game)) (list_all (λ hand. nat_le (length hand) (own_size game)) (spread n [])) (let t : nat_le 0 (own_size game) ≡ true = grind arith in t) (fit_spread game n [] refl)
fit_spread game (suc n) (hand ∷ hands) fit =
    let own : nat_le (length hand) (own_size game) ≡ true = and_second (nat_le (least_own game) (length hand)) (nat_le (length hand) (own_size game)) (and_first (hand_fits game (length hand)) (hands_fit game hands) fit) in
    let most : length (set_of (cards_of hand)) ≤ length hand = omega (arith, length-set_of (cards_of hand), length-cards_of hand) in
    let small : nat_le (length (set_of (cards_of hand))) (own_size game) ≡ true = small_is (length (set_of (cards_of hand))) (length hand) (own_size game) most own in
    and_from _ _ small (fit_spread game n hands (and_second (hand_fits game (length hand)) (hands_fit game hands) fit))
  where
    small_is : (a b n : ℕ) → a ≤ b → nat_le b n ≡ true → nat_le a n ≡ true
    small_is a b n h t = grind arith

-- a set has the cards that it is made of
set_has : (cards : List ℕ) (k : ℕ) → has_card (set_of cards) k ≡ true → has_card cards k ≡ true
set_has cards k held = elim (cases_lt k 52) [
  | inl inside ↦ sym (has-cards_where (has_card cards) k inside) ∙ held
  | inr past ↦ absurd (true≢false (sym held ∙ has_past 0 (set_of cards) k (IsRising-cards_where (has_card cards)) past))
]

sets_apart : (xs ys : List ℕ) → NoneIn xs ys → NoneIn (set_of xs) (set_of ys)
sets_apart xs ys h = λ k held. false_unless (has_card (set_of ys) k) (λ now. sym (h k (set_has xs k held)) ∙ set_has ys k now)

-- cards that differ, in two lists
pub differ_append : (xs ys : List ℕ) → all_differ (xs ++ ys) ≡ true → (all_differ xs ≡ true) × (all_differ ys ≡ true) × NoneIn xs ys
differ_append [] ys h = (refl, h, λ k held. absurd (true≢false (sym held)))
differ_append (x ∷ xs) ys h =
    let rest = differ_append xs ys (and_second (not (has_card (xs ++ ys) x)) (all_differ (xs ++ ys)) h) in
    let out : has_card (xs ++ ys) x ≡ false = not-true (has_card (xs ++ ys) x) (and_first (not (has_card (xs ++ ys) x)) (all_differ (xs ++ ys)) h) in
    let both : (has_card xs x || has_card ys x) ≡ false = sym (list_any-append (λ c. c == x) xs ys) ∙ out in
    let first : has_card xs x ≡ false = or_first (has_card xs x) (has_card ys x) both in
    let second : has_card ys x ≡ false = or_second (has_card xs x) (has_card ys x) both in (
      and_from (not (has_card xs x)) (all_differ xs) (ap not first) rest.0,
      rest.1,
      λ k held. elim (or_either (x == k) (has_card xs k) held) [
        | inl same ↦
            let e : x ≡ k = grind arith in
            subst (λ j. has_card ys j ≡ false) e second
        | inr other ↦ rest.2 k other
      ],
    )

bytes_same : (xs ys : List ℕ) → bytes_eq xs ys ≡ true → xs ≡ ys
bytes_same xs ys h = (bytes_eq-Decides xs ys).0 h

-- a mark names no card
pub no_slash : (w : List ℕ) → is_slash w ≡ true → card_of_text w ≡ None
no_slash w h = let same : w ≡ codes "/" = bytes_same w (codes "/") h in ap card_of_text same

pub no_dash : (w : List ℕ) → is_dash w ≡ true → card_of_text w ≡ None
no_dash w h = let same : w ≡ codes "-" = bytes_same w (codes "-") h in ap card_of_text same

pub no_dashes : (w : List ℕ) → is_dashes w ≡ true → card_of_text w ≡ None
unfolding card_of_letters
no_dashes w h = let same : w ≡ codes "--" = bytes_same w (codes "--") h in ap card_of_text same

none_named : (w : List ℕ) (ws : List (List ℕ)) → card_of_text w ≡ None → cards_of (w ∷ ws) ≡ cards_of ws
none_named w ws none = rw none refl

-- the cards of the parts are the cards of all the words
abbrev pub hands_cards : List (List (List ℕ)) → List ℕ
hands_cards [] = []
hands_cards (hand ∷ hands) = cards_of hand ++ hands_cards hands

option_append : (o : Option ℕ) (xs ys : List ℕ) → cons_option o xs ++ ys ≡ cons_option o (xs ++ ys)
option_append None xs ys = refl
option_append (Some x) xs ys = refl

onto_cards : (w : List ℕ) (hands : List (List (List ℕ))) → hands_cards (onto_first w hands) ≡ cons_option (card_of_text w) (hands_cards hands)
onto_cards w [] = option_append (card_of_text w) [] []
onto_cards w (hand ∷ hands) = option_append (card_of_text w) (cards_of hand) (hands_cards hands)

cards_cut : (ws : List (List ℕ)) → cards_of ws ≡ cards_of (before_first is_slash ws) ++ cards_of (after_first is_slash ws)
cards_cut [] = refl
cards_cut (w ∷ ws) = at (is_slash w) refl (cards_cut ws)
  where
    at : (b : Bool) → is_slash w ≡ b → cards_of ws ≡ cards_of (before_first is_slash ws) ++ cards_of (after_first is_slash ws) → cards_of (w ∷ ws) ≡ cards_of (before_first is_slash (w ∷ ws)) ++ cards_of (after_first is_slash (w ∷ ws))
    at true e rest =
        none_named w ws (no_slash w e) ∙ sym (ap (λ l. cards_of l ++ cards_of (after_first is_slash (w ∷ ws))) (before_yes is_slash w ws e)
        ∙ ap cards_of (after_yes is_slash w ws e))
    at false e rest =
        ap (cons_option (card_of_text w)) rest
        ∙ sym (option_append (card_of_text w) (cards_of (before_first is_slash ws)) (cards_of (after_first is_slash ws)))
        ∙ sym (ap (λ l. cards_of l ++ cards_of (after_first is_slash (w ∷ ws))) (before_no is_slash w ws e)
        ∙ ap (λ l. cards_of (w ∷ before_first is_slash ws) ++ cards_of l) (after_no is_slash w ws e))

abbrev pub parts_cards : List (List (List ℕ)) → List (List ℕ) → List (List ℕ) → List ℕ
parts_cards hands board dead = hands_cards hands ++ (cards_of board ++ cards_of dead)

pub parts_same : (hands hands' : List (List (List ℕ))) (board board' dead dead' : List (List ℕ)) → hands ≡ hands' → board ≡ board' → dead ≡ dead' →
    parts_cards hands board dead ≡ parts_cards hands' board' dead'
parts_same hands hands' board board' dead dead' e f g = rw (e, f, g) refl

pub cards_split : (ws : List (List ℕ)) → cards_of ws ≡ parts_cards (hand_words ws) (board_words ws) (dead_words ws)
cards_split [] = sym (parts_same _ _ _ _ _ _ none_first.0 none_first.1 none_first.2)
cards_split (w ∷ ws) = at (is_slash w) (is_dashes w) (is_dash w) refl refl refl (cards_split ws)
  where
    at : (a b c : Bool) → is_slash w ≡ a → is_dashes w ≡ b → is_dash w ≡ c →
        cards_of ws ≡ parts_cards (hand_words ws) (board_words ws) (dead_words ws) →
        cards_of (w ∷ ws) ≡ parts_cards (hand_words (w ∷ ws)) (board_words (w ∷ ws)) (dead_words (w ∷ ws))
    at true b c e f g rest =
        let p = slash_first w ws e in
        none_named w ws (no_slash w e) ∙ sym (parts_same _ _ _ _ _ _ p.0 p.1 p.2)
    at false true c e f g rest =
        let p = dashes_first w ws e f in
        none_named w ws (no_dashes w f) ∙ cards_cut ws ∙ sym (parts_same _ _ _ _ _ _ p.0 p.1 p.2)
    at false false true e f g rest =
        let p = hand_first w ws e f in
        let dash = p.0 ∙ ap (λ b. cond b ([] ∷ hand_words ws) (onto_first w (hand_words ws))) g in
        none_named w ws (no_dash w g) ∙ rest ∙ sym (parts_same _ _ _ _ _ _ dash p.1 p.2)
    at false false false e f g rest =
        let p = hand_first w ws e f in
        let card = p.0 ∙ ap (λ b. cond b ([] ∷ hand_words ws) (onto_first w (hand_words ws))) g in
        let others = cards_of (board_words ws) ++ cards_of (dead_words ws) in
        ap (cons_option (card_of_text w)) rest ∙ sym (option_append (card_of_text w) (hands_cards (hand_words ws)) others)
        ∙ ap (λ l. l ++ others) (sym (onto_cards w (hand_words ws)))
        ∙ sym (parts_same _ _ _ _ _ _ card p.1 p.2)

-- no card is in two of the sets
turned : (xs ys : List ℕ) → NoneIn xs ys → NoneIn ys xs
turned xs ys h = λ k held. false_unless (has_card xs k) (λ now. sym (h k now) ∙ held)

apart_front : (xs ys zs : List ℕ) → NoneIn xs (ys ++ zs) → (NoneIn xs ys) × NoneIn xs zs
apart_front xs ys zs h = (
  λ k held. or_first (has_card ys k) (has_card zs k) (sym (list_any-append (λ c. c == k) ys zs) ∙ h k held),
  λ k held. or_second (has_card ys k) (has_card zs k) (sym (list_any-append (λ c. c == k) ys zs) ∙ h k held),
)

apart_spread : (xs : List ℕ) (n : ℕ) (hands : List (List (List ℕ))) → NoneIn xs (hands_cards hands) → list_all (apart (set_of xs)) (spread n hands) ≡ true
apart_spread xs zero hands h = refl
apart_spread xs (suc n) [] h = and_from _ _ (apart-NoneIn (set_of xs) [] (λ k held. refl)) (apart_spread xs n [] h)
apart_spread xs (suc n) (hand ∷ hands) h =
    let both = apart_front xs (cards_of hand) (hands_cards hands) h in
    and_from _ _ (apart-NoneIn _ _ (sets_apart xs (cards_of hand) both.0)) (apart_spread xs n hands both.1)

apart_nothing : (sets : List (List ℕ)) → list_all (apart []) sets ≡ true
apart_nothing [] = refl
apart_nothing (s ∷ sets) = apart_nothing sets

spread_apart : (n : ℕ) (hands : List (List (List ℕ))) → all_differ (hands_cards hands) ≡ true → all_apart (spread n hands) ≡ true
spread_apart zero hands h = refl
spread_apart (suc n) [] h = and_from _ _ (apart_nothing (spread n [])) (spread_apart n [] h)
spread_apart (suc n) (hand ∷ hands) h =
    let both = differ_append (cards_of hand) (hands_cards hands) h in
    and_from _ _ (apart_spread (cards_of hand) n hands both.2) (spread_apart n hands both.1)

pub spot_apart : (n : ℕ) (ws : List (List ℕ)) → all_differ (cards_of ws) ≡ true →
    all_apart (set_of (cards_of (board_words ws)) ∷ set_of (cards_of (dead_words ws)) ∷ spread n (hand_words ws)) ≡ true
spot_apart n ws h =
    let board = cards_of (board_words ws) in
    let dead = cards_of (dead_words ws) in
    let hands = hands_cards (hand_words ws) in
    let differ : all_differ (hands ++ (board ++ dead)) ≡ true = ap all_differ (sym (cards_split ws)) ∙ h in
    let whole = differ_append hands (board ++ dead) differ in
    let table = differ_append board dead whole.1 in
    let from = apart_front hands board dead whole.2 in
    and_from _ _
    (and_from _ _ (apart-NoneIn _ _ (sets_apart board dead table.2)) (apart_spread board n (hand_words ws) (turned hands board from.0)))
    (and_from _ _ (apart_spread dead n (hand_words ws) (turned hands dead from.1)) (spread_apart n (hand_words ws) whole.0))

-- the same of sets that are those of the parts
same_sets : (b b' d d' : List ℕ) (hs hs' : List (List ℕ)) → b ≡ b' → d ≡ d' → hs ≡ hs' → all_apart (b' ∷ d' ∷ hs') ≡ true → all_apart (b ∷ d ∷ hs) ≡ true
same_sets b b' d d' hs hs' e f g h =
    ap (λ x. all_apart (x ∷ d ∷ hs)) e ∙ ap (λ x. all_apart (b' ∷ x ∷ hs)) f ∙ ap (λ x. all_apart (b' ∷ d' ∷ x)) g ∙ h

pub known_apart : (b d : List ℕ) (hs : List (List ℕ)) (ws : List (List ℕ)) → b ≡ set_of (cards_of (board_words ws)) → d ≡ set_of (cards_of (dead_words ws)) →
    hs ≡ spread 10 (hand_words ws) → repeated_after [] (cards_of ws) ≡ None → all_apart (b ∷ d ∷ hs) ≡ true
known_apart b d hs ws e f g once =
    same_sets _ _ _ _ _ _ e f g (spot_apart 10 ws (sym (none_repeated (cards_of ws)) ∙ ap is_none once))

pub known_unused : (hs : List (List ℕ)) (ws : List (List ℕ)) (count : ℕ) → hs ≡ spread 10 (hand_words ws) → count ≡ length (hand_words ws) → count ≤ 10 →
    all_empty (drop count hs) ≡ true
known_unused hs ws count g is few =
    ap (λ n. all_empty (drop n hs)) is ∙ ap (λ l. all_empty (drop (length (hand_words ws)) l)) g ∙ drop_spread 10 (hand_words ws) (omega arith)

board_most : (game : Game) (n : ℕ) → board_fits game n ≡ true → n ≤ board_size game
board_most game n h = elim (cases_lt n (board_size game + 1)) [
  | inl small ↦ omega arith
  | inr large ↦
      let some : (n == 0) ≡ false = grind arith in
      let many : nat_le n (board_size game) ≡ false = grind arith in
      absurd (true≢false (sym h ∙ ap (λ b. b || (nat_le 3 n && nat_le n (board_size game))) some ∙ ap (λ b. nat_le 3 n && b) many ∙ and_no (nat_le 3 n)))
]
  where
    and_no : (b : Bool) → (b && false) ≡ false
    and_no true = refl
    and_no false = refl

pub known_fit : (game : Game) (b : List ℕ) (hs : List (List ℕ)) (ws : List (List ℕ)) → b ≡ set_of (cards_of (board_words ws)) → hs ≡ spread 10 (hand_words ws) →
    hands_fit game (hand_words ws) ≡ true → board_fits game (length (board_words ws)) ≡ true → all_fit game b hs ≡ true
known_fit game b hs ws e g fit table =
    let most : length b ≤ board_size game =
    omega (arith, ap length e, length-set_of (cards_of (board_words ws)), length-cards_of (board_words ws), board_most game (length (board_words ws)) table) in
    and_from (nat_le (length b) (board_size game)) (list_all (λ hand. nat_le (length hand) (own_size game)) hs) (at_most (length b) (board_size game) most)
    (ap (list_all (λ hand. nat_le (length hand) (own_size game))) g ∙ fit_spread game 10 (hand_words ws) fit)
  where
    at_most : (n m : ℕ) → n ≤ m → nat_le n m ≡ true
    at_most n m h = grind arith

same_state : (game game' : Game) (hands hands' : List (List ℕ)) (board board' dead dead' : List ℕ) →
    game ≡ game' → hands ≡ hands' → board ≡ board' → dead ≡ dead' →
    record { game = game; hands = hands; board = board; dead = dead }
    ≡ (let s : State = record { game = game'; hands = hands'; board = board'; dead = dead' } in s)
same_state game game' hands hands' board board' dead dead' e f g h = rw (e, f, g, h) refl

pub known_state : (game : Game) (count : ℕ) (b d : List ℕ) (hs : List (List ℕ)) (ws : List (List ℕ)) → count ≡ length (hand_words ws) → count ≤ 10 →
    b ≡ set_of (cards_of (board_words ws)) → d ≡ set_of (cards_of (dead_words ws)) → hs ≡ spread 10 (hand_words ws) →
    (let s : State = record { game = game; hands = take count hs; board = b; dead = d } in s) ≡ state_of_words game ws
known_state game count b d hs ws is few e f g =
    same_state _ _ _ _ _ _ _ _ refl
    (ap (λ n. take n hs) is ∙ ap (take (length (hand_words ws))) g ∙ take_spread 10 (hand_words ws) (omega arith)) e f
