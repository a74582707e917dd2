-- What a player of a game with one draw kept, he holds in the end.
use Rattle.std.proofs.Common.{◌≡◌, ℕ, ◌+◌, ◌≤◌, List, [], ◌∷◌, refl, sym, ap, ◌∙◌, subst, Bool, true, false, not, ◌||◌, ◌&&◌, ◌==◌, inl, inr, arith, length}
use Rattle.std.specs.Prelude.{Option, Some, None, if◌then◌else◌}
use Rattle.card_sets.specs.Cards.{has_card, cards_where, with_card, union, minus, IsCardSet}
use Rattle.card_sets.specs.Bits.{IsCardSet-cards_where}
use Rattle.card_sets.specs.Disjoint.{apart}
use Rattle.card_sets.specs.declared.games.Family.TheVariants as family
use Rattle.card_sets.specs.Games.{family_of, own_size, may_come_again, deals_again}
use Rattle.hand_events.specs.declared.events.Header.{Header}
use Rattle.hand_events.specs.declared.events.Event.{Event}
use Rattle.hand_events.specs.declared.events.Event.TheVariants.{Deal}
use Rattle.card_sets.specs.declared.streets.Street.TheVariants.{First}
use Rattle.betting_replay.specs.Accepted.{IsAccepted}
use Rattle.betting_replay.specs.CardLaws.{Among}
use Rattle.betting_replay.specs.Dealing.{gathered, given_by, draws_of}
use Rattle.betting_replay.specs.Events.{seat_of}
use Rattle.betting_replay.specs.Hands.{dealt, dealt_by, shown, if_many}
use Rattle.betting_replay.specs.Known.{holding_of, final_drawn, final_in, draws_openly, kept, known_in, final_cards, cards_at}
use Rattle.hand_laws.specs.KeptLaws.{StillHolds}
use Rattle.betting_replay.specs.Places.{owned, thrown}
use Rattle.betting_replay.specs.Seats.{or_else}
use Rattle.betting_replay.proofs.CallerLemmas.{five_own, given_among, no_card, if_many_is, shown_holds, final_holds, shown_not_thrown}
use Rattle.card_sets.proofs.CallerLemmas.{in_union, in_minus, in_rest, union_left, union_right, no_cards, of_deck, fewer_where, or_either, length-with_card}

-- the cards that a seat was given are dealt ones
given_dealt_by : (e : Event) (k : ℕ) → has_card (given_by e) k ≡ true → has_card (dealt_by e) k ≡ true
given_dealt_by (Deal seat cards true) k has = absurd (no_card k has)
given_dealt_by (Deal seat cards false) k has = has
given_dealt_by _ k has = absurd (no_card k has)

given_dealt : (h : List Event) (p k : ℕ) → has_card (gathered given_by h p) k ≡ true → has_card (dealt h p) k ≡ true
given_dealt [] p k has = has
given_dealt (e ∷ h) p k has = by (seat_of e == p) has (given_dealt h p k)
  where
    by : (b : Bool) → has_card (if b then union (gathered given_by h p) (given_by e) else gathered given_by h p) k ≡ true → (has_card (gathered given_by h p) k ≡ true → has_card (dealt h p) k ≡ true)
        → has_card (if b then union (dealt h p) (dealt_by e) else dealt h p) k ≡ true
    by true has before = (let w = in_union (gathered given_by h p) (given_by e) k has in elim w.1 [
      | inl old ↦ union_left (dealt h p) (dealt_by e) k w.0 (before old)
      | inr now ↦ union_right (dealt h p) (dealt_by e) k w.0 (given_dealt_by e k now)
    ])
    by false has before = before has

-- a part of a set that has no fewer cards is all of it
all_of : (part whole : List ℕ) (k : ℕ) → Among part whole → IsCardSet whole → length whole ≤ length part → has_card whole k ≡ true → has_card part k ≡ true
all_of part whole k among set few has = by (has_card part k) refl
  where
    by : (b : Bool) → has_card part k ≡ b → has_card part k ≡ true
    by true is = is
    by false is =
        let longer : length (with_card part k) ≡ length part + 1 = length-with_card part k among.set is (of_deck whole k set has) in
        let within : length (with_card part k) ≤ length (cards_where (has_card whole)) = fewer_where (λ j. (j == k) || has_card part j) (has_card whole) (λ j there. elim (or_either (j == k) (has_card part j) there) [
          | inl same ↦ (let e : j ≡ k = grind arith in ap (has_card whole) e ∙ has)
          | inr old ↦ among.each j old
        ]) in
        absurd (omega (arith, longer, within, few, ap length set))

pub still_holds : (g : Header) (players : ℕ) (h : List Event) → IsAccepted g players h → family_of g.game ≡ family.Draw → (p : ℕ) (own final : List ℕ) → cards_at g h p First ≡ Some own → final_cards g h p ≡ Some final → StillHolds g h p own final
still_holds g players h ok game p own final known ends = record {
  not_shown = λ none. held (by_dealt none);
  five_left = λ few. held (by_five few (shown g h p) refl);
  not_openly = λ none. unless none pat (draws_of h p).five is_kept;
}
  where
    stays : may_come_again g.game ≡ false
    stays = ap deals_again game

    is_kept : kept (holding_of g h p) ≡ Some own
    is_kept = ap (λ f. known_in f (own_size g.game) (holding_of g h p) First) (sym game) ∙ known

    is_final : final_drawn (holding_of g h p) ≡ Some final
    is_final = ap (λ f. final_in f (own_size g.game) (holding_of g h p)) (sym game) ∙ ends

    size : own_size g.game ≡ 5
    size = five_own g.game game

    left : List ℕ
    left = minus (gathered given_by h p) (thrown h)

    left_set : IsCardSet left
    left_set = IsCardSet-cards_where (λ k. has_card (gathered given_by h p) k && not (has_card (thrown h) k))

    -- by what was dealt
    worked_out : (o : Option (List ℕ)) → shown g h p ≡ o → o ≡ None → (hidden : Bool) → or_else o (if hidden then None else if_many 5 (minus (dealt h p) (thrown h))) ≡ Some final → minus (dealt h p) (thrown h) ≡ final
    worked_out None s none true is = cc
    worked_out None s none false is = (if_many_is 5 (minus (dealt h p) (thrown h)) final is).0
    worked_out (Some cards) s none hidden is = cc

    by_dealt : shown g h p ≡ None → (k : ℕ) → has_card left k ≡ true → has_card final k ≡ true
    by_dealt none k has =
        let w = in_minus (gathered given_by h p) (thrown h) k has in
        let same : minus (dealt h p) (thrown h) ≡ final = worked_out (shown g h p) refl none (draws_of h p).hidden is_final in
        ap (λ cards. has_card cards k) (sym same) ∙ in_rest (dealt h p) (thrown h) k w.0 (given_dealt h p k w.1) w.2

    -- by a hand that was shown
    shown_is : (cards : List ℕ) (hidden : Bool) → or_else (Some cards) (if hidden then None else if_many 5 (minus (dealt h p) (thrown h))) ≡ Some final → cards ≡ final
    shown_is cards hidden is = cc

    by_five : length (minus (owned g.game h p) (thrown h)) ≤ 5 → (o : Option (List ℕ)) → shown g h p ≡ o → (k : ℕ) → has_card left k ≡ true → has_card final k ≡ true
    by_five few None s k has = by_dealt s k has
    by_five few (Some cards) s k has =
        let same : cards ≡ final = shown_is cards (draws_of h p).hidden (ap (λ o. or_else o (if (draws_of h p).hidden then None else if_many 5 (minus (dealt h p) (thrown h)))) (sym s) ∙ is_final) in
        let hand = shown_holds g players h p cards ok s in
        let five : length cards ≡ 5 = hand.many ∙ size in
        let unthrown : Among cards (minus (owned g.game h p) (thrown h)) = record { set = hand.among.set; each = λ j there. in_rest (owned g.game h p) (thrown h) j (of_deck cards j hand.among.set there) (hand.among.each j there) (shown_not_thrown g players h p cards j stays ok s there) } in
        let w = in_minus (gathered given_by h p) (thrown h) k has in
        let here : has_card (minus (owned g.game h p) (thrown h)) k ≡ true = in_rest (owned g.game h p) (thrown h) k w.0 ((given_among g players h p stays ok).each k w.1) w.2 in
        ap (λ xs. has_card xs k) (sym same) ∙ all_of cards (minus (owned g.game h p) (thrown h)) k unthrown (IsCardSet-cards_where (λ j. has_card (owned g.game h p) j && not (has_card (thrown h) j))) (omega (arith, few, five)) here

    final_set : IsCardSet final
    final_set = (final_holds g players h p final g.game refl ok ends).among.set

    -- what he kept where the discards don't tell it
    otherwise : (b c : Bool) → (if b then final_drawn (holding_of g h p) else (if c then Some [] else None)) ≡ Some own → Among own final
    otherwise true c is = (let same : final ≡ own = cc in subst (λ (xs : List ℕ). Among xs final) same (record { set = final_set; each = λ k has. has }))
    otherwise false true is = (let same : [] ≡ own = cc in subst (λ (xs : List ℕ). Among xs final) same (record { set = no_cards; each = λ k has. absurd (no_card k has) }))
    otherwise false false is = cc

    unless : draws_openly (holding_of g h p) ≡ false → (b c : Bool) → (if draws_openly (holding_of g h p) then Some left else (if b then final_drawn (holding_of g h p) else (if c then Some [] else None))) ≡ Some own → Among own final
    unless none b c is = otherwise b c (ap (λ a. if a then Some left else (if b then final_drawn (holding_of g h p) else (if c then Some [] else None))) (sym none) ∙ is)

    openly : ((k : ℕ) → has_card left k ≡ true → has_card final k ≡ true) → (a b c : Bool) → (if a then Some left else (if b then final_drawn (holding_of g h p) else (if c then Some [] else None))) ≡ Some own → Among own final
    openly part true b c is = (let same : left ≡ own = cc in subst (λ (xs : List ℕ). Among xs final) same (record { set = left_set; each = part }))
    openly part false b c is = otherwise b c is

    pat : Bool
    pat = (draws_of h p).pat && apart (owned g.game h p) (thrown h)

    held : ((k : ℕ) → has_card left k ≡ true → has_card final k ≡ true) → Among own final
    held part = openly part (draws_openly (holding_of g h p)) pat (draws_of h p).five is_kept
