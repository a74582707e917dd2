-- The street law of a deal.
use Rattle.std.proofs.Common.{◌≡◌, ℕ, ◌*◌, List, [], ◌∷◌, length, refl, sym, ap, ◌∙◌, arith, cond, ◌&&◌, ◌==◌, not}
use Rattle.std.specs.Prelude.{nat_lt}
use Rattle.std.specs.List.{sum_by}
use Rattle.std.proofs.lemmas.List.Sums.{sum_by-cons}
use Rattle.card_sets.specs.Rising.{IsRising-cards_where}
use Rattle.card_sets.specs.State.{State}
use Rattle.card_sets.specs.declared.games.Side.{Side}
use Rattle.card_sets.specs.declared.games.Side.TheVariants.{High, Low}
use Rattle.runout_ranges.specs.Runouts.{runouts, HasMember}
use Rattle.runout_ranges.specs.Slots.{slots, unseen, counts_of}
use Rattle.showdown_tally.specs.Showdown.{Showdown, wins, ties, loses, units, plays, is_among, winners, units_by_sides, has_two_sides}
use Rattle.showdown_tally.specs.Tallies.{runouts_after}
use Rattle.street_walk.specs.Streets.{choices_of, after, at_end, divisions}
use Rattle.street_walk.specs.StreetSums.{IsKnown, deal_after, over_choices, over_runouts, IsStreetLaw}
use Rattle.street_walk.proofs.Picks.{ByAllCards, joined, later_of, whole_of}
use Rattle.street_walk.proofs.PickedListing.{sum_same, left_by_all, streets_listed}
use Rattle.street_walk.proofs.StreetParts.{parts_of, now_parts, whole_parts, later_parts, divided_parts, rest_of}
use Rattle.street_walk.proofs.EmptySlots.{lacking, padded, runouts_padded}
use Rattle.street_walk.proofs.AfterStreet.{unseen_after, slots_after, choice_length}
use Rattle.street_walk.proofs.StreetEnds.{whole_runout, end_same, end_alike, winners_whole, winners_alike}

-- a number of the final cards, added up street by street
pub street_total : (s : State) (f : List (List ℕ) → ℕ) (g : List (List ℕ) → List (List ℕ) → ℕ) → IsKnown s → ByAllCards (λ sets left. f sets)
    → ((now later : List (List ℕ)) → HasMember (choices_of s) now → g now later ≡ f (whole_runout s now later))
    → sum_by (λ now. sum_by (g now) (runouts_after (after s now))) (choices_of s) ≡ divisions s * sum_by f (runouts_after s)
street_total s f g known by ends =
    let parts = parts_of s.game (slots s) in
    let rest = rest_of s.game (slots s) in
    sum_same (choices_of s) _ (λ now. sum_by (λ later. f (joined now later)) (runouts (left_by_all (unseen s) now) (counts_of rest))) (λ front back now e.
    let m : HasMember (choices_of s) now = (front, back, e) in
    ap (λ cards. sum_by (g now) (runouts cards (counts_of (slots (after s now))))) (unseen_after s now (choice_length s now m))
    ∙ ap (λ some. sum_by (g now) (runouts (left_by_all (unseen s) now) (counts_of some))) (slots_after s now known m)
    ∙ sum_same (runouts (left_by_all (unseen s) now) (counts_of (lacking rest))) (g now) (λ later. f (joined now (padded rest later))) (λ front back later e. ends now later m)
    ∙ sym (runouts_padded rest (left_by_all (unseen s) now) (λ sets. f (joined now sets))))
    ∙ ap (λ counts. sum_by (λ now. sum_by (λ later. f (joined now later)) (runouts (left_by_all (unseen s) now) counts)) (choices_of s)) (sym (later_parts s.game (slots s)))
    ∙ ap (λ counts. sum_by (λ now. sum_by (λ later. f (joined now later)) (runouts (left_by_all (unseen s) now) (later_of parts))) (runouts (unseen s) counts)) (sym (now_parts s.game (slots s)))
    ∙ streets_listed parts (unseen s) f (IsRising-cards_where _) by
    ∙ ap (λ n. n * sum_by f (runouts (unseen s) (whole_of parts))) (divided_parts s.game (slots s))
    ∙ ap (λ counts. divisions s * sum_by f (runouts (unseen s) counts)) (whole_parts s.game (slots s))

-- the same for a number that goes by what is known at the end
pub final_law : (s : State) (number : State → ℕ) → IsKnown s → over_choices (over_runouts number) s ≡ divisions s * over_runouts number s
final_law s number known =
    street_total s (λ runout. number (at_end s runout)) (λ now later. number (at_end (after s now) later)) known
    (λ some others left e. ap number (end_alike s some others e))
    (λ now later m. ap number (end_same s now later (choice_length s now m) (slots_after s now known m)))

sum_ones : {X : Type 0} (xs : List X) → sum_by (λ x. 1) xs ≡ length xs
sum_ones [] = refl
sum_ones (x ∷ xs) = sum_by-cons (λ x. 1) x xs ∙ omega (arith, sum_ones xs)

pub street_law : (deal : Showdown) → IsKnown deal.state → IsStreetLaw deal
street_law deal known = record {
  runouts = sum_same (choices_of deal.state) _ _ (λ front back now e. sym (sum_ones (runouts_after (after deal.state now))))
      ∙ street_total deal.state (λ r. 1) (λ now later. 1) known (λ a b left e. refl) (λ now later m. refl)
      ∙ ap (λ n. divisions deal.state * n) (sum_ones (runouts_after deal.state));
  wins = λ pot hand side. street_total deal.state (λ r. cond (wins deal pot hand side r) 1 0) (λ now r. cond (wins (deal_after deal now) pot hand side r) 1 0) known
      (λ a b left e. ap (λ w. cond (plays deal pot hand side && is_among hand w && (length w == 1)) 1 0) (winners_alike deal pot side a b e))
      (λ now later m. ap (λ w. cond (plays deal pot hand side && is_among hand w && (length w == 1)) 1 0) (ended now later pot side m));
  ties = λ pot hand side. street_total deal.state (λ r. cond (ties deal pot hand side r) 1 0) (λ now r. cond (ties (deal_after deal now) pot hand side r) 1 0) known
      (λ a b left e. ap (λ w. cond (plays deal pot hand side && is_among hand w && nat_lt 1 (length w)) 1 0) (winners_alike deal pot side a b e))
      (λ now later m. ap (λ w. cond (plays deal pot hand side && is_among hand w && nat_lt 1 (length w)) 1 0) (ended now later pot side m));
  losses = λ pot hand side. street_total deal.state (λ r. cond (loses deal pot hand side r) 1 0) (λ now r. cond (loses (deal_after deal now) pot hand side r) 1 0) known
      (λ a b left e. ap (λ w. cond (plays deal pot hand side && not (is_among hand w)) 1 0) (winners_alike deal pot side a b e))
      (λ now later m. ap (λ w. cond (plays deal pot hand side && not (is_among hand w)) 1 0) (ended now later pot side m));
  units = λ pot hand. street_total deal.state (units deal pot hand) (λ now r. units (deal_after deal now) pot hand r) known
      (λ a b left e. ap (λ w. units_by_sides (has_two_sides deal.state.game) w (winners deal pot Low a) hand) (winners_alike deal pot High a b e)
      ∙ ap (λ w. units_by_sides (has_two_sides deal.state.game) (winners deal pot High b) w hand) (winners_alike deal pot Low a b e))
      (λ now later m. ap (λ w. units_by_sides (has_two_sides deal.state.game) w (winners (deal_after deal now) pot Low later) hand) (ended now later pot High m)
      ∙ ap (λ w. units_by_sides (has_two_sides deal.state.game) (winners deal pot High (whole_runout deal.state now later)) w hand) (ended now later pot Low m));
}
  where
    ended : (now later : List (List ℕ)) (pot : ℕ) (side : Side) → HasMember (choices_of deal.state) now → winners (deal_after deal now) pot side later ≡ winners deal pot side (whole_runout deal.state now later)
    ended now later pot side m = winners_whole deal now later pot side (choice_length deal.state now m) (slots_after deal.state now known m)
