-- Who may win a pot, by the places of the seats among a table's hands.
use Rattle.std.proofs.Common.{drop, ◌≡◌, ◌^◌, slice_index_or, ℕ, ◌+◌, ◌-◌, ◌<◌, ◌≤◌, List, [], ◌∷◌, refl, sym, ap, ◌∙◌, Bool, true, false, length, arith, length-drop}
use Rattle.std.specs.Prelude.{if◌then◌else◌}
use Rattle.card_sets.specs.PlayerSetLaws.{players_where-skip, players_where-small, with_player-next}
use Rattle.card_sets.specs.PlayerSets.{has_player, players_where, with_player}
use Rattle.hand_audit.specs.KnownTables.{places_in}
use Rattle.hand_audit.proofs.lemmas.seats.TenPlaces.{Further, further}

-- the places of its seats in another set
abbrev pub has_place : List ℕ → ℕ → ℕ → Bool
has_place xs set i = has_player set (slice_index_or xs i 0)

pub place_more : (xs : List ℕ) (set n seat places : ℕ) (rest : List ℕ) → length xs ≤ 10 → drop n xs ≡ seat ∷ rest → places ≡ players_where (has_place xs set) n
    → (if has_player set seat then with_player places n else places) ≡ players_where (has_place xs set) (n + 1)
place_more xs set n seat places rest few is so_far = by (has_player set seat) refl
  where
    at : Further xs n seat rest
    at = further xs n seat rest is

    by : (b : Bool) → has_player set seat ≡ b → (if b then with_player places n else places) ≡ players_where (has_place xs set) (n + 1)
    by true e = let inside = at.inside in ap (λ s. with_player s n) so_far ∙ with_player-next (has_place xs set) n (omega (arith, inside, few)) (ap (has_player set) at.here ∙ e)
    by false e = so_far ∙ players_where-skip (has_place xs set) n (ap (has_player set) at.here ∙ e)

pub placed : (xs : List ℕ) (set n places : ℕ) → drop n xs ≡ [] → n ≤ length xs → places ≡ players_where (has_place xs set) n → places ≡ places_in xs set
unfolding places_in
placed xs set n places over some is =
    let long : length xs - n ≡ 0 = sym (length-drop n xs) ∙ ap length over in
    let same : n ≡ length xs = omega (arith, long, some) in
    is ∙ ap (players_where (has_place xs set)) same

pub places_small : (xs : List ℕ) (set : ℕ) → places_in xs set < 2 ^ length xs
unfolding places_in
places_small xs set = players_where-small (λ i. has_player set (slice_index_or xs i 0)) (length xs)
