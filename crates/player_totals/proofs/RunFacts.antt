-- What one hand more adds to the totals.
use Rattle.std.proofs.Common.{◌≡◌, ℕ, ◌+◌, Bool, true, false, cond, ◌&&◌, ◌||◌, List, [], ◌∷◌, ◌++◌, length, map, filter, Some, None, refl, sym, ap, ◌∙◌, append-nil, append_assoc, length-append, true≢false, inl, inr, arith}
use Rattle.std.specs.Prelude.{not, count_by}
use Rattle.std.specs.Bool.{beq}
use Rattle.std.specs.Cmp.Lexicographic.{nat_list_eq_equiv}
use Rattle.std.specs.List.{flat_map, list_any}
use Rattle.std.specs.Option.{option_map_or}
use Rattle.std.specs.Str.{bytes_eq}
use Rattle.std.proofs.lemmas.Bool.{cases_Bool}
use Rattle.std.proofs.lemmas.List.Concat.{flat_map-cons}
use Rattle.std.proofs.lemmas.List.Elements.{filter-append}
use Rattle.std.proofs.lemmas.List.Folds.{list_any-append}
use Rattle.std.proofs.lemmas.List.Sums.{sum_by_push, sum_by-cons}
use Rattle.std.proofs.lemmas.Map.Views.{any-filter_same}
use Rattle.std.proofs.lemmas.Grind.{flat_map-append}
use Rattle.hand_verdict.specs.declared.verdicts.AllIn.{AllIn}
use Rattle.hand_verdict.specs.declared.verdicts.HandAudit.{HandAudit}
use Rattle.hand_verdict.specs.declared.verdicts.HandAudit.TheVariants.{Rejected, Accepted}
use Rattle.hand_verdict.specs.declared.settlement.Settlement.{Settlement}
use Rattle.hand_events.specs.Names.{seat_named}
use Rattle.even_luck.specs.Seats.{Seated}
use Rattle.player_totals.specs.Totals.{Player, RunTotals, each_once, is_accepted, no_sums, players_in, playing, same_player, seat_sums, seated_sums, sums_in, sums_over, totals_of}
use Rattle.player_totals.proofs.NameFacts.{same_congr, same_symm}
use Rattle.player_totals.specs.SumsSeen.{AreSums, seated_share, with_given, with_player, with_players}
use Rattle.player_totals.specs.TotalsSeen.{named_player, plus, totals_are_sums}
use Rattle.player_totals.specs.declared.player_sums.PlayerSums.{PlayerSums}

-- a player stands among some exactly where he stands among them once each
pub any_once : (player : Player) (players : List Player) → list_any (same_player player) (each_once players) ≡ list_any (same_player player) players
any_once player [] = refl
any_once player (first ∷ later) = by (same_player player first) refl (any_once player later)
  where
    apart : same_player player first ≡ false → (other : Player) → same_player player other ≡ true → not (same_player first other) ≡ true
    apart other_first other same =
        let e : same_player first other ≡ false = same_symm first other ∙ sym (same_congr player other first same) ∙ other_first in ap not e

    by : (b : Bool) → same_player player first ≡ b → list_any (same_player player) (each_once later) ≡ list_any (same_player player) later →
        (b || list_any (same_player player) (filter (λ other. not (same_player first other)) (each_once later))) ≡ (b || list_any (same_player player) later)
    by true same rest = refl
    by false other rest = any-filter_same (same_player player) (λ other. not (same_player first other)) true (apart other) (each_once later) ∙ rest

-- one player more among some, each once
once_push : (players : List Player) (player : Player) →
    each_once (players ++ player ∷ []) ≡ cond (list_any (same_player player) players) (each_once players) (each_once players ++ player ∷ [])
once_push [] player = refl
once_push (first ∷ later) player =
    ap (λ rest. first ∷ filter (λ other. not (same_player first other)) rest) (once_push later player)
    ∙ by (same_player player first) (list_any (same_player player) later) refl
  where
    kept : Player → Bool
    kept other = not (same_player first other)

    by : (b c : Bool) → same_player player first ≡ b →
        first ∷ filter kept (cond c (each_once later) (each_once later ++ player ∷ []))
        ≡ cond (b || c) (first ∷ filter kept (each_once later)) (first ∷ filter kept (each_once later) ++ player ∷ [])
    by true true same = refl
    by false true other = refl
    by true false same =
        let gone : kept player ≡ false = ap not (same_symm first player ∙ same) in
        ap (λ rest. first ∷ rest) (filter-append kept (each_once later) (player ∷ []) ∙ ap (λ b. filter kept (each_once later) ++ cond b (player ∷ []) []) gone ∙ append-nil _)
    by false false other =
        let stays : kept player ≡ true = ap not (same_symm first player ∙ other) in
        ap (λ rest. first ∷ rest) (filter-append kept (each_once later) (player ∷ []) ∙ ap (λ b. filter kept (each_once later) ++ cond b (player ∷ []) []) stays)

or_left : (a b : Bool) → (a || b) ≡ false → a ≡ false
or_left true b e = e
or_left false b e = refl

or_right : (a b : Bool) → (a || b) ≡ false → b ≡ false
or_right true b e = absurd (true≢false e)
or_right false b e = e

-- who isn't a player of a hand is given nothing by it
unseated : (hundredths : Bool) (player : Player) (seated : Seated) → beq player.hundredths hundredths ≡ true →
    list_any (same_player player) (map (λ who. named_player hundredths who.1) seated) ≡ false → seat_named player.name seated ≡ None
unseated hundredths player [] unit absent = refl
unseated hundredths player (who ∷ seated) unit absent =
    let own : bytes_eq player.name who.1 ≡ false = ap (λ b. b && bytes_eq player.name who.1) (sym unit) ∙ or_left (same_player player (named_player hundredths who.1)) _ absent in
    let other : bytes_eq who.1 player.name ≡ false = nat_list_eq_equiv.symm who.1 player.name ∙ own in
    ap (λ b. cond b (Some who.0) (seat_named player.name seated)) other
    ∙ unseated hundredths player seated unit (or_right (same_player player (named_player hundredths who.1)) _ absent)

-- what each hand gives its players, and what several do: nothing of none, and each hand adds what it gives
pub record AreOver {S H : Type 0} (nothing : S) (plus : S → S → S) (players_in : H → List Player) (given : H → Player → S) (over : List H → Player → S) : Type 0 where
  pub absent : (hand : H) (player : Player) → list_any (same_player player) (players_in hand) ≡ false → given hand player ≡ nothing
  pub none : (player : Player) → over [] player ≡ nothing
  pub before : (hand : H) (hands : List H) (player : Player) → over (hand ∷ hands) player ≡ plus (given hand player) (over hands player)
  pub behind : (hand : H) (hands : List H) (player : Player) → plus (over hands player) (given hand player) ≡ over (hands ++ hand ∷ []) player

module _ {S : Type 0} {nothing : S} {plus : S → S → S} {AreOf : ℕ → S → Type 0} (laws : AreSums nothing plus AreOf) where
  -- some players, each once, with sums
  abbrev beside : (Player → S) → Player → Player × S
  beside sums player = (player, sums player)

  abbrev listed : (Player → S) → List Player → List (Player × S)
  listed sums players = map (beside sums) (each_once players)

  any_listed : (player : Player) (sums : Player → S) (players : List Player) →
      list_any (λ (entry : Player × S). same_player player entry.0) (map (beside sums) players) ≡ list_any (same_player player) players
  any_listed player sums [] = refl
  any_listed player sums (first ∷ later) = ap (λ rest. same_player player first || rest) (any_listed player sums later)

  map_pushed : (sums : Player → S) (players : List Player) (player : Player) →
      map (beside sums) (players ++ player ∷ []) ≡ map (beside sums) players ++ (player, sums player) ∷ []
  map_pushed sums [] player = refl
  map_pushed sums (first ∷ later) player = ap (λ rest. (first, sums first) ∷ rest) (map_pushed sums later player)

  listed_push : (sums : Player → S) (players : List Player) (player : Player) → (list_any (same_player player) players ≡ false → sums player ≡ nothing) →
      with_player nothing (listed sums players) player ≡ listed sums (players ++ player ∷ [])
  listed_push sums players player none =
      ap (λ b. cond b (listed sums players) (listed sums players ++ (player, nothing) ∷ [])) (any_listed player sums (each_once players) ∙ any_once player players)
      ∙ by (list_any (same_player player) players) refl ∙ ap (map (beside sums)) (sym (once_push players player))
    where
      by : (b : Bool) → list_any (same_player player) players ≡ b →
          cond b (listed sums players) (listed sums players ++ (player, nothing) ∷ [])
          ≡ map (beside sums) (cond b (each_once players) (each_once players ++ player ∷ []))
      by true there = refl
      by false new = ap (λ s. listed sums players ++ (player, s) ∷ []) (sym (none new)) ∙ sym (map_pushed sums (each_once players) player)

  -- more players, who have sums of nothing where they weren't among the first
  listed_all : (sums : Player → S) (players more : List Player) → ((player : Player) → list_any (same_player player) players ≡ false → sums player ≡ nothing) →
      with_players nothing (listed sums players) more ≡ listed sums (players ++ more)
  listed_all sums players [] none = ap (listed sums) (sym (append-nil players))
  listed_all sums players (player ∷ more) none =
      ap (λ entries. with_players nothing entries more) (listed_push sums players player (none player))
      ∙ listed_all sums (players ++ player ∷ []) more
      (λ other absent. none other (or_left (list_any (same_player other) players) _ (sym (list_any-append (same_player other) players (player ∷ [])) ∙ absent)))
      ∙ ap (listed sums) (append_assoc players (player ∷ []) more)

  -- who isn't a player of a hand is given nothing by it
  pub absent_share : (hundredths : Bool) (each : ℕ → S) (seated : Seated) (player : Player) →
      list_any (same_player player) (map (λ who. named_player hundredths who.1) seated) ≡ false → seated_share nothing hundredths each seated player ≡ nothing
  absent_share hundredths each seated player absent = elim (cases_Bool (beq player.hundredths hundredths)) [
    | inl unit ↦
        ap (λ b. cond b (option_map_or each (seat_named player.name seated) nothing) nothing) unit
        ∙ ap (λ found. option_map_or each found nothing) (unseated hundredths player seated unit absent)
    | inr unit ↦ ap (λ b. cond b (option_map_or each (seat_named player.name seated) nothing) nothing) unit
  ]

  given_listed : (given sums now : Player → S) (players : List Player) → ((player : Player) → plus (sums player) (given player) ≡ now player) →
      with_given plus given (map (beside sums) players) ≡ map (beside now) players
  given_listed given sums now [] each = refl
  given_listed given sums now (first ∷ later) each =
      let head = each first in
      let rest = given_listed given sums now later each in
      λ i. (first, head i) ∷ rest i

  -- who is no player of some hands is given nothing by them
  nothing_over : {H : Type 0} (players_in : H → List Player) (given : H → Player → S) (over : List H → Player → S) → AreOver nothing plus players_in given over →
      (hands : List H) (player : Player) → list_any (same_player player) (flat_map players_in hands) ≡ false → over hands player ≡ nothing
  nothing_over players_in given over is [] player absent = is.none player
  nothing_over players_in given over is (hand ∷ hands) player absent =
      let split = sym (list_any-append (same_player player) (players_in hand) (flat_map players_in hands)) ∙ ap (list_any (same_player player)) (sym (flat_map-cons players_in hand hands)) ∙ absent in
      let first = is.absent hand player (or_left _ _ split) in
      let later = nothing_over players_in given over is hands player (or_right (list_any (same_player player) (players_in hand)) _ split) in
      is.before hand hands player ∙ (λ i. plus (first i) (later i)) ∙ laws.before nothing

  -- the players of some hands, with one hand more
  pub hand_more : {H : Type 0} (players_in : H → List Player) (given : H → Player → S) (over : List H → Player → S) → AreOver nothing plus players_in given over → (hands : List H) (hand : H) →
      with_given plus (given hand) (with_players nothing (listed (over hands) (flat_map players_in hands)) (players_in hand)) ≡ listed (over (hands ++ hand ∷ [])) (flat_map players_in (hands ++ hand ∷ []))
  hand_more players_in given over is hands hand =
      ap (with_given plus (given hand)) (listed_all (over hands) (flat_map players_in hands) (players_in hand) (nothing_over players_in given over is hands))
      ∙ given_listed (given hand) (over hands) (over (hands ++ hand ∷ [])) (each_once (flat_map players_in hands ++ players_in hand)) (is.behind hand hands)
      ∙ ap (λ players. map (beside (over (hands ++ hand ∷ []))) (each_once players)) one_more
    where
      one_more : flat_map players_in hands ++ players_in hand ≡ flat_map players_in (hands ++ hand ∷ [])
      one_more = sym (flat_map-append players_in hands (hand ∷ []) ∙ ap (λ last. flat_map players_in hands ++ last) (flat_map-cons players_in hand [] ∙ append-nil (players_in hand)))

nothing_in : (hand : HandAudit) (player : Player) → list_any (same_player player) (players_in hand) ≡ false → sums_in hand player ≡ no_sums
nothing_in (Rejected line cause hundredths) player absent = refl
nothing_in (Accepted s all_in names players) player absent = absent_share totals_are_sums s.hundredths (seat_sums s all_in) (playing names players) player absent

-- sums over one hand before others, and after them
sums_before : (hand : HandAudit) (hands : List HandAudit) (player : Player) → sums_over (hand ∷ hands) player ≡ plus (sums_in hand player) (sums_over hands player)
sums_before hand hands player =
    let in_hands = sum_by-cons (λ h. (sums_in h player).hands) hand hands in
    let all_ins = sum_by-cons (λ h. (sums_in h player).all_ins) hand hands in
    let collected = sum_by-cons (λ h. (sums_in h player).collected) hand hands in
    let expected = sum_by-cons (λ h. (sums_in h player).expected) hand hands in
    λ i. record { hands = in_hands i; all_ins = all_ins i; collected = collected i; expected = expected i }

sums_behind : (hand : HandAudit) (hands : List HandAudit) (player : Player) → plus (sums_over hands player) (sums_in hand player) ≡ sums_over (hands ++ hand ∷ []) player
sums_behind hand hands player =
    let in_hands = sum_by_push (λ h. (sums_in h player).hands) hands hand in
    let all_ins = sum_by_push (λ h. (sums_in h player).all_ins) hands hand in
    let collected = sum_by_push (λ h. (sums_in h player).collected) hands hand in
    let expected = sum_by_push (λ h. (sums_in h player).expected) hands hand in
    sym (λ i. record { hands = in_hands i; all_ins = all_ins i; collected = collected i; expected = expected i })

totals_over : AreOver no_sums plus players_in sums_in sums_over
totals_over = record { absent = nothing_in; none = λ player. refl; before = sums_before; behind = sums_behind }

-- the players of the totals, with one hand more
players_more : (hands : List HandAudit) (hand : HandAudit) →
    with_given plus (sums_in hand) (with_players no_sums (totals_of hands).players (players_in hand)) ≡ (totals_of (hands ++ hand ∷ [])).players
players_more hands hand = hand_more totals_are_sums players_in sums_in sums_over totals_over hands hand

-- the totals with one accepted hand more
pub accepted_more : (hands : List HandAudit) (s : Settlement) (all_in : AllIn) (names : Seated) (players accepted rejected : ℕ) (entries now : List (Player × PlayerSums)) →
    record { hands = accepted + rejected; accepted = accepted; rejected = rejected; players = entries } ≡ totals_of hands →
    now ≡ with_given plus (seated_sums s all_in (playing names players)) (with_players no_sums entries (map (λ who. named_player s.hundredths who.1) (playing names players))) →
    record { hands = accepted + 1 + rejected; accepted = accepted + 1; rejected = rejected; players = now } ≡ totals_of (hands ++ Accepted s all_in names players ∷ [])
accepted_more hands s all_in names players accepted rejected entries now before written =
    let hand : HandAudit = Accepted s all_in names players in
    let in_all : accepted + rejected ≡ length hands = ap (λ (t : RunTotals). t.hands) before in
    let accepted_before : accepted ≡ count_by is_accepted hands = ap (λ (t : RunTotals). t.accepted) before in
    let rejected_before : rejected ≡ count_by (λ h. not (is_accepted h)) hands = ap (λ (t : RunTotals). t.rejected) before in
    let entries_before : entries ≡ (totals_of hands).players = ap (λ (t : RunTotals). t.players) before in
    let all_hands : accepted + 1 + rejected ≡ length (hands ++ hand ∷ []) = omega (arith, length-append hands (hand ∷ [])) in
    let all_accepted : accepted + 1 ≡ count_by is_accepted (hands ++ hand ∷ []) = omega (arith, sum_by_push (λ h. cond (is_accepted h) 1 0) hands hand) in
    let all_rejected : rejected ≡ count_by (λ h. not (is_accepted h)) (hands ++ hand ∷ []) = omega (arith, sum_by_push (λ h. cond (not (is_accepted h)) 1 0) hands hand) in
    let all_players : now ≡ (totals_of (hands ++ hand ∷ [])).players =
    written ∙ ap (λ some. with_given plus (sums_in hand) (with_players no_sums some (players_in hand))) entries_before ∙ players_more hands hand in
    λ i. record { hands = all_hands i; accepted = all_accepted i; rejected = all_rejected i; players = all_players i }
