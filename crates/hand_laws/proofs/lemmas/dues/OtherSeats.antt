-- Who isn't a player is due nothing of a hand, and got nothing: the players are due what all seats are.
use Rattle.std.proofs.Common.{◌≡◌, ℕ, zero, suc, ◌+◌, ◌<◌, List, [], ◌∷◌, refl, sym, ap, ◌∙◌, Bool, true, false, ◌==◌, ◌&&◌, arith}
use Rattle.std.specs.Prelude.{All, Option, Some, None, if◌then◌else◌, is_some, nat_lt, not}
use Rattle.std.specs.Int.{bit_at}
use Rattle.std.specs.List.{list_all, list_any}
use Rattle.std.proofs.lemmas.List.Sums.{sum_by-append, sum_by-cons}
use Rattle.std.proofs.lemmas.Nat.Bits.{bit_at-zero}
use Rattle.card_sets.specs.PlayerSetLaws.{has_player-where}
use Rattle.card_sets.specs.PlayerSets.{has_player, seats_in}
use Rattle.card_sets.specs.declared.games.Side.{Side}
use Rattle.pot_layers.specs.Eligible.{ExcludesFolded, is_contender}
use Rattle.pot_layers.specs.Pots.{pots}
use Rattle.pot_layers.specs.Split.{sides_won, shares, shares_from, side_share, high_half, low_half}
use Rattle.pot_layers.specs.declared.paid.Pot.{Pot}
use Rattle.pot_layers.specs.declared.paid.Share.{Share}
use Rattle.showdown_tally.specs.Showdown.{is_beaten_by, winners_of}
use Rattle.betting_replay.specs.Accounts.{paid_by}
use Rattle.betting_replay.specs.Table.{ReplayState}
use Rattle.hand_audit.specs.Settle.{Showing, Part, due_of_seat, first_side, first_winners, is_alone, is_checked, net_of, order_of, parts_of, second_side, second_winners, set_of, shares_alone, shares_among, shares_by, shares_if, shares_of_parts, shares_of_pot, side_winners, worth_on}
use Rattle.hand_audit.specs.Showings.{paid_from, paid_in}
use Rattle.hand_audit.specs.declared.pot_names.Source.{Source}
use Rattle.hand_audit.proofs.CallerLemmas.{among_filter, among_seats}

-- nobody who isn't a player is a contender
no_contender : (t : ReplayState) (p n q : ℕ) → has_player t.players q ≡ false → is_contender (paid_from t p n) q ≡ false
unfolding paid_by
no_contender t p zero q other = refl
no_contender t p (suc n) q other = by (has_player t.players p) (p == q) refl refl (no_contender t (p + 1) n q other)
  where
    by : (a b : Bool) → has_player t.players p ≡ a → (p == q) ≡ b → is_contender (paid_from t (p + 1) n) q ≡ false
        → is_contender (if a then paid_by t p ∷ paid_from t (p + 1) n else paid_from t (p + 1) n) q ≡ false
    by true true ea eb rest =
        let same : p ≡ q = grind (arith, eb) in
        let on : has_player t.players q ≡ true = ap (has_player t.players) (sym same) ∙ ea in cc
    by true false ea eb rest = rw eb rest
    by false b ea eb rest = rest

-- so he is eligible in no pot
pub no_pot : ExcludesFolded → (t : ReplayState) (q : ℕ) → has_player t.players q ≡ false → All (λ (pot : Pot). has_player pot.eligible q ≡ false) (pots (paid_in t))
unfolding paid_in
no_pot folded t q other = folded (paid_from t 1 10) q (no_contender t 1 10 q other)

-- who isn't eligible is none of the eligible seats, and wins no side
not_among : (eligible q : ℕ) → q < 11 → has_player eligible q ≡ false → list_any (λ p. p == q) (seats_in eligible) ≡ false
not_among eligible q l none = among_seats eligible q l ∙ both (nat_lt 0 q) (has_player eligible q) none
  where
    both : (a b : Bool) → b ≡ false → (a && b) ≡ false
    both true b e = e
    both false b e = refl

of_eligible : (eligible q : ℕ) → q < 11 → has_player eligible q ≡ false → has_player (set_of (seats_in eligible)) q ≡ false
of_eligible eligible q l none = has_player-where (λ p. list_any (λ r. r == p) (seats_in eligible)) 11 q l ∙ not_among eligible q l none

no_side : (side : Option Side) (s : Showing) (board : List ℕ) (eligible q : ℕ) → q < 11 → has_player eligible q ≡ false → has_player (side_winners side s board eligible) q ≡ false
no_side None s board eligible q l none = let z : bit_at 0 q ≡ 0 = bit_at-zero q in rw z refl
no_side (Some side) s board eligible q l none =
    let worth = worth_on (Some side) s board in
    let test = λ (i : ℕ). is_some (worth i) && list_all (λ j. not (is_beaten_by side (worth i) (worth j))) (seats_in eligible) in
    has_player-where (λ p. list_any (λ r. r == p) (winners_of side worth (seats_in eligible))) 11 q l
    ∙ among_filter test (seats_in eligible) q
    ∙ ap (λ b. b && test q) (not_among eligible q l none)

no_first : (s : Showing) (board : List ℕ) (eligible q : ℕ) → q < 11 → has_player eligible q ≡ false → has_player (first_winners s board eligible) q ≡ false
unfolding first_winners
no_first s board eligible q l none = no_side (first_side s.game) s board eligible q l none

no_second : (s : Showing) (board : List ℕ) (eligible q : ℕ) → q < 11 → has_player eligible q ≡ false → has_player (second_winners s board eligible) q ≡ false
unfolding second_winners
no_second s board eligible q l none = no_side (second_side s.game) s board eligible q l none

-- who wins no side has no share
no_share_from : (units high low : ℕ) (ho lo : List ℕ) (p n q : ℕ) → (sides_won high low q == 0) ≡ true → due_of_seat q (shares_from units high low ho lo p n) ≡ 0
no_share_from units high low ho lo p zero q none = refl
no_share_from units high low ho lo p (suc n) q none = by (sides_won high low p == 0) refl (no_share_from units high low ho lo (p + 1) n q none)
  where
    later : List Share
    later = shares_from units high low ho lo (p + 1) n

    here : Share
    here = record { seat = p; units = side_share (high_half units low) ho p + side_share (low_half units low) lo p; sides = sides_won high low p }

    by_seat : (b : Bool) → (p == q) ≡ b → (sides_won high low p == 0) ≡ false → (if b then here.units else 0) ≡ 0
    by_seat true e some = let same : p ≡ q = grind (arith, e) in let is : (sides_won high low p == 0) ≡ true = ap (λ r. sides_won high low r == 0) same ∙ none in cc
    by_seat false e some = refl

    by : (b : Bool) → (sides_won high low p == 0) ≡ b → due_of_seat q later ≡ 0 → due_of_seat q (if b then later else here ∷ later) ≡ 0
    by true e rest = rest
    by false e rest =
        let one = by_seat (p == q) refl e in
        let both = sum_by-cons (λ (x : Share). if x.seat == q then x.units else 0) here later in
        omega (arith, one, both, rest)

no_share : (units high low : ℕ) (ho lo : List ℕ) (q : ℕ) → has_player high q ≡ false → has_player low q ≡ false → due_of_seat q (shares units high low ho lo) ≡ 0
unfolding shares
no_share units high low ho lo q first second = no_share_from units high low ho lo 1 10 q (rw (first, second) refl)

no_part : (s : Showing) (eligible : ℕ) (part : Part) (q : ℕ) → q < 11 → has_player eligible q ≡ false → (b : Bool) → due_of_seat q (shares_among b s eligible part) ≡ 0
unfolding shares_alone shares_by
no_part s eligible part q l none true =
    let z : bit_at 0 q ≡ 0 = bit_at-zero q in
    no_share part.units (set_of (seats_in eligible)) 0 (seats_in eligible) [] q (of_eligible eligible q l none) (rw z refl)
no_part s eligible part q l none false =
    let first = first_winners s part.board eligible in
    let second = second_winners s part.board eligible in
    no_share part.units first second (order_of (first_side s.game) s part.board first) (order_of (second_side s.game) s part.board second) q
    (no_first s part.board eligible q l none) (no_second s part.board eligible q l none)

no_parts : (s : Showing) (eligible : ℕ) (parts : List Part) (q : ℕ) → q < 11 → has_player eligible q ≡ false → due_of_seat q (shares_of_parts s eligible parts) ≡ 0
no_parts s eligible [] q l none = refl
no_parts s eligible (part ∷ parts) q l none =
    let here = no_part s eligible part q l none (is_alone eligible) in
    let rest = no_parts s eligible parts q l none in
    let both = sum_by-append (λ (x : Share). if x.seat == q then x.units else 0) (shares_among (is_alone eligible) s eligible part) (shares_of_parts s eligible parts) in
    omega (arith, here, rest, both)

-- who isn't eligible in a pot is due nothing of it
pub no_due : (s : Showing) (source : Source) (pot : Pot) (q : ℕ) → q < 11 → has_player pot.eligible q ≡ false → due_of_seat q (shares_of_pot s source pot) ≡ 0
unfolding shares_of_pot
no_due s source pot q l none = by (is_checked s pot.eligible)
  where
    by : (b : Bool) → due_of_seat q (shares_if b s pot.eligible (parts_of s (net_of s source))) ≡ 0
    by true = no_parts s pot.eligible (parts_of s (net_of s source)) q l none
    by false = refl
