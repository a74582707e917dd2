-- The nets of a balance add up to minus the rakes.
use Rattle.std.proofs.Common.{◌≡◌, ℕ, suc, ◌+◌, ◌≤◌, Bool, true, false, cond, ◌&&◌, ◌||◌, ◌==◌, List, [], ◌∷◌, map, refl, sym, ap, ◌∙◌, arith}
use Rattle.std.specs.Prelude.{All, Err, None, Ok, Option, Result, Some, count_by, if◌then◌else◌}
use Rattle.std.specs.Bool.{beq}
use Rattle.std.specs.Cmp.Lexicographic.{nat_list_eq_equiv}
use Rattle.std.specs.List.{AllByRecursion, IsDistinct, flat_map, list_any, sum_by}
use Rattle.std.specs.Option.{option_map_or}
use Rattle.std.specs.Str.{bytes_eq}
use Rattle.std.proofs.lemmas.List.Folds.{list_any-append}
use Rattle.std.proofs.lemmas.List.Sums.{sum_by-cons}
use Rattle.card_sets.specs.PlayerSets.{seats_in}
use Rattle.history_text.specs.Headers.{header_of}
use Rattle.hand_events.specs.Names.{seat_named}
use Rattle.hand_events.specs.declared.events.Header.{Header}
use Rattle.hand_events.specs.declared.events.TextFault.{TextFault}
use Rattle.hand_audit.specs.Departs.{departs}
use Rattle.hand_laws.specs.Nets.{NetsAddUp}
use Rattle.hand_verdict.specs.SeatSums.{chips_at, got_of}
use Rattle.hand_audit.specs.SeatChips.{chips_of}
use Rattle.hand_audit.specs.Verdict.{audit_behind, audit_of, events_of}
use Rattle.hand_verdict.specs.declared.cause.Cause.{Cause}
use Rattle.hand_verdict.specs.declared.seat_chips.AuditedChips.{AuditedChips}
use Rattle.hand_verdict.specs.declared.seat_chips.SeatChips.{SeatChips}
use Rattle.hand_verdict.specs.declared.settlement.Settlement.{Settlement}
use Rattle.hand_verdict.specs.declared.verdicts.AllIn.{AllIn}
use Rattle.hand_verdict.specs.declared.verdicts.HandAudit.{HandAudit}
use Rattle.hand_verdict.specs.declared.verdicts.HandAudit.TheVariants.{Rejected, Accepted}
use Rattle.player_totals.specs.Balance.{audits_of, balance_by, balance_in, balance_of, balance_over, no_balance, seat_balance}
use Rattle.report_laws.specs.BalanceLaws.{AreNamed, HasNames, IsAudited, LosesRakes, counts_in, rake_of, rakes_in, rows_have}
use Rattle.report_laws.proofs.TotalLaws.{distinct_once}
use Rattle.even_luck.specs.Seats.{Seated}
use Rattle.player_totals.specs.Totals.{Player, all_players, players_in, playing, same_player}
use Rattle.player_totals.specs.TotalsSeen.{named_player}
use Rattle.player_totals.specs.declared.balance_sums.BalanceSums.{BalanceSums}
use Rattle.player_totals.proofs.CallerLemmas.{any_once, same_congr, same_name}

-- sums over players and over hands
no_sum : {A : Type 0} (f : A → ℕ) (xs : List A) → ((x : A) → f x ≡ 0) → sum_by f xs ≡ 0
no_sum f [] none = refl
no_sum f (x ∷ xs) none = let here = none x in let rest = no_sum f xs none in omega (arith, here, rest, sum_by-cons f x xs)

two_sums : {A : Type 0} (f g h : A → ℕ) (xs : List A) → ((x : A) → f x ≡ g x + h x) → sum_by f xs ≡ sum_by g xs + sum_by h xs
two_sums f g h [] is = refl
two_sums f g h (x ∷ xs) is =
    let here = is x in
    let rest = two_sums f g h xs is in
    omega (arith, here, rest, sum_by-cons f x xs, sum_by-cons g x xs, sum_by-cons h x xs)

when : Bool → ℕ → ℕ
when b n = if b then n else 0

-- what a hand gives the players of a unit, of some, of something
of_hand : Bool → (BalanceSums → ℕ) → List Player → AuditedChips → ℕ
of_hand unit figure xs hand = sum_by (λ p. when (beq p.hundredths unit) (figure (balance_in hand p))) xs

by_hands : (unit : Bool) (figure : BalanceSums → ℕ) (xs : List Player) (hands : List AuditedChips) →
    sum_by (λ p. when (beq p.hundredths unit) (sum_by (λ hand. figure (balance_in hand p)) hands)) xs ≡ sum_by (of_hand unit figure xs) hands
unfolding when of_hand
by_hands unit figure xs [] = no_sum _ xs (λ p. none (beq p.hundredths unit))
  where
    none : (b : Bool) → ◌≡◌ {A = ℕ} (if b then 0 else 0) 0
    none true = refl
    none false = refl
by_hands unit figure xs (hand ∷ hands) =
    let split = two_sums (λ p. when (beq p.hundredths unit) (sum_by (λ h. figure (balance_in h p)) (hand ∷ hands))) (λ p. when (beq p.hundredths unit) (figure (balance_in hand p)))
    (λ p. when (beq p.hundredths unit) (sum_by (λ h. figure (balance_in h p)) hands)) xs (λ p. both p (beq p.hundredths unit)) in
    let rest = by_hands unit figure xs hands in
    omega (arith, split, rest, sum_by-cons (of_hand unit figure xs) hand hands)
  where
    both : (p : Player) (b : Bool) → (if b then sum_by (λ h. figure (balance_in h p)) (hand ∷ hands) else 0) ≡ (if b then figure (balance_in hand p) else 0) + (if b then sum_by (λ h. figure (balance_in h p)) hands else 0)
    both p true = sum_by-cons (λ h. figure (balance_in h p)) hand hands
    both p false = refl

-- one of some players who are all different, by his name and unit
apart_from : (c : ℕ) (key x : Player) (xs : List Player) → same_player key x ≡ true → AllByRecursion (λ other. same_player x other ≡ false) xs → sum_by (λ p. when (same_player key p) c) xs ≡ 0
unfolding when
apart_from c key x [] same apart = refl
apart_from c key x (y ∷ ys) same apart =
    let other : same_player key y ≡ false = same_congr key x y same ∙ apart.0 in
    let here : (if same_player key y then c else 0) ≡ 0 = rw other refl in
    let rest = apart_from c key x ys same apart.1 in
    omega (arith, here, rest, sum_by-cons (λ p. when (same_player key p) c) y ys)

one_of : (c : ℕ) (key : Player) (xs : List Player) → IsDistinct same_player xs → list_any (same_player key) xs ≡ true → sum_by (λ p. when (same_player key p) c) xs ≡ c
unfolding IsDistinct when
one_of c key [] distinct there = cc
one_of c key (x ∷ xs) distinct there = by (same_player key x) refl there (λ later. one_of c key xs distinct.1 later)
  where
    step : sum_by (λ p. when (same_player key p) c) (x ∷ xs) ≡ when (same_player key x) c + sum_by (λ p. when (same_player key p) c) xs
    step = sum_by-cons (λ p. when (same_player key p) c) x xs

    by : (b : Bool) → same_player key x ≡ b → (b || list_any (same_player key) xs) ≡ true
        → (list_any (same_player key) xs ≡ true → sum_by (λ p. when (same_player key p) c) xs ≡ c) → sum_by (λ p. when (same_player key p) c) (x ∷ xs) ≡ c
    by true e h later =
        let here : when (same_player key x) c ≡ c = ap (λ b. when b c) e in
        let rest = apart_from c key x xs e distinct.0 in
        omega (arith, step, here, rest)
    by false e h later =
        let here : when (same_player key x) c ≡ 0 = ap (λ b. when b c) e in
        let rest = later h in
        omega (arith, step, here, rest)

-- nobody of some seats has a name that all of them are apart from
no_name : (name : List ℕ) (seated : Seated) → AllByRecursion (λ other. bytes_eq name other.1 ≡ false) seated → seat_named name seated ≡ None
no_name name [] apart = refl
no_name name (who ∷ seated) apart =
    let other : bytes_eq who.1 name ≡ false = nat_list_eq_equiv.symm who.1 name ∙ apart.0 in
    ap (λ b. cond b (Some who.0) (seat_named name seated)) other ∙ no_name name seated apart.1

-- what a player of a unit has by the seats of a hand of it
seat_term : (unit : Bool) → (ℕ → ℕ) → Seated → Player → ℕ
seat_term unit g seated p = when (beq p.hundredths unit) (option_map_or g (seat_named p.name seated) 0)

term_more : (unit : Bool) (g : ℕ → ℕ) (who : ℕ × List ℕ) (seated : Seated) (p : Player) → AllByRecursion (λ other. bytes_eq who.1 other.1 ≡ false) seated →
    seat_term unit g (who ∷ seated) p ≡ when (same_player (named_player unit who.1) p) (g who.0) + seat_term unit g seated p
unfolding seat_term when
term_more unit g who seated p apart = by_units unit p.hundredths
  where
    by_name : (b : Bool) → bytes_eq who.1 p.name ≡ b → option_map_or g (if b then Some who.0 else seat_named p.name seated) 0 ≡ (if b then g who.0 else 0) + option_map_or g (seat_named p.name seated) 0
    by_name true e =
        let same : who.1 ≡ p.name = (same_name true true who.1 p.name e).1 in
        let none : seat_named p.name seated ≡ None = ap (λ name. seat_named name seated) (sym same) ∙ no_name who.1 seated apart in
        let nothing : option_map_or g (seat_named p.name seated) 0 ≡ 0 = ap (λ o. option_map_or g o 0) none in
        omega (arith, nothing)
    by_name false e = omega arith

    by_units : (u h : Bool) → (if beq h u then option_map_or g (if bytes_eq who.1 p.name then Some who.0 else seat_named p.name seated) 0 else 0)
        ≡ (if beq u h && bytes_eq who.1 p.name then g who.0 else 0) + (if beq h u then option_map_or g (seat_named p.name seated) 0 else 0)
    by_units true true = by_name (bytes_eq who.1 p.name) refl
    by_units false false = by_name (bytes_eq who.1 p.name) refl
    by_units true false = refl
    by_units false true = refl

-- over all players, where those of the hand are among them
abbrev AreThere : Bool → Seated → List Player → Type 0
AreThere unit seated xs = AllByRecursion (λ who. list_any (same_player (named_player unit who.1)) xs ≡ true) seated

seated_sum : (unit : Bool) (g : ℕ → ℕ) (xs : List Player) → IsDistinct same_player xs → (seated : Seated) → IsDistinct (λ a b. bytes_eq a.1 b.1) seated → AreThere unit seated xs →
    sum_by (seat_term unit g seated) xs ≡ sum_by (λ who. g who.0) seated
unfolding seat_term IsDistinct when
seated_sum unit g xs distinct [] apart there = no_sum _ xs (λ p. none (beq p.hundredths unit))
  where
    none : (b : Bool) → ◌≡◌ {A = ℕ} (if b then 0 else 0) 0
    none true = refl
    none false = refl
seated_sum unit g xs distinct (who ∷ seated) apart there =
    let split = two_sums (seat_term unit g (who ∷ seated)) (λ p. when (same_player (named_player unit who.1) p) (g who.0)) (seat_term unit g seated) xs (λ p. term_more unit g who seated p apart.0) in
    let own = one_of (g who.0) (named_player unit who.1) xs distinct there.0 in
    let rest = seated_sum unit g xs distinct seated apart.1 there.1 in
    omega (arith, split, own, rest, sum_by-cons (λ (w : ℕ × List ℕ). g w.0) who seated)

-- a name in a unit is itself, and those of a hand are among all where all of its players are
same_self : (key : Player) → same_player key key ≡ true
same_self key = by key.hundredths
  where
    by : (b : Bool) → (beq b b && bytes_eq key.name key.name) ≡ true
    by true = nat_list_eq_equiv.refl key.name
    by false = nat_list_eq_equiv.refl key.name

or_right : (a b : Bool) → b ≡ true → (a || b) ≡ true
or_right true b e = refl
or_right false b e = e

or_left : (a b : Bool) → a ≡ true → (a || b) ≡ true
or_left true b e = refl
or_left false b e = cc

all_there : (unit : Bool) (seated : Seated) (xs : List Player) →
    ((key : Player) → list_any (same_player key) (map (λ who. named_player unit who.1) seated) ≡ true → list_any (same_player key) xs ≡ true) → AreThere unit seated xs
all_there unit [] xs among = tt
all_there unit (who ∷ seated) xs among =
    (among (named_player unit who.1) (or_left _ _ (same_self (named_player unit who.1))), all_there unit seated xs (λ key later. among key (or_right (same_player key (named_player unit who.1)) _ later)))

-- what a hand has by its names of something
named_have : (BalanceSums → ℕ) → HandAudit → List SeatChips → ℕ
named_have figure (Rejected line cause unit) chips = 0
named_have figure (Accepted s all_in names players) chips = sum_by (λ who. figure (seat_balance s all_in chips who.0)) (playing names players)

figure_or : (figure : BalanceSums → ℕ) → figure no_balance ≡ 0 → (sums : ℕ → BalanceSums) (o : Option ℕ) → figure (option_map_or sums o no_balance) ≡ option_map_or (λ q. figure (sums q)) o 0
figure_or figure nothing sums None = nothing
figure_or figure nothing sums (Some q) = refl

unit_term : (figure : BalanceSums → ℕ) → figure no_balance ≡ 0 → (sums : ℕ → BalanceSums) (seated : Seated) (u h : Bool) (p : Player) →
    when (beq p.hundredths u) (figure (if beq p.hundredths h then option_map_or sums (seat_named p.name seated) no_balance else no_balance))
    ≡ when (beq u h) (seat_term h (λ q. figure (sums q)) seated p)
unfolding when seat_term
unit_term figure nothing sums seated u h p = by u h p.hundredths (figure_or figure nothing sums (seat_named p.name seated))
  where
    x : BalanceSums
    x = option_map_or sums (seat_named p.name seated) no_balance

    y : ℕ
    y = option_map_or (λ q. figure (sums q)) (seat_named p.name seated) 0

    by : (u h b : Bool) → figure x ≡ y → (if beq b u then figure (if beq b h then x else no_balance) else 0) ≡ (if beq u h then (if beq b h then y else 0) else 0)
    by true true true is = is
    by true true false is = refl
    by true false true is = nothing
    by true false false is = refl
    by false true true is = refl
    by false true false is = nothing
    by false false true is = refl
    by false false false is = is

pulled : (b : Bool) (f : Player → ℕ) (xs : List Player) → sum_by (λ p. when b (f p)) xs ≡ when b (sum_by f xs)
unfolding when
pulled true f xs = refl
pulled false f xs = no_sum _ xs (λ p. refl)

-- so has a hand by all players of the unit
hand_has : (unit : Bool) (figure : BalanceSums → ℕ) → figure no_balance ≡ 0 → (xs : List Player) → IsDistinct same_player xs → (audit : HandAudit) (chips : List SeatChips) → HasNames audit →
    ((key : Player) → list_any (same_player key) (players_in audit) ≡ true → list_any (same_player key) xs ≡ true) →
    sum_by (λ p. when (beq p.hundredths unit) (figure (balance_by audit chips p))) xs ≡ when (counts_in unit audit) (named_have figure audit chips)
unfolding when named_have
hand_has unit figure nothing xs distinct (Rejected line cause u) chips named among = no_sum _ xs (λ p. none (beq p.hundredths unit))
  where
    none : (b : Bool) → (if b then figure no_balance else 0) ≡ 0
    none true = nothing
    none false = refl
hand_has unit figure nothing xs distinct (Accepted s all_in names players) chips named among =
    let h = s.hundredths in
    let seated = playing names players in
    let sums = seat_balance s all_in chips in
    let each = λ (p : Player). unit_term figure nothing sums seated unit h p in
    let own = seated_sum h (λ q. figure (sums q)) xs distinct seated named.apart (all_there h seated xs among) in
    (λ i. sum_by (λ p. each p i) xs) ∙ pulled (beq unit h) (seat_term h (λ q. figure (sums q)) seated) xs ∙ ap (when (beq unit h)) own

-- and so have all hands
abbrev have_names : List AuditedChips → Type 0
have_names hands = AllByRecursion (λ (hand : AuditedChips). HasNames hand.audit) hands

abbrev hand_part : Bool → (BalanceSums → ℕ) → AuditedChips → ℕ
hand_part unit figure hand = when (counts_in unit hand.audit) (named_have figure hand.audit hand.chips)

hands_have : (unit : Bool) (figure : BalanceSums → ℕ) → figure no_balance ≡ 0 → (xs : List Player) → IsDistinct same_player xs → (hands : List AuditedChips) → have_names hands →
    ((key : Player) → list_any (same_player key) (flat_map players_in (audits_of hands)) ≡ true → list_any (same_player key) xs ≡ true) →
    sum_by (of_hand unit figure xs) hands ≡ sum_by (hand_part unit figure) hands
unfolding of_hand
hands_have unit figure nothing xs distinct [] named among = refl
hands_have unit figure nothing xs distinct (hand ∷ hands) named among =
    let split = λ (key : Player). list_any-append (same_player key) (players_in hand.audit) (flat_map players_in (audits_of hands)) in
    let here = hand_has unit figure nothing xs distinct hand.audit hand.chips named.0 (λ key there. among key (split key ∙ or_left _ _ there)) in
    let rest = hands_have unit figure nothing xs distinct hands named.1 (λ key there. among key (split key ∙ or_right (list_any (same_player key) (players_in hand.audit)) _ there)) in
    omega (arith, here, rest, sum_by-cons (of_hand unit figure xs) hand hands, sum_by-cons (hand_part unit figure) hand hands)

-- the rows of a unit, by the hands
rows_by : (unit : Bool) (figure : BalanceSums → ℕ) (sums : Player → BalanceSums) (xs : List Player) →
    rows_have unit figure (map (λ player. let row : Player × BalanceSums = (player, sums player) in row) xs) ≡ sum_by (λ p. when (beq p.hundredths unit) (figure (sums p))) xs
unfolding when
rows_by unit figure sums [] = refl
rows_by unit figure sums (p ∷ xs) =
    let row : Player × BalanceSums = (p, sums p) in
    omega (
      arith,
      rows_by unit figure sums xs,
      sum_by-cons (λ (r : Player × BalanceSums). if beq r.0.hundredths unit then figure r.1 else 0) row (map (λ player. let row : Player × BalanceSums = (player, sums player) in row) xs),
      sum_by-cons (λ (q : Player). if beq q.hundredths unit then figure (sums q) else 0) p xs,
    )

rows_are : (unit : Bool) (figure : BalanceSums → ℕ) → figure no_balance ≡ 0 → (hands : List AuditedChips) → have_names hands → ((p : Player) → figure (balance_over hands p) ≡ sum_by (λ hand. figure (balance_in hand p)) hands) →
    rows_have unit figure (balance_of hands).players ≡ sum_by (hand_part unit figure) hands
rows_are unit figure nothing hands named over =
    let xs = all_players (audits_of hands) in
    rows_by unit figure (balance_over hands) xs
    ∙ (λ i. sum_by (λ p. when (beq p.hundredths unit) (over p i)) xs)
    ∙ by_hands unit figure xs hands
    ∙ hands_have unit figure nothing xs (distinct_once (flat_map players_in (audits_of hands))) hands named (λ key there. any_once key (flat_map players_in (audits_of hands)) ∙ there)

-- sums over lists in which each number stands as often
count : ℕ → List ℕ → ℕ
count q xs = count_by (λ x. x == q) xs

without : ℕ → List ℕ → List ℕ
without q [] = []
without q (x ∷ xs) = if x == q then xs else x ∷ without q xs

record IsTakenOut (f : ℕ → ℕ) (q : ℕ) (xs : List ℕ) : Type 0 where
  sum : sum_by f xs ≡ f q + sum_by f (without q xs)
  counts : (r : ℕ) → count r xs ≡ cond (q == r) 1 0 + count r (without q xs)

taken_out : (f : ℕ → ℕ) (q : ℕ) (xs : List ℕ) → 1 ≤ count q xs → IsTakenOut f q xs
unfolding count without
taken_out f q [] some = absurd (omega arith)
taken_out f q (x ∷ xs) some = by (x == q) refl (λ more. taken_out f q xs more)
  where
    step : (r : ℕ) → count r (x ∷ xs) ≡ cond (x == r) 1 0 + count r xs
    step r = sum_by-cons (λ y. cond (y == r) 1 0) x xs

    more : sum_by f (x ∷ xs) ≡ f x + sum_by f xs
    more = sum_by-cons f x xs

    later : (x == q) ≡ false → 1 ≤ count q xs
    later e = let here : ◌≡◌ {A = ℕ} (cond (x == q) 1 0) 0 = ap (λ b. cond b 1 0) e in omega (arith, some, step q, here)

    by : (b : Bool) → (x == q) ≡ b → (1 ≤ count q xs → IsTakenOut f q xs) → IsTakenOut f q (x ∷ xs)
    by true e go =
        let same : x ≡ q = grind (arith, e) in
        let out : without q (x ∷ xs) ≡ xs = rw e refl in
        record {
          sum = more ∙ (λ i. f (same i) + sum_by f xs) ∙ ap (λ ys. f q + sum_by f ys) (sym out);
          counts = λ r. step r ∙ (λ i. cond (same i == r) 1 0 + count r xs) ∙ ap (λ ys. cond (q == r) 1 0 + count r ys) (sym out);
        }
    by false e go =
        let out : without q (x ∷ xs) ≡ x ∷ without q xs = rw e refl in
        let rest = go (later e) in
        let rest_sum = rest.sum in
        record {
          sum = (let cons = sum_by-cons f x (without q xs) in let whole : sum_by f (x ∷ xs) ≡ f q + sum_by f (x ∷ without q xs) = omega (arith, more, rest_sum, cons) in whole) ∙ ap (λ ys. f q + sum_by f ys) (sym out);
          counts = λ r. (let one = rest.counts r in let first = step r in let cons = sum_by-cons (λ y. cond (y == r) 1 0) x (without q xs) in
              let whole : count r (x ∷ xs) ≡ cond (q == r) 1 0 + count r (x ∷ without q xs) = omega (arith, one, first, cons) in whole) ∙ ap (λ ys. cond (q == r) 1 0 + count r ys) (sym out);
        }

as_often : (f : ℕ → ℕ) (xs : Seated) (ys : List ℕ) → ((q : ℕ) → count_by (λ who. who.0 == q) xs ≡ count q ys) → sum_by (λ who. f who.0) xs ≡ sum_by f ys
unfolding count
as_often f [] [] same = refl
as_often f [] (y ∷ ys) same =
    let none = same y in
    let step = sum_by-cons (λ x. cond (x == y) 1 0) y ys in
    let here : ◌≡◌ {A = ℕ} (cond (y == y) 1 0) 1 = (let e : (y == y) ≡ true = grind arith in ap (λ b. cond b 1 0) e) in
    absurd (omega (arith, none, step, here))
as_often f (who ∷ xs) ys same =
    let q = who.0 in
    let step = λ (r : ℕ). sum_by-cons (λ (w : ℕ × List ℕ). cond (w.0 == r) 1 0) who xs in
    let here : ◌≡◌ {A = ℕ} (cond (q == q) 1 0) 1 = (let e : (q == q) ≡ true = grind arith in ap (λ b. cond b 1 0) e) in
    let some : 1 ≤ count q ys = (let a = same q in let b = step q in omega (arith, a, b, here)) in
    let out = taken_out f q ys some in
    let rest = as_often f xs (without q ys) (λ r. let a = same r in let b = step r in let c = out.counts r in omega (arith, a, b, c)) in
    let whole = out.sum in
    omega (arith, rest, whole, sum_by-cons (λ (w : ℕ × List ℕ). f w.0) who xs)

-- a hand of some lines, whose players put in what they got and its rake
abbrev pub AddUp : Type 0
AddUp = (number : ℕ) (line : List ℕ) (lines : List (List ℕ)) (g : Header) → header_of line ≡ Ok g → (settlement : Settlement) (all_in : AllIn) (names : List (ℕ × List ℕ)) (players : ℕ)
    → audit_of number (line ∷ lines) ≡ Some (Accepted settlement all_in names players) → NetsAddUp g (events_of g lines) settlement players (chips_of (Accepted settlement all_in names players) (line ∷ lines))

accepted_even : AddUp → (number : ℕ) (lines : List (List ℕ)) (s : Settlement) (all_in : AllIn) (names : Seated) (players : ℕ) (chips : List SeatChips) →
    audit_of number lines ≡ Some (Accepted s all_in names players) → chips ≡ chips_of (Accepted s all_in names players) lines → AreNamed names players →
    sum_by (λ who. (chips_at chips who.0).put) (playing names players) ≡ sum_by (λ who. got_of s who.0) (playing names players) + s.rake
unfolding count
accepted_even law number [] s all_in names players chips is of_lines named = cc
accepted_even law number (line ∷ lines) s all_in names players chips is of_lines named = by (header_of line) refl is
  where
    none : (f : TextFault) (o : Option (ℕ × Cause)) → audit_behind number lines (Err f) o ≡ Some (Accepted s all_in names players) → ⊥
    none f None h = cc
    none f (Some at) h = cc

    by : (r : Result Header TextFault) → header_of line ≡ r → audit_behind number lines r (departs number (line ∷ lines)) ≡ Some (Accepted s all_in names players) →
        sum_by (λ who. (chips_at chips who.0).put) (playing names players) ≡ sum_by (λ who. got_of s who.0) (playing names players) + s.rake
    by (Err f) e h = absurd (none f (departs number (line ∷ lines)) h)
    by (Ok g) e h =
        let nets = law number line lines g e s all_in names players is in
        let whole : sum_by (λ p. (chips_at chips p).put) (seats_in players) ≡ sum_by (λ p. got_of s p) (seats_in players) + s.rake
        = ap (λ c. sum_by (λ p. (chips_at c p).put) (seats_in players)) of_lines ∙ nets.whole in
        let puts = as_often (λ p. (chips_at chips p).put) (playing names players) (seats_in players) named.each in
        let gots = as_often (λ p. got_of s p) (playing names players) (seats_in players) named.each in
        omega (arith, whole, puts, gots)

hand_even : AddUp → (unit : Bool) (number : ℕ) (lines : List (List ℕ)) (audit : HandAudit) (chips : List SeatChips) → audit_of number lines ≡ Some audit → chips ≡ chips_of audit lines → HasNames audit →
    when (counts_in unit audit) (named_have (λ sums. sums.put) audit chips) ≡ when (counts_in unit audit) (named_have (λ sums. sums.got) audit chips) + (if counts_in unit audit then rake_of audit else 0)
unfolding when named_have
hand_even law unit number lines (Rejected line cause u) chips is of_lines named = refl
hand_even law unit number lines (Accepted s all_in names players) chips is of_lines named = by (beq unit s.hundredths) (accepted_even law number lines s all_in names players chips is of_lines named)
  where
    put : ℕ
    put = sum_by (λ who. (chips_at chips who.0).put) (playing names players)

    got : ℕ
    got = sum_by (λ who. got_of s who.0) (playing names players)

    by : (b : Bool) → put ≡ got + s.rake → (if b then put else 0) ≡ (if b then got else 0) + (if b then s.rake else 0)
    by true even = even
    by false even = refl

each_named : (hands : List AuditedChips) → All IsAudited hands → have_names hands
each_named [] all = tt
each_named (hand ∷ hands) all = ((all 0 hand (omega arith)).named, each_named hands (λ i d l. all (suc i) d (omega (arith, l))))

each_even : AddUp → (unit : Bool) (hands : List AuditedChips) → All IsAudited hands →
    sum_by (hand_part unit (λ sums. sums.put)) hands ≡ sum_by (hand_part unit (λ sums. sums.got)) hands + rakes_in unit hands
each_even law unit [] all = refl
each_even law unit (hand ∷ hands) all =
    let a = all 0 hand (omega arith) in
    let here = hand_even law unit a.number a.lines hand.audit hand.chips a.verdict a.chips a.named in
    let rest = each_even law unit hands (λ i d l. all (suc i) d (omega (arith, l))) in
    omega (
      arith,
      here,
      rest,
      sum_by-cons (hand_part unit (λ sums. sums.put)) hand hands,
      sum_by-cons (hand_part unit (λ sums. sums.got)) hand hands,
      sum_by-cons (λ (h : AuditedChips). if counts_in unit h.audit then rake_of h.audit else 0) hand hands,
    )

pub loses_rakes : AddUp → (hands : List AuditedChips) → All IsAudited hands → LosesRakes hands
loses_rakes law hands all unit =
    let named = each_named hands all in
    let puts = rows_are unit (λ sums. sums.put) refl hands named (λ p. refl) in
    let gots = rows_are unit (λ sums. sums.got) refl hands named (λ p. refl) in
    let even = each_even law unit hands all in
    omega (arith, puts, gots, even)
