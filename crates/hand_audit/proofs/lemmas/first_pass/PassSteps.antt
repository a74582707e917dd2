-- What a line makes of the first pass, and what it has found at the end.
use Rattle.std.proofs.Common.{◌≡◌, ℕ, ◌<◌, ◌≤◌, arith, List, [], ◌∷◌, refl, sym, ap, ◌∙◌, subst, Bool, true, false, ◌==◌, ◌||◌}
use Rattle.std.proofs.lemmas.List.Folds.{list_any-append}
use Rattle.std.specs.BTreeSet.{BTreeSet, UpdatesBy, contains_by}
use Rattle.std.specs.BTreeMap.{is_at as is_at_key}
use Rattle.std.specs.Cmp.Lexicographic.{slice_cmp}
use denote.Ref.{Bor}
use Rattle.std.specs.List.{list_any}
use Rattle.std.specs.Ordering.{nat_cmp}
use Rattle.std.specs.Prelude.{Option, cond, option_map, Some, None, Ok, Err, nat_lt}
use Rattle.card_sets.specs.PlayerSetLaws.{has_player-above, has_player-where, players_where-same, players_where-small, same_players}
use Rattle.card_sets.specs.PlayerSets.{has_player, with_player}
use Rattle.hand_events.specs.declared.events.Header.{Header}
use Rattle.hand_events.specs.declared.events.Event.{Event}
use Rattle.hand_events.specs.declared.events.Part.{Part}
use Rattle.hand_events.specs.declared.events.TextFault.{TextFault}
use Rattle.history_text.specs.Lines.{line_event}
use Rattle.betting_replay.specs.Events.{SeatFits}
use Rattle.betting_replay.specs.Places.{is_at}
use Rattle.hand_audit.specs.declared.first_pass.PlayerScan.{PlayerScan}
use Rattle.hand_audit.specs.Lines.{SoFar, nothing, part_of, part_after, read_at, named_by, with_event, with_line, with_line_by, seat_at, is_again, with_seat, player_of, plays, players_in, players_of, read_events}
use Rattle.hand_audit.specs.Passing.{HasNumbers, Passes, Took, digits_text}
use Rattle.hand_audit.proofs.lemmas.lines.LineSteps.{seats_more}
use Rattle.hand_audit.proofs.lemmas.first_pass.SeatDigits.{same_text, set_has}

-- the seat of an event plays
pub noted_some : (players : ℕ) (e : Event) (h : List Event) (s : ℕ) → player_of e ≡ Some s → s < 11 → players ≡ players_in h → with_player players s ≡ players_in (e ∷ h)
unfolding with_player
noted_some players e h s is small old =
    same_players 16 (with_player players s) (players_in (e ∷ h)) (players_where-small (λ p. (p == s) || has_player players p) 16) (let l = players_where-small (plays (e ∷ h)) 11 in omega (arith, l))
    (λ p l. has_player-where (λ q. (q == s) || has_player players q) 16 p l ∙ by p (nat_lt p 11) refl)
  where
    turned : (a b : ℕ) → (a == b) ≡ (b == a)
    turned a b = grind arith

    by : (p : ℕ) (b : Bool) → nat_lt p 11 ≡ b → ((p == s) || has_player players p) ≡ has_player (players_in (e ∷ h)) p
    by p true low =
        let l : p < 11 = grind arith in
        let was : has_player players p ≡ plays h p = ap (λ n. has_player n p) old ∙ has_player-where (plays h) 11 p l in
        let now : has_player (players_in (e ∷ h)) p ≡ ((s == p) || plays h p) = has_player-where (plays (e ∷ h)) 11 p l ∙ ap (λ o. is_at p o || plays h p) is in
        ap (λ b. (p == s) || b) was ∙ ap (λ b. b || plays h p) (turned p s) ∙ sym now
    by p false high =
        let l : 11 ≤ p = grind arith in
        let other : (p == s) ≡ false = grind arith in
        let was : has_player players p ≡ false = ap (λ n. has_player n p) old ∙ has_player-above (players_in h) 11 p (players_where-small (plays h) 11) l in
        rw (other, was) (sym (has_player-above (players_in (e ∷ h)) 11 p (players_where-small (plays (e ∷ h)) 11) l))

pub noted_none : (players : ℕ) (e : Event) (h : List Event) → player_of e ≡ None → players ≡ players_in h → players ≡ players_in (e ∷ h)
noted_none players e h is old = old ∙ players_where-same (plays h) (plays (e ∷ h)) 11 (λ p l. sym (ap (λ o. is_at p o || plays h p) is))

-- the numbers of a set that has none, and one more
pub has_none : (set : BTreeSet (Bor (List ℕ))) → set.keys ≡ [] → HasNumbers set []
has_none set is n = ap (λ keys. list_any (is_at_key (λ k. slice_cmp nat_cmp (digits_text n) k.now)) keys) is

pub has_more : (old new : BTreeSet (Bor (List ℕ))) (before : List ℕ) (seat : ℕ) → UpdatesBy (λ x y. slice_cmp nat_cmp x.now y.now) (λ k. slice_cmp nat_cmp (digits_text seat) k.now) old new true
    → HasNumbers old before → HasNumbers new (with_seat before (Some seat))
has_more old new before seat updates has n =
    set_has old new (digits_text seat) updates (digits_text n) ∙ ap (λ a. cond a true (contains_by (λ k. slice_cmp nat_cmp (digits_text n) k.now) old)) (same_text seat n)
    ∙ ap (cond (seat == n) true) (has n) ∙ either (seat == n) (list_any (λ s. s == n) before) ∙ sym (list_any-append (λ s. s == n) before (seat ∷ []))
  where
    either : (a b : Bool) → cond a true b ≡ (b || (a || false))
    either true true = refl
    either true false = refl
    either false true = refl
    either false false = refl

-- a text that says a number, looked for in the set and added to it
pub again_of : (set : BTreeSet (Bor (List ℕ))) (before : List ℕ) (text : List ℕ) (number : Option ℕ) → Some text ≡ option_map digits_text number → HasNumbers set before
    → contains_by (λ k. slice_cmp nat_cmp text k.now) set ≡ is_again before number
again_of set before text None e has = cc
again_of set before text (Some n) e has =
    let same : text ≡ digits_text n = (let said : Some text ≡ Some (digits_text n) = e in cc) in
    subst (λ t. contains_by (λ k. slice_cmp nat_cmp t k.now) set ≡ is_again before (Some n)) (sym same) (has n)

pub noted_of : (old new : BTreeSet (Bor (List ℕ))) (before : List ℕ) (text : List ℕ) (number : Option ℕ) → Some text ≡ option_map digits_text number
    → UpdatesBy (λ x y. slice_cmp nat_cmp x.now y.now) (λ k. slice_cmp nat_cmp text k.now) old new true → HasNumbers old before → HasNumbers new (with_seat before number)
noted_of old new before text None e updates has = (let no : Some text ≡ None = e in cc)
noted_of old new before text (Some n) e updates has =
    let same : text ≡ digits_text n = (let said : Some text ≡ Some (digits_text n) = e in cc) in
    has_more old new before n (subst (λ t. UpdatesBy (λ x y. slice_cmp nat_cmp x.now y.now) (λ k. slice_cmp nat_cmp t k.now) old new true) same updates) has

-- what a line makes of the pass
read_is : (pass : PlayerScan) (g : Header) (so_far : SoFar) (seats : List ℕ) (line : List ℕ) → Passes pass so_far seats → line_event pass.names g pass.part line ≡ read_at g so_far line
unfolding read_at
read_is pass g so_far seats line k = rw (k.names, k.part) refl

again_is : (pass : PlayerScan) (so_far : SoFar) (seats : List ℕ) (line : List ℕ) (b : Bool) → Passes pass so_far seats → is_again seats (seat_at pass.part line) ≡ b → is_again seats (seat_at (part_of so_far.events) line) ≡ b
again_is pass so_far seats line b k is = rw (← k.part) is

seats_are : (pass new : PlayerScan) (so_far : SoFar) (seats : List ℕ) (line : List ℕ) → Passes pass so_far seats → HasNumbers new.seats (with_seat seats (seat_at pass.part line)) → HasNumbers new.seats (with_seat seats (seat_at (part_of so_far.events) line))
seats_are pass new so_far seats line k is = subst (λ (p : Part). HasNumbers new.seats (with_seat seats (seat_at p line))) k.part is

pub took_again : (pass : PlayerScan) (g : Header) (so_far : SoFar) (seats : List ℕ) (line : List ℕ) → Passes pass so_far seats → is_again seats (seat_at pass.part line) ≡ true → Took pass g so_far seats line true
took_again pass g so_far seats line k is = (again_is pass so_far seats line true k is, k)

pub took_fault : (pass new : PlayerScan) (g : Header) (so_far : SoFar) (seats : List ℕ) (line : List ℕ) (f : TextFault) → Passes pass so_far seats → is_again seats (seat_at pass.part line) ≡ false
    → HasNumbers new.seats (with_seat seats (seat_at pass.part line)) → new.names ≡ pass.names → new.part ≡ pass.part → new.players ≡ pass.players
    → line_event pass.names g pass.part line ≡ Err f → Took new g so_far seats line false
took_fault pass new g so_far seats line f k again more names part players is =
    let same : with_line g so_far line ≡ so_far = ap (with_line_by line so_far) (sym (read_is pass g so_far seats line k) ∙ is) in (
      again_is pass so_far seats line false k again,
      subst (λ (t : SoFar). Passes new t (with_seat seats (seat_at (part_of so_far.events) line))) (sym same)
          (record { names = names ∙ k.names; part = part ∙ k.part; players = players ∙ k.players; seats = seats_are pass new so_far seats line k more; seated = k.seated }),
    )

pub took_event : (pass new : PlayerScan) (g : Header) (so_far : SoFar) (seats : List ℕ) (line : List ℕ) (e : Event) → Passes pass so_far seats → is_again seats (seat_at pass.part line) ≡ false
    → HasNumbers new.seats (with_seat seats (seat_at pass.part line)) → new.names ≡ named_by e line pass.names → new.part ≡ part_after e pass.part
    → ((h : List Event) → pass.players ≡ players_in h → new.players ≡ players_in (e ∷ h)) → SeatFits e
    → line_event pass.names g pass.part line ≡ Ok e → Took new g so_far seats line false
took_event pass new g so_far seats line e k again more names part players fits is =
    let same : with_line g so_far line ≡ with_event line e so_far = ap (with_line_by line so_far) (sym (read_is pass g so_far seats line k) ∙ is) in (
      again_is pass so_far seats line false k again,
      subst (λ (t : SoFar). Passes new t (with_seat seats (seat_at (part_of so_far.events) line))) (sym same)
          (record {
            names = names ∙ ap (named_by e line) k.names;
            part = part ∙ ap (part_after e) k.part;
            players = players so_far.events k.players;
            seats = seats_are pass new so_far seats line k more;
            seated = seats_more e line so_far.names fits k.seated;
          }),
    )

-- after some of the lines, with those that are left
pub record Passing (pass : PlayerScan) (g : Header) (all left : List (List ℕ)) : Type 0 where
  pub so_far : SoFar
  pub seats : List ℕ
  pub keeps : Passes pass so_far seats
  pub same : read_events g nothing [] all ≡ read_events g so_far seats left

pub passing_more : (pass new : PlayerScan) (g : Header) (all : List (List ℕ)) (line : List ℕ) (left left' : List (List ℕ)) (r : Passing pass g all left') → left' ≡ line ∷ left → Took new g r.so_far r.seats line false → Passing new g all left
passing_more pass new g all line left left' r is took =
    let here : read_events g r.so_far r.seats (line ∷ left) ≡ read_events g (with_line g r.so_far line) (with_seat r.seats (seat_at (part_of r.so_far.events) line)) left = rw took.0 refl in
    record { so_far = with_line g r.so_far line; seats = with_seat r.seats (seat_at (part_of r.so_far.events) line); keeps = took.1; same = r.same ∙ ap (read_events g r.so_far r.seats) is ∙ here }

are_players : (g : Header) (all : List (List ℕ)) (players : ℕ) (h : List Event) (n : ℕ) → read_events g nothing [] all ≡ h → players ≡ players_in h → n ≡ players → n ≡ players_of g all
unfolding players_of
are_players g all players h n is are n_is = n_is ∙ are ∙ ap players_in (sym is)

pub passing_again : (pass new : PlayerScan) (g : Header) (all : List (List ℕ)) (line : List ℕ) (left left' : List (List ℕ)) (n : ℕ) (r : Passing pass g all left') → left' ≡ line ∷ left → Took new g r.so_far r.seats line true
    → n ≡ new.players → n ≡ players_of g all
passing_again pass new g all line left left' n r is took n_is =
    let here : read_events g r.so_far r.seats (line ∷ left) ≡ r.so_far.events = rw took.0 refl in
    are_players g all new.players r.so_far.events n (r.same ∙ ap (read_events g r.so_far r.seats) is ∙ here) took.1.players n_is

pub passing_end : (pass : PlayerScan) (g : Header) (all left : List (List ℕ)) (n : ℕ) (r : Passing pass g all left) → left ≡ [] → n ≡ pass.players → n ≡ players_of g all
passing_end pass g all left n r is n_is = are_players g all pass.players r.so_far.events n (r.same ∙ ap (read_events g r.so_far r.seats) is) r.keeps.players n_is
