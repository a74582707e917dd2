-- An accepted hand keeps its chips: `law_chips_are_kept`.
use Rattle.std.proofs.Common.{◌≡◌, ℕ, ◌+◌, ◌≤◌, List, refl, ap, ◌∙◌, true, arith, ◌∷◌, subst}
use Rattle.std.specs.Prelude.{None, Some, Ok}
use Rattle.std.specs.List.{list_any}
use Rattle.hand_events.specs.declared.events.Header.{Header}
use Rattle.hand_events.specs.declared.events.Event.{Event}
use Rattle.history_text.specs.Headers.{header_of}
use Rattle.betting_replay.specs.Accepted.{opening}
use Rattle.betting_replay.specs.Sums.{paid, dead}
use Rattle.betting_replay.proofs.CallerLemmas.{chips_stay}
use Rattle.hand_audit.specs.Lines.{SoFar, nothing}
use Rattle.hand_audit.specs.Collections.{taken, collections}
use Rattle.hand_audit.specs.Showings.{rake}
use Rattle.hand_audit.specs.Departs.{is_total, departs_from, put_in_by, collected}
use Rattle.hand_audit.specs.Verdict.{read_all, events_of, audit_of}
use Rattle.hand_laws.specs.Chips.{KeepsChips, sum_from, over_seats, closing, collected_at}
use Rattle.hand_verdict.specs.declared.verdicts.AllIn.{AllIn}
use Rattle.hand_verdict.specs.declared.verdicts.HandAudit.TheVariants.{Accepted}
use Rattle.hand_verdict.specs.declared.settlement.Settlement.{Settlement}
use Rattle.hand_laws.proofs.lemmas.chips.AllPutIn.{Idle, put_is_sum, closing_is}
use Rattle.hand_laws.proofs.lemmas.chips.Collected.{got_is_taken}
use Rattle.hand_laws.proofs.lemmas.chips.SeatSums.{sum_same, sum_plus}
use Rattle.hand_audit.proofs.CallerLemmas.{Sound, sound_all, has_total, start, accepted_is}
use Rattle.hand_laws.proofs.lemmas.chips.WholePass.{others_idle}

collected_is : (h : List Event) → collected h ≡ taken (collections h)
unfolding collected
collected_is h = refl

kept_of : (g : Header) (players : ℕ) (so_far : SoFar) → Sound g players so_far → list_any is_total so_far.events ≡ true → Idle g players so_far.events → KeepsChips g so_far.events (rake so_far.events)
kept_of g players so_far s some others =
    let h = so_far.events in
    let covered : (p : ℕ) → p ≤ 10 → paid g h p + dead g h p ≤ opening h p = (λ p l. let w = chips_stay g players h p s.accepted in omega (arith, w)) in
    let each : sum_from (λ q. closing g h q + (paid g h q + dead g h q)) 1 10 ≡ sum_from (λ q. opening h q + collected_at h q) 1 10 = sum_same _ _ 1 10 (omega arith) (λ q l. closing_is g h q (covered q (omega (arith, l)))) in
    let left : sum_from (λ q. closing g h q + (paid g h q + dead g h q)) 1 10 ≡ over_seats (closing g h) + over_seats (λ q. paid g h q + dead g h q) = sum_plus (closing g h) (λ q. paid g h q + dead g h q) 1 10 in
    let right : sum_from (λ q. opening h q + collected_at h q) 1 10 ≡ over_seats (opening h) + over_seats (collected_at h) = sum_plus (opening h) (collected_at h) 1 10 in
    let put : put_in_by g players h ≡ over_seats (λ p. paid g h p + dead g h p) = put_is_sum g players h others in
    let got : over_seats (collected_at h) ≡ taken (collections h) = got_is_taken (collections h) s.collectors in
    let all : put_in_by g players h ≡ taken (collections h) + rake h = (s.chips some).whole ∙ ap (λ n. n + rake h) (collected_is h) in
    record { covered = covered; whole = omega (arith, each, left, right, put, got, all) }

-- of a hand with no line that departs, whose other seats put in nothing
pub kept : (g : Header) (players number : ℕ) (lines : List (List ℕ)) → departs_from g players number nothing lines ≡ None → Idle g players (events_of g lines) → KeepsChips g (events_of g lines) (rake (events_of g lines))
kept g players number lines none others =
    let end = sound_all g players number lines nothing (start g players) none in
    kept_of g players (read_all g nothing lines) end.0 (has_total g players _ end.1) others

-- of a hand that is accepted
pub accepted_kept : (number : ℕ) (line : List ℕ) (lines : List (List ℕ)) (g : Header) → header_of line ≡ Ok g → (settlement : Settlement) (all_in : AllIn) (names : List (ℕ × List ℕ)) (players : ℕ)
    → audit_of number (line ∷ lines) ≡ Some (Accepted settlement all_in names players) → KeepsChips g (events_of g lines) settlement.rake
accepted_kept number line lines g read settlement all_in names players is =
    let a = accepted_is number line lines g settlement all_in names players read is in
    let stated : rake (events_of g lines) ≡ settlement.rake = ap (λ (x : Settlement). x.rake) a.made in
    let others : Idle g players (events_of g lines) = subst (λ (n : ℕ). Idle g n (events_of g lines)) a.all_play (others_idle g number lines (ap (λ n. departs_from g n number nothing lines) a.all_play ∙ a.none)) in
    subst (λ (n : ℕ). KeepsChips g (events_of g lines) n) stated (kept g players number lines a.none others)
