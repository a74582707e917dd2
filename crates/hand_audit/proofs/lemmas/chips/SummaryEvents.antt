-- Events of the summary move no chips.
use Rattle.std.proofs.Common.{◌≡◌, ℕ, zero, suc, ◌+◌, ◌-◌, ◌<◌, ◌≤◌, List, ◌∷◌, refl, sym, ◌∙◌, Bool, true, false, ◌==◌, ◌&&◌, ◌||◌, not, arith, append-nil}
use Rattle.std.specs.Prelude.{if◌then◌else◌}
use Rattle.card_sets.specs.PlayerSets.{has_player}
use Rattle.hand_events.specs.declared.events.Header.{Header}
use Rattle.hand_events.specs.declared.events.Event.{Event}
use Rattle.hand_events.specs.declared.events.Event.TheVariants.{Total, SeatCards, Remark}
use Rattle.hand_events.specs.declared.events.Part.TheVariants.{Summary as SummaryPart}
use Rattle.history_text.specs.Within.{stands_in}
use Rattle.betting_replay.specs.Accounts.{paid_by}
use Rattle.betting_replay.specs.Sums.{paid, dead, folded}
use Rattle.betting_replay.specs.TableAfter.{table_of, point, chips_of, acts_of, chips_at, acts_at}
use Rattle.betting_replay.specs.Turns.{is_contender}
use Rattle.betting_replay.proofs.CallerLemmas.{chips_are, acts_are}
use Rattle.hand_audit.specs.Collections.{collections}
use Rattle.hand_audit.specs.Showings.{paid_from, paid_in}

-- an event of the summary changes neither what a seat has paid, nor what is dead of it, nor whether it has folded
pub record IsQuiet (g : Header) (h : List Event) (e : Event) : Type 0 where
  pub paid : (p : ℕ) → paid g (e ∷ h) p ≡ paid g h p
  pub dead : (p : ℕ) → dead g (e ∷ h) p ≡ dead g h p
  pub folded : (p : ℕ) → folded (e ∷ h) p ≡ folded h p
  pub collections : collections (e ∷ h) ≡ collections h

same_paid : (b : Bool) (n : ℕ) → (if b then n + 0 - 0 else n) ≡ n
same_paid true n = omega arith
same_paid false n = refl

same_dead : (b : Bool) (n : ℕ) → (if b then n + 0 else n) ≡ n
same_dead true n = omega arith
same_dead false n = refl

same_folded : (b f : Bool) → ((b && false) || f) ≡ f
same_folded true f = refl
same_folded false f = refl

pub quiet : (g : Header) (h : List Event) (e : Event) → stands_in SummaryPart e ≡ true → IsQuiet g h e
quiet g h (Total units rake) is = record { paid = λ p. same_paid (0 == p) (paid g h p); dead = λ p. same_dead (0 == p) (dead g h p); folded = λ p. same_folded (0 == p) (folded h p); collections = append-nil (collections h) }
quiet g h (SeatCards seat cards) is = record { paid = λ p. same_paid (seat == p) (paid g h p); dead = λ p. same_dead (seat == p) (dead g h p); folded = λ p. same_folded (seat == p) (folded h p); collections = append-nil (collections h) }
quiet g h Remark is = record { paid = λ p. same_paid (0 == p) (paid g h p); dead = λ p. same_dead (0 == p) (dead g h p); folded = λ p. same_folded (0 == p) (folded h p); collections = append-nil (collections h) }
quiet g h _ is = cc

-- what a seat of the table has put in, by the events
pub paid_is : (g : Header) (players : ℕ) (h : List Event) (p : ℕ) → p < 11 → paid_by (table_of g players h) p ≡ record { seat = p; live = paid g h p; dead = dead g h p; contender = has_player players p && not (folded h p) }
unfolding paid_by is_contender
paid_is g players h p small =
    let chips : chips_at (table_of g players h) p ≡ chips_of g h p = chips_are g players h (point g players h) p small in
    let acts : acts_at (table_of g players h) p ≡ acts_of g h p = acts_are g players h (point g players h) p small in
    rw (chips, acts) refl

-- so what all players have put in stays the same
same_from : (g : Header) (players : ℕ) (h : List Event) (e : Event) (p n : ℕ) → IsQuiet g h e → p + n ≤ 11 → paid_from (table_of g players (e ∷ h)) p n ≡ paid_from (table_of g players h) p n
same_from g players h e p zero q l = refl
same_from g players h e p (suc n) q l =
    let here : paid_by (table_of g players (e ∷ h)) p ≡ paid_by (table_of g players h) p = paid_is g players (e ∷ h) p (omega arith) ∙ rw (q.paid p, q.dead p, q.folded p) (sym (paid_is g players h p (omega arith))) in
    let rest : paid_from (table_of g players (e ∷ h)) (p + 1) n ≡ paid_from (table_of g players h) (p + 1) n = same_from g players h e (p + 1) n q (omega arith) in
    rw (here, rest) refl

pub same_paid_in : (g : Header) (players : ℕ) (h : List Event) (e : Event) → IsQuiet g h e → paid_in (table_of g players (e ∷ h)) ≡ paid_in (table_of g players h)
unfolding paid_in
same_paid_in g players h e q = same_from g players h e 1 10 q (omega arith)
