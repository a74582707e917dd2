-- A hand that was read: what it answers, whatever the number of its first line.
use Rattle.std.proofs.Common.{◌≡◌, ℕ, ◌+◌, List, [], ◌∷◌, suc, refl, sym, ap, ◌∙◌, subst, Bool, true, false, arith, length}
use Rattle.std.specs.Prelude.{Option, Some, None, Ok, Err}
use Rattle.std.specs.Option.{option_map_or}
use Rattle.history_text.specs.Headers.{header_of}
use Rattle.hand_events.specs.declared.events.Header.{Header}
use Rattle.hand_events.specs.declared.events.TextFault.{TextFault}
use Rattle.hand_verdict.specs.declared.cause.Cause.{Cause}
use Rattle.hand_verdict.specs.declared.cause.Cause.TheVariants.{Text, Split}
use Rattle.hand_verdict.specs.declared.parts.PartShare.{PartShare}
use Rattle.hand_verdict.specs.declared.parts.SplitHand.{SplitHand}
use Rattle.hand_verdict.specs.declared.seat_chips.SeatChips.{SeatChips}
use Rattle.hand_verdict.specs.declared.settlement.Payment.{Payment}
use Rattle.hand_verdict.specs.declared.streets.StreetState.{StreetState}
use Rattle.hand_verdict.specs.declared.verdicts.HandAudit.{HandAudit}
use Rattle.hand_verdict.specs.declared.verdicts.HandAudit.TheVariants.{Rejected, Accepted}
use Rattle.hand_audit.specs.declared.ended.EndedHand.{EndedHand}
use Rattle.hand_audit.specs.declared.follow.Followed.TheVariants as followed
use Rattle.hand_audit.specs.declared.read.HandEnd.TheVariants as end
use Rattle.hand_audit.specs.declared.hand.AuditState.{AuditState}
use Rattle.hand_audit.specs.declared.read.HandRead.{HandRead}
use Rattle.hand_audit.specs.Departs.{at_line, split_cause}
use Rattle.hand_audit.specs.HandReads.{DepartsIn, EndsBehind, EndsIn, IsReadOf}
use Rattle.hand_audit.specs.Keeping.{Follows, Keeps}
use Rattle.hand_audit.specs.Lines.{SoFar, nothing, players_of}
use Rattle.hand_audit.specs.Parts.{hand_parts}
use Rattle.hand_audit.specs.SeatChips.{all_chips_on, chips_of, nobodys_chips}
use Rattle.hand_audit.specs.SettlementAnswers.{IsOfHand}
use Rattle.hand_audit.specs.Showings.{showing_of}
use Rattle.hand_audit.specs.SplitHands.{parts_given, split_by, split_for, split_of}
use Rattle.hand_audit.specs.Streets.{has_known_all_in, states_in, states_of, streets_of}
use Rattle.hand_audit.specs.Verdict.{accepted_by, audit_of, events_of, read_all}
use Rattle.hand_audit.proofs.lemmas.chips.TableChips.{chips_are_in, chips_kept}
use Rattle.hand_audit.proofs.lemmas.later_streets.LaterStates.{states_are}
use Rattle.hand_audit.proofs.lemmas.lines.HandVerdict.{audit_fault, audit_departs, audit_ends, audit_splits}
use Rattle.hand_audit.proofs.lemmas.splits.SplitHands.{no_parts, parts_are_in, split_is_for, split_is_in}

-- the header line departs
pub read_fault : (all : List (List ℕ)) (line : List ℕ) (rest : List (List ℕ)) (f : TextFault) → all ≡ line ∷ rest → header_of line ≡ Err f
    → let one : HandRead = record { lines = 0; end = end.Departs (Text f) false } in IsReadOf one all
read_fault all line rest f is fault =
    let long : length all ≡ suc (length rest) = ap length is in
    record {
      few = omega (arith, long);
      end = record {
        audit = λ number. let same : number ≡ number + 0 = omega arith in audit_fault number all line rest f is fault ∙ ap (λ n. Some (Rejected n (Text f) false)) same;
        other = refl;
      };
    }

-- a later line does
pub read_departs : (all : List (List ℕ)) (line : List ℕ) (rest : List (List ℕ)) (g : Header) (players count : ℕ) (c : Cause) → all ≡ line ∷ rest → header_of line ≡ Ok g → players ≡ players_of g rest
    → Follows g players rest (followed.Departs count c) → let one : HandRead = record { lines = count; end = end.Departs c g.hundredths } in IsReadOf one all
read_departs all line rest g players count c is read play follows =
    let long : length all ≡ suc (length rest) = ap length is in
    let within = follows.0 in
    record {
      few = omega (arith, long, within);
      end = record {
        audit = λ number. audit_departs number all line rest g players (number + count) c is read play (follows.1 number);
        other = follows.2;
      };
    }

-- none does, or the last for a payment
pub read_ends : (all : List (List ℕ)) (line : List ℕ) (rest : List (List ℕ)) (count : ℕ) (hand : EndedHand) → all ≡ line ∷ rest → header_of line ≡ Ok hand.header → hand.players ≡ players_of hand.header rest
    → Follows hand.header hand.players rest (followed.Ends count hand.state hand.names hand.settled) → let one : HandRead = record { lines = count; end = end.Ends hand } in IsReadOf one all
read_ends all line rest count hand is read play follows =
    let long : length all ≡ suc (length rest) = ap length is in
    let within = follows.0 in
    let behind : EndsBehind line rest count hand = record { header = read; players = play; departs = follows.1; keeps = follows.2; ended = follows.3; names = follows.4 } in
    record {
      few = omega (arith, long, within);
      end = subst (λ (xs : List (List ℕ)). EndsIn xs count hand) (sym is) behind;
    }

-- what is kept of it, by the state that its pointer gives
kept_by : (line : List ℕ) (rest : List (List ℕ)) (count : ℕ) (hand : EndedHand) (state : AuditState) → EndsBehind line rest count hand → state ≡ hand.state.value → Keeps state hand.header hand.players (read_all hand.header nothing rest)
kept_by line rest count hand state e same = subst (λ (x : AuditState). Keeps x hand.header hand.players (read_all hand.header nothing rest)) (sym same) e.keeps

-- the verdict on one whose chips are settled, with no payment beyond its tolerance
accepts : (all : List (List ℕ)) (line : List ℕ) (rest : List (List ℕ)) (first count : ℕ) (hand : EndedHand) (audit : HandAudit) → all ≡ line ∷ rest → EndsBehind line rest count hand → hand.settled.beyond ≡ None
    → audit ≡ accepted_by hand.header hand.players (read_all hand.header nothing rest) → audit_of first all ≡ Some audit
accepts all line rest first count hand audit is e none same =
    audit_ends first all line rest hand.header hand.players audit is e.header e.players (e.departs first ∙ ap (λ o. at_line (first + count) (split_cause o)) none) same

pub ended_accepted : (all : List (List ℕ)) (first count : ℕ) (hand : EndedHand) (state : AuditState) (audit : HandAudit) → EndsIn all count hand → state ≡ hand.state.value → hand.settled.beyond ≡ None
    → ((so_far : SoFar) → Keeps state hand.header hand.players so_far → hand.names ≡ so_far.names → IsOfHand (showing_of hand.header hand.players so_far.events) hand.settled → audit ≡ accepted_by hand.header hand.players so_far)
    → audit_of first all ≡ Some audit
ended_accepted [] first count hand state audit e same none made = absurd e
ended_accepted (line ∷ rest) first count hand state audit e same none made = accepts (line ∷ rest) line rest first count hand audit refl e none (made (read_all hand.header nothing rest) (kept_by line rest count hand state e same) e.names e.ended.is)

-- and with one
pub ended_splits : (all : List (List ℕ)) (first count last : ℕ) (hand : EndedHand) (pay : Payment) (c : Cause) → EndsIn all count hand → hand.settled.beyond ≡ Some pay → c ≡ Split pay.seat pay.due pay.got
    → last ≡ first + count → audit_of first all ≡ Some (Rejected last c hand.header.hundredths)
ended_splits [] first count last hand pay c e some cause at = absurd e
ended_splits (line ∷ rest) first count last hand pay c e some cause at =
    audit_splits first (line ∷ rest) line rest hand.header hand.players (first + count) hand.settled.beyond pay c refl e.header e.players (e.departs first) some cause
    ∙ ap (λ n. Some (Rejected n c hand.header.hundredths)) (sym at)

pub ended_split : (all : List (List ℕ)) (count : ℕ) (hand : EndedHand) (state : AuditState) (pay : Payment) (c : Cause) (split : SplitHand) → EndsIn all count hand → state ≡ hand.state.value → c ≡ Split pay.seat pay.due pay.got
    → ((so_far : SoFar) → Keeps state hand.header hand.players so_far → hand.names ≡ so_far.names → IsOfHand (showing_of hand.header hand.players so_far.events) hand.settled → split ≡ split_by hand.header hand.players so_far)
    → Some split ≡ split_for c all
ended_split [] count hand state pay c split e same cause made = absurd e
ended_split (line ∷ rest) count hand state pay c split e same cause made =
    ap (λ x. Some x) (made (read_all hand.header nothing rest) (kept_by line rest count hand state e same) e.names e.ended.is)
    ∙ split_is_in (line ∷ rest) line rest hand.header hand.players refl e.header e.players
    ∙ split_is_for (line ∷ rest) c pay.seat pay.due pay.got cause

pub ended_none : (all : List (List ℕ)) (count : ℕ) (hand : EndedHand) (state : AuditState) (audit : HandAudit) → EndsIn all count hand → state ≡ hand.state.value
    → ((so_far : SoFar) → Keeps state hand.header hand.players so_far → hand.names ≡ so_far.names → IsOfHand (showing_of hand.header hand.players so_far.events) hand.settled → audit ≡ accepted_by hand.header hand.players so_far)
    → None ≡ split_of audit all
ended_none [] count hand state audit e same made = absurd e
ended_none (line ∷ rest) count hand state audit e same made = sym (ap (λ a. split_of a (line ∷ rest)) (made (read_all hand.header nothing rest) (kept_by line rest count hand state e same) e.names e.ended.is))

-- the later streets of a hand whose verdict is known
streets_told : List (List ℕ) → Option HandAudit → List StreetState
streets_told all o = option_map_or (λ a. streets_of a all) o []

pub no_streets : (all : List (List ℕ)) (first count : ℕ) (hand : EndedHand) (pay : Payment) (audit : HandAudit) → EndsIn all count hand → hand.settled.beyond ≡ Some pay → audit_of first all ≡ Some audit → [] ≡ streets_of audit all
unfolding streets_told
no_streets all first count hand pay audit e some known = ap (streets_told all) (sym (ended_splits all first count (first + count) hand pay (Split pay.seat pay.due pay.got) e some refl refl) ∙ known)

pub ended_streets : (all : List (List ℕ)) (first count : ℕ) (hand : EndedHand) (state : AuditState) (audit : HandAudit) (states : List StreetState) → EndsIn all count hand → state ≡ hand.state.value → hand.settled.beyond ≡ None → audit_of first all ≡ Some audit
    → ((players : ℕ) (so_far : SoFar) → Keeps state hand.header players so_far → IsOfHand (showing_of hand.header players so_far.events) hand.settled → states ≡ states_of hand.header players so_far.events)
    → states ≡ streets_of audit all
unfolding streets_told
ended_streets [] first count hand state audit states e same none known made = absurd e
ended_streets (line ∷ rest) first count hand state audit states e same none known made =
    made hand.players (read_all hand.header nothing rest) (kept_by line rest count hand state e same) e.ended.is
    ∙ states_are (line ∷ rest) line rest hand.header hand.players refl e.header e.players
    ∙ ap (streets_told (line ∷ rest)) (sym (accepts (line ∷ rest) line rest first count hand _ refl e none refl) ∙ known)

-- its chips
chips_told : List (List ℕ) → Option HandAudit → List SeatChips
chips_told all o = option_map_or (λ a. chips_of a all) o nobodys_chips

pub no_chips : (all : List (List ℕ)) (first count : ℕ) (hand : EndedHand) (pay : Payment) (audit : HandAudit) → EndsIn all count hand → hand.settled.beyond ≡ Some pay → audit_of first all ≡ Some audit → nobodys_chips ≡ chips_of audit all
unfolding chips_told
no_chips all first count hand pay audit e some known = ap (chips_told all) (sym (ended_splits all first count (first + count) hand pay (Split pay.seat pay.due pay.got) e some refl refl) ∙ known)

pub ended_chips : (all : List (List ℕ)) (first count : ℕ) (hand : EndedHand) (state : AuditState) (audit : HandAudit) → EndsIn all count hand → state ≡ hand.state.value → hand.settled.beyond ≡ None → audit_of first all ≡ Some audit → all_chips_on state.replay ≡ chips_of audit all
unfolding chips_told
ended_chips [] first count hand state audit e same none known = absurd e
ended_chips (line ∷ rest) first count hand state audit e same none known =
    chips_kept state hand.header hand.players (read_all hand.header nothing rest) (kept_by line rest count hand state e same)
    ∙ chips_are_in (line ∷ rest) line rest hand.header refl e.header
    ∙ ap (chips_told (line ∷ rest)) (sym (accepts (line ∷ rest) line rest first count hand _ refl e none refl) ∙ known)

-- the parts of its pots
parts_told : List (List ℕ) → Option HandAudit → List (List PartShare)
parts_told all o = option_map_or (λ a. parts_given a all) o []

ended_parts_by : (line : List ℕ) (rest : List (List ℕ)) (first count : ℕ) (hand : EndedHand) (o : Option Payment) (audit : HandAudit) → EndsBehind line rest count hand → hand.settled.beyond ≡ o → audit_of first (line ∷ rest) ≡ Some audit
    → hand_parts (showing_of hand.header hand.players (events_of hand.header rest)) ≡ parts_given audit (line ∷ rest)
unfolding parts_told
ended_parts_by line rest first count hand None audit e none known =
    parts_are_in (line ∷ rest) line rest hand.header hand.players refl e.header e.players
    ∙ ap (parts_told (line ∷ rest)) (sym (accepts (line ∷ rest) line rest first count hand _ refl e none refl) ∙ known)
ended_parts_by line rest first count hand (Some pay) audit e some known =
    parts_are_in (line ∷ rest) line rest hand.header hand.players refl e.header e.players
    ∙ ap (parts_told (line ∷ rest)) (sym (ended_splits (line ∷ rest) first count (first + count) hand pay (Split pay.seat pay.due pay.got) e some refl refl) ∙ known)

pub ended_parts : (all : List (List ℕ)) (first count : ℕ) (hand : EndedHand) (audit : HandAudit) → EndsIn all count hand → audit_of first all ≡ Some audit → hand.settled.parts.items ≡ parts_given audit all
ended_parts [] first count hand audit e known = absurd e
ended_parts (line ∷ rest) first count hand audit e known = e.ended.is.parts ∙ ended_parts_by line rest first count hand hand.settled.beyond audit e refl known

-- none of one in which a line departs
pub none_departed : (all : List (List ℕ)) (first count : ℕ) (c : Cause) (hundredths : Bool) (audit : HandAudit) → DepartsIn all count c hundredths → audit_of first all ≡ Some audit → [] ≡ streets_of audit all
unfolding streets_told
none_departed all first count c hundredths audit d known = ap (streets_told all) (sym (d.audit first) ∙ known)

pub chips_departed : (all : List (List ℕ)) (first count : ℕ) (c : Cause) (hundredths : Bool) (audit : HandAudit) → DepartsIn all count c hundredths → audit_of first all ≡ Some audit → nobodys_chips ≡ chips_of audit all
unfolding chips_told
chips_departed all first count c hundredths audit d known = ap (chips_told all) (sym (d.audit first) ∙ known)

pub parts_departed : (all : List (List ℕ)) (first count : ℕ) (c : Cause) (hundredths : Bool) (audit : HandAudit) → DepartsIn all count c hundredths → audit_of first all ≡ Some audit → [] ≡ parts_given audit all
unfolding parts_told
parts_departed all first count c hundredths audit d known = no_parts c all d.other ∙ ap (parts_told all) (sym (d.audit first) ∙ known)

-- the later streets of one whose all-in is known
pub known_streets : (first : ℕ) (all : List (List ℕ)) (states : List StreetState) → has_known_all_in (audit_of first all) ≡ true → ((audit : HandAudit) → audit_of first all ≡ Some audit → states ≡ streets_of audit all) → states ≡ states_in all
known_streets first all states known told = by (audit_of first all) refl known
  where
    by : (o : Option HandAudit) → audit_of first all ≡ o → has_known_all_in o ≡ true → states ≡ states_in all
    by None is h = cc
    by (Some (Rejected line cause hundredths)) is h = cc
    by (Some (Accepted settlement all_in names players)) is h = told (Accepted settlement all_in names players) is
