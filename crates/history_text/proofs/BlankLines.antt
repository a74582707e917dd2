-- A line of no byte is a remark, whatever part it stands in.
use Rattle.std.proofs.Common.{◌≡◌, ℕ, List, [], ◌∷◌, codes, length, refl, ap, ◌∙◌, arith}
use Rattle.std.specs.Prelude.{None, option_map, option_and_then, Ok}
use Rattle.hand_events.specs.declared.events.Event.TheVariants.{Remark}
use Rattle.hand_events.specs.declared.events.Header.{Header}
use Rattle.hand_events.specs.declared.events.Part.{Part}
use Rattle.hand_events.specs.declared.events.Part.TheVariants.{Preamble, Play, Summary}
use Rattle.history_text.specs.Lines.{line_event}
use Rattle.history_text.specs.Markers.{marker_line}
use Rattle.history_text.specs.Names.{Fit, fit, front_name, longer, longest}
use Rattle.history_text.specs.Plays.{act_line, cancel_line, collect_line, deal_line, play_event, return_line}
use Rattle.history_text.specs.Seats.{button_line, preamble_event, seat_line, seat_opening}
use Rattle.history_text.specs.Texts.{behind}
use Rattle.history_text.specs.Totals.{show_line, summary_event, total_line}

-- no name with a mark begins it
no_rest : (byte : ℕ) (mark name : List ℕ) → option_and_then (λ tail. behind (byte ∷ mark) tail) (behind name []) ≡ None
unfolding behind
no_rest byte mark [] = refl
no_rest byte mark (x ∷ name) = refl

no_fit : (byte : ℕ) (mark : List ℕ) (who : ℕ × List ℕ) → fit (byte ∷ mark) [] who ≡ None
no_fit byte mark who =
    ap (option_map (λ (rest : List ℕ). (let found : Fit = record { seat = who.0; length = length who.1; rest = rest } in found))) (no_rest byte mark who.1)

none_longest : (byte : ℕ) (mark : List ℕ) (names : List (ℕ × List ℕ)) → longest None (byte ∷ mark) [] names ≡ None
none_longest byte mark [] = refl
none_longest byte mark (who ∷ names) = ap (λ found. longest (longer None found) (byte ∷ mark) [] names) (no_fit byte mark who) ∙ none_longest byte mark names

no_front : (byte : ℕ) (mark : List ℕ) (names : List (ℕ × List ℕ)) → front_name (byte ∷ mark) [] names ≡ None
unfolding front_name
no_front byte mark names = none_longest byte mark names

no_act : (names : List (ℕ × List ℕ)) (header : Header) → act_line names header [] ≡ None
unfolding act_line
no_act names header = rw (no_front 58 (codes " ") names) refl

no_collect : (names : List (ℕ × List ℕ)) (header : Header) → collect_line names header [] ≡ None
unfolding collect_line
no_collect names header = rw (no_front 32 (codes "collected ") names) refl

blank_play : (names : List (ℕ × List ℕ)) (header : Header) → play_event names header [] ≡ Ok Remark
unfolding play_event deal_line return_line marker_line cancel_line behind
blank_play names header = rw (no_act names header, no_collect names header) refl

blank_preamble : (names : List (ℕ × List ℕ)) (header : Header) → preamble_event names header [] ≡ Ok Remark
unfolding preamble_event seat_line seat_opening button_line behind
blank_preamble names header = blank_play names header

blank_summary : (names : List (ℕ × List ℕ)) (header : Header) → summary_event names header [] ≡ Ok Remark
unfolding summary_event total_line show_line seat_opening behind
blank_summary names header = refl

blank_none : (names : List (ℕ × List ℕ)) (header : Header) (part : Part) → line_event names header part [] ≡ Ok Remark
blank_none names header Preamble = blank_preamble names header
blank_none names header Play = blank_play names header
blank_none names header Summary = blank_summary names header

pub blank : (names : List (ℕ × List ℕ)) (header : Header) (part : Part) (line : List ℕ) → length line ≡ 0 → line_event names header part line ≡ Ok Remark
blank names header part [] none = blank_none names header part
blank names header part (x ∷ line) none = absurd (omega arith)
