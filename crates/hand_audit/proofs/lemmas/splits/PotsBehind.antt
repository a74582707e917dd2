-- The settlement of a pot, and of those after it.
use Rattle.std.proofs.Common.{◌≡◌, ℕ, ◌+◌, ◌-◌, ◌≤◌, List, [], ◌∷◌, ◌++◌, refl, sym, ap, ◌∙◌, subst, length, map, take, drop, append_assoc, arith}
use Rattle.std.specs.Prelude.{Option, Some, None, slice_index_or}
use Rattle.std.specs.Option.{option_or}
use Rattle.std.proofs.lemmas.List.{take_all}
use Rattle.pot_layers.specs.declared.paid.Pot.{Pot}
use Rattle.betting_replay.specs.Seats.{or_else}
use Rattle.hand_audit.specs.declared.pot_names.Source.TheVariants.{Numbered}
use Rattle.hand_verdict.specs.declared.settlement.Payment.{Payment}
use Rattle.hand_audit.specs.declared.settling.PotSettled.{PotSettled}
use Rattle.hand_audit.specs.declared.settling.SettledPots.{SettledPots}
use Rattle.hand_audit.specs.Parts.{part_shares}
use Rattle.hand_audit.specs.Settle.{Showing, pot_lines, beyond_of}
use Rattle.hand_audit.specs.SettlementAnswers.{IsOfPot, AreOfPots}
use Rattle.hand_audit.specs.Winning.{IsDecided, AreDecided}

tail_is : (pot : Pot) (others : List Pot) → take (length (pot ∷ others) - 1) (drop 1 (pot ∷ others)) ≡ others
tail_is pot others = take_all (length (pot ∷ others) - 1) others (omega arith)

pub decided_first : (s : Showing) (layers : List Pot) (d : Pot) → 1 ≤ length layers → AreDecided s layers → IsDecided s (slice_index_or layers 0 d).eligible
decided_first s [] d l all = absurd (omega arith)
decided_first s (pot ∷ others) d l all = all.0

pub decided_rest : (s : Showing) (layers : List Pot) → 1 ≤ length layers → AreDecided s layers → AreDecided s (take (length layers - 1) (drop 1 layers))
decided_rest s [] l all = absurd (omega arith)
decided_rest s (pot ∷ others) l all = subst (λ (xs : List Pot). AreDecided s xs) (sym (tail_is pot others)) all.1

or_same : (a b : Option Payment) → option_or a b ≡ or_else a b
or_same None b = refl
or_same (Some a) b = refl

pub pots_more : (s : Showing) (count number : ℕ) (layers : List Pot) (d : Pot) (old mid new : SettledPots) (one : PotSettled) (later first : Option Payment) → 1 ≤ length layers
    → IsOfPot s (Numbered count number) (slice_index_or layers 0 d) one → AreOfPots s count (number + 1) (take (length layers - 1) (drop 1 layers)) mid new later
    → mid.lines.items ≡ old.lines.items ++ one.line ∷ [] → mid.parts.items ≡ old.parts.items ++ one.parts ∷ [] → first ≡ option_or one.beyond later → AreOfPots s count number layers old new first
pots_more s count number [] d old mid new one later first l here rest added parts_added is = absurd (omega arith)
pots_more s count number (pot ∷ others) d old mid new one later first l here rest added parts_added is =
    let all = subst (λ (xs : List Pot). AreOfPots s count (number + 1) xs mid new later) (tail_is pot others) rest in
    let more = pot_lines s count (number + 1) others in
    let shares = map (part_shares s) more in
    record {
      lines = all.lines ∙ ap (λ xs. xs ++ more) added ∙ append_assoc old.lines.items (one.line ∷ []) more ∙ ap (λ line. old.lines.items ++ line ∷ more) here.line;
      parts = all.parts ∙ ap (λ xs. xs ++ shares) parts_added ∙ append_assoc old.parts.items (one.parts ∷ []) shares ∙ ap (λ xs. old.parts.items ++ xs ∷ shares) here.parts;
      beyond = is ∙ or_same one.beyond later ∙ ap (λ o. or_else o later) here.beyond ∙ ap (or_else (beyond_of s (Numbered count number) pot)) all.beyond;
    }
