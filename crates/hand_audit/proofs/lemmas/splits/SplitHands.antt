-- A hand that is rejected for a payment, by what becomes of its lines; and one that is rejected for another cause.
use Rattle.std.proofs.Common.{◌≡◌, ℕ, List, [], ◌∷◌, refl, sym, ap, ◌∙◌, false}
use Rattle.std.specs.Prelude.{Some, None, Ok}
use Rattle.history_text.specs.Headers.{header_of}
use Rattle.hand_events.specs.declared.events.Header.{Header}
use Rattle.hand_verdict.specs.declared.cause.Cause.{Cause}
use Rattle.hand_verdict.specs.declared.cause.Cause.TheVariants.{Text, Bet, Chips, Split, Unfinished}
use Rattle.hand_audit.specs.Departs.{is_split}
use Rattle.hand_audit.specs.Lines.{nothing, players_of}
use Rattle.hand_audit.specs.Parts.{hand_parts}
use Rattle.hand_audit.specs.Showings.{showing_of}
use Rattle.hand_audit.specs.SplitHands.{split_by, split_behind, split_in, split_for, parts_behind, parts_in, parts_for}
use Rattle.hand_audit.specs.Verdict.{events_of, read_all}

-- for another cause there is neither a settlement nor a pot
pub no_split : (c : Cause) (lines : List (List ℕ)) → is_split c ≡ false → None ≡ split_for c lines
no_split (Split seat due got) lines h = cc
no_split (Text fault) lines h = refl
no_split (Bet fault) lines h = refl
no_split (Chips stated counted) lines h = refl
no_split Unfinished lines h = refl

pub no_parts : (c : Cause) (lines : List (List ℕ)) → is_split c ≡ false → [] ≡ parts_for c lines
no_parts (Split seat due got) lines h = cc
no_parts (Text fault) lines h = refl
no_parts (Bet fault) lines h = refl
no_parts (Chips stated counted) lines h = refl
no_parts Unfinished lines h = refl

-- those of a hand by its lines
pub split_is_in : (all : List (List ℕ)) (line : List ℕ) (rest : List (List ℕ)) (g : Header) (players : ℕ) → all ≡ line ∷ rest → header_of line ≡ Ok g → players ≡ players_of g rest
    → Some (split_by g players (read_all g nothing rest)) ≡ split_in all
split_is_in all line rest g players is read play = ap (λ (n : ℕ). Some (split_by g n (read_all g nothing rest))) play ∙ sym (ap split_in is ∙ ap (split_behind rest) read)

pub parts_are_in : (all : List (List ℕ)) (line : List ℕ) (rest : List (List ℕ)) (g : Header) (players : ℕ) → all ≡ line ∷ rest → header_of line ≡ Ok g → players ≡ players_of g rest
    → hand_parts (showing_of g players (events_of g rest)) ≡ parts_in all
parts_are_in all line rest g players is read play = ap (λ (n : ℕ). hand_parts (showing_of g n (events_of g rest))) play ∙ sym (ap parts_in is ∙ ap (parts_behind rest) read)

-- of one that is rejected for a payment
pub split_is_for : (all : List (List ℕ)) (c : Cause) (seat due got : ℕ) → c ≡ Split seat due got → split_in all ≡ split_for c all
split_is_for all c seat due got is = sym (ap (λ x. split_for x all) is)

pub parts_are_for : (all : List (List ℕ)) (c : Cause) (seat due got : ℕ) → c ≡ Split seat due got → parts_in all ≡ parts_for c all
parts_are_for all c seat due got is = sym (ap (λ x. parts_for x all) is)
