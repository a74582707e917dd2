-- Made hands, one after the other.
use Rattle.std.proofs.Common.{◌≡◌, ℕ, zero, suc, ◌+◌, ◌-◌, ◌<◌, List, ◌++◌, refl, sym, ap, ◌∙◌, append_assoc, append-nil, arith}
use Rattle.made_hands.specs.Generator.{state_after}
use Rattle.made_hands.specs.Deals.{deal_of}
use Rattle.made_hands.specs.Lines.{hand_text}
use Rattle.made_hands.specs.Made.{hands_text}

-- the first hand, and the others
first_hand : (number x left : ℕ) → 0 < left →
    hands_text number x left ≡ hand_text number (deal_of x) ++ hands_text (number + 1) (state_after 11 x) (left - 1)
unfolding hands_text
first_hand number x zero some = absurd (omega arith)
first_hand number x (suc left) some =
    let same : suc left - 1 ≡ left = omega arith in
    rw same refl

-- one hand more after what was put there so far
pub next_hand : (was text : List ℕ) (hands index x state : ℕ) → index < hands → text ≡ was ++ hand_text (index + 1) (deal_of x) → state ≡ state_after 11 x →
    text ++ hands_text (index + 1 + 1) state (hands - (index + 1)) ≡ was ++ hands_text (index + 1) x (hands - index)
next_hand was text hands index x state inside is moved =
    let left : hands - (index + 1) ≡ hands - index - 1 = omega arith in
    let some : 0 < hands - index = omega arith in
    ap (λ t. t ++ hands_text (index + 1 + 1) state (hands - (index + 1))) is
    ∙ ap (λ s. (was ++ hand_text (index + 1) (deal_of x)) ++ hands_text (index + 1 + 1) s (hands - (index + 1))) moved
    ∙ ap (λ n. (was ++ hand_text (index + 1) (deal_of x)) ++ hands_text (index + 1 + 1) (state_after 11 x) n) left
    ∙ append_assoc was (hand_text (index + 1) (deal_of x)) (hands_text (index + 1 + 1) (state_after 11 x) (hands - index - 1))
    ∙ ap (λ t. was ++ t) (sym (first_hand (index + 1) x (hands - index) some))

-- where no hand is left
pub all_hands : (text whole : List ℕ) (number x left : ℕ) → left ≡ 0 → text ++ hands_text number x left ≡ whole → text ≡ whole
unfolding hands_text
all_hands text whole number x left none is =
    sym (append-nil text) ∙ ap (λ n. text ++ hands_text number x n) (sym none) ∙ is
