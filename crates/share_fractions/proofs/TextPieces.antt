-- Text that is put together piece after piece, and the text of a number with decimal places.
use Rattle.std.proofs.Common.{◌≡◌, ℕ, zero, suc, ◌+◌, ◌-◌, ◌/◌, ◌<◌, ◌≤◌, ◌^◌, List, [], ◌∷◌, ◌++◌, drop, refl, ap, sym, ◌∙◌, append_assoc, arith, sub-one}
use Rattle.std.proofs.lemmas.List.{drop-drop}
use Rattle.std.specs.Fmt.{decimal}
use Rattle.share_fractions.specs.Round.{digit_at, last_digits, fixed_text}

-- what stays after one piece and then after the next stays after both
pub behind_both : (old middle new : List ℕ) (next end : ℕ) →
    drop next middle ≡ drop next old → drop end new ≡ drop end middle → next ≤ end →
    drop end new ≡ drop end old
behind_both old middle new next end first second far =
    let split : next + (end - next) ≡ end = omega arith in
    second ∙ ap (λ k. drop k middle) (sym split) ∙ sym (drop-drop (end - next) next middle)
    ∙ ap (drop (end - next)) first ∙ drop-drop (end - next) next old ∙ ap (λ k. drop k old) split

-- the digits begin with the one of the highest place
first_of_last_digits : (place n : ℕ) → 0 < place →
    last_digits place n ≡ digit_at (place - 1) n ∷ last_digits (place - 1) n
first_of_last_digits zero n some = absurd (omega arith)
first_of_last_digits (suc place) n some = rw sub-one refl

-- one more digit after what is put there so far
pub digits_more : (place n byte : ℕ) (done more : List ℕ) → 0 < place →
    byte ≡ digit_at (place - 1) n → more ≡ done ++ byte ∷ [] →
    more ++ last_digits (place - 1) n ≡ done ++ last_digits place n
digits_more place n byte done more some is_digit is_more =
    ap (λ x. x ++ last_digits (place - 1) n) is_more ∙ append_assoc done (byte ∷ []) (last_digits (place - 1) n)
    ∙ ap (λ x. done ++ x ∷ last_digits (place - 1) n) is_digit
    ∙ ap (λ x. done ++ x) (sym (first_of_last_digits place n some))

-- the whole part, the point and the places are the text
text_with_point : (n places : ℕ) → 0 < places →
    fixed_text n places ≡ decimal (n / 10 ^ places) ++ 46 ∷ last_digits places n
unfolding fixed_text
text_with_point n zero some = absurd (omega arith)
text_with_point n (suc place) some = refl

pub text_from_pieces : (n places power : ℕ) (whole pointed text : List ℕ) → 0 < places →
    power ≡ 10 ^ places → whole ≡ decimal (n / power) → pointed ≡ whole ++ 46 ∷ [] →
    text ≡ pointed ++ last_digits places n → text ≡ fixed_text n places
text_from_pieces n places power whole pointed text some is_power is_whole is_pointed is_text =
    is_text ∙ ap (λ x. x ++ last_digits places n) is_pointed
    ∙ append_assoc whole (46 ∷ []) (last_digits places n)
    ∙ ap (λ x. x ++ 46 ∷ last_digits places n) (is_whole ∙ ap (λ p. decimal (n / p)) is_power)
    ∙ sym (text_with_point n places some)

-- with no place the whole part is the text
text_without_point : (n places : ℕ) → places ≤ 0 → fixed_text n places ≡ decimal (n / 10 ^ places)
unfolding fixed_text
text_without_point n zero none = let one : n ≡ n / 1 = omega arith in ap decimal one
text_without_point n (suc place) none = absurd (omega arith)

pub text_from_whole : (n places power : ℕ) (whole : List ℕ) → places ≤ 0 → power ≡ 10 ^ places →
    whole ≡ decimal (n / power) → whole ≡ fixed_text n places
text_from_whole n places power whole none is_power is_whole =
    is_whole ∙ ap (λ p. decimal (n / p)) is_power ∙ sym (text_without_point n places none)
