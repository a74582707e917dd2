-- Words that are written with a space between.
use Rattle.std.proofs.Common.{◌≡◌, ℕ, true, false, not, List, [], ◌∷◌, length, get_or, refl, ap, ◌∙◌}
use Rattle.std.specs.Prelude.{filter, nat_lt}
use Rattle.std.specs.List.{All, list_all, slice_split, join_with_byte}
use Rattle.std.proofs.lemmas.Bool.{not-true}
use Rattle.std.proofs.lemmas.List.Sums.{AllPass-from_list_all}
use Rattle.std.proofs.lemmas.List.Splits.{slice_split_none, slice_split_at}
use Rattle.spot_text.specs.Words.{is_gap, words}
use Rattle.text_laws.specs.WrittenSpots.{is_word}
use Rattle.card_sets.proofs.CallerLemmas.{and_first, and_second}

-- the bytes of a word are no gaps
no_gaps : (w : List ℕ) → is_word w ≡ true → All (λ b. is_gap b ≡ false) w
no_gaps w h = λ k d inside.
    not-true (is_gap (get_or w k d))
    (AllPass-from_list_all (λ b. not (is_gap b)) w (and_second (nat_lt 0 (length w)) (list_all (λ b. not (is_gap b)) w) h) k d inside)

filled : List (List ℕ) → List (List ℕ)
filled parts = filter (λ piece. nat_lt 0 (length piece)) parts

kept : (w : List ℕ) (parts : List (List ℕ)) → is_word w ≡ true → filled (w ∷ parts) ≡ w ∷ filled parts
unfolding filled
kept w parts h = rw (and_first (nat_lt 0 (length w)) (list_all (λ b. not (is_gap b)) w) h) refl

pub words-joined : (ws : List (List ℕ)) → list_all is_word ws ≡ true → words (join_with_byte 32 ws) ≡ ws
unfolding words filled
words-joined [] h = refl
words-joined (w ∷ []) h =
    let word = and_first (is_word w) true h in
    ap filled (slice_split_none is_gap w (no_gaps w word)) ∙ kept w [] word
words-joined (w ∷ v ∷ ws) h =
    let word = and_first (is_word w) (list_all is_word (v ∷ ws)) h in
    ap filled (slice_split_at is_gap w 32 (join_with_byte 32 (v ∷ ws)) (no_gaps w word) refl)
    ∙ kept w (slice_split is_gap (join_with_byte 32 (v ∷ ws))) word
    ∙ ap (λ rest. w ∷ rest) (words-joined (v ∷ ws) (and_second (is_word w) (list_all is_word (v ∷ ws)) h))
