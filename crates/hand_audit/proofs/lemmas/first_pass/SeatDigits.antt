-- The digits of seat numbers, and sets of them.
use Rattle.std.proofs.Common.{◌≡◌, ◌≢◌, ℕ, ◌+◌, ◌-◌, ◌*◌, ◌/◌, ◌%◌, ◌<◌, ◌≤◌, List, [], ◌∷◌, ◌++◌, length, drop, refl, sym, ap, ◌∙◌, subst, arith, Bool, true, false, ◌==◌, append_assoc, get_or, bytes_eq}
use Rattle.std.proofs.lemmas.Int.Digits.{digits_of_step, same_from_digits_of}
use Rattle.std.proofs.lemmas.List.{append-nil, map-append, drop_more}
use Rattle.std.proofs.lemmas.Nat.{div-mul-add, mod-mul-add}
use Rattle.std.specs.Char.{is_ascii_digit}
use Rattle.std.specs.BTreeSet.{BTreeSet, UpdatesBy, contains_by}
use Rattle.std.specs.Cmp.{eq_by_cmp_equiv}
use Rattle.std.specs.Cmp.Lexicographic.{bytes_decides, slice_cmp, texts_ties, nat_list_cmp_total, nat_list_eq_equiv}
use Rattle.std.specs.List.{list_any}
use Rattle.std.specs.Map.{IsKeyTest, AreApart}
use Rattle.std.specs.Ordering.{is_eq, nat_cmp}
use Rattle.std.specs.Set.{KeepsOthers}
use denote.Ref.{Bor}
use Rattle.std.specs.Int.Digits.{digits_of}
use Rattle.std.specs.Prelude.{cond, fold, map}
use Rattle.line_text.specs.Amounts.{digit_count, number_of}
use Rattle.hand_audit.specs.Passing.{digits_text}

text_more : (n d : ℕ) → 48 ≤ d → d ≤ 57 → 0 < n * 10 + (d - 48) → digits_text (n * 10 + (d - 48)) ≡ digits_text n ++ d ∷ []
text_more n d low high some =
    let small : d - 48 < 10 = omega (arith, low, high) in
    let front : (n * 10 + (d - 48)) / 10 ≡ n = div-mul-add n 10 (d - 48) small in
    let last : (n * 10 + (d - 48)) % 10 ≡ d - 48 = mod-mul-add n 10 (d - 48) small in
    let back : 48 + (d - 48) ≡ d = omega (arith, low) in
    let split : digits_of 10 (n * 10 + (d - 48)) ≡ digits_of 10 n ++ (d - 48) ∷ [] =
    digits_of_step 10 (n * 10 + (d - 48)) (omega arith) some ∙ ap (λ m. digits_of 10 m ++ ((n * 10 + (d - 48)) % 10 ∷ [])) front ∙ ap (λ m. digits_of 10 n ++ m ∷ []) last in
    ap (map (λ digit. 48 + digit)) split ∙ map-append (λ digit. 48 + digit) (digits_of 10 n) ((d - 48) ∷ []) ∙ ap (λ m. digits_text n ++ m ∷ []) back

-- some digits have a first one, and the others are digits too
digits_first : (x : ℕ) (xs : List ℕ) → digit_count (x ∷ xs) ≡ length (x ∷ xs) → (48 ≤ x) × (x ≤ 57) × (digit_count xs ≡ length xs)
digits_first x xs all = by (is_ascii_digit x) refl
  where
    by : (b : Bool) → is_ascii_digit x ≡ b → (48 ≤ x) × (x ≤ 57) × (digit_count xs ≡ length xs)
    by true is =
        let more : 1 + digit_count xs ≡ length (x ∷ xs) = sym (ap (λ b. cond b (1 + digit_count xs) 0) is) ∙ all in
        (grind (arith, is), grind (arith, is), omega (arith, more))
    by false is = let none : 0 ≡ length (x ∷ xs) = sym (ap (λ b. cond b (1 + digit_count xs) 0) is) ∙ all in absurd (omega (arith, none))

-- digits after a number
text_after : (xs : List ℕ) (n : ℕ) → 0 < n → digit_count xs ≡ length xs → digits_text (fold (λ number digit. number * 10 + (digit - 48)) n xs) ≡ digits_text n ++ xs
text_after [] n some all = sym (append-nil (digits_text n))
text_after (x ∷ xs) n some all =
    let first = digits_first x xs all in
    let more : 0 < n * 10 + (x - 48) = omega (arith, some) in
    text_after xs (n * 10 + (x - 48)) more first.2 ∙ ap (λ t. t ++ xs) (text_more n x first.0 first.1 more) ∙ append_assoc (digits_text n) (x ∷ []) xs

-- digits that don't begin with a zero are those of their number
text_first : (x : ℕ) (xs : List ℕ) → digit_count (x ∷ xs) ≡ length (x ∷ xs) → x ≢ 48 → x ∷ xs ≡ digits_text (number_of (x ∷ xs))
text_first x xs all other =
    let first = digits_first x xs all in
    let some : 0 < 0 * 10 + (x - 48) = omega (arith, first.0, other) in
    sym (text_after xs (0 * 10 + (x - 48)) some first.2 ∙ ap (λ t. t ++ xs) (text_more 0 x first.0 first.1 some))

-- what is left of some digits from a place on
pub record Zeros (digits : List ℕ) (first : ℕ) : Type 0 where
  pub within : first ≤ length digits
  pub digits_left : digit_count (drop first digits) ≡ length (drop first digits)
  pub number : number_of (drop first digits) ≡ number_of digits

pub zeros_stop : (digits : List ℕ) (first : ℕ) → Zeros digits first → first < length digits → get_or digits first 0 ≢ 48 → drop first digits ≡ digits_text (number_of digits)
zeros_stop digits first z inside other =
    let split : drop first digits ≡ get_or digits first 0 ∷ drop (first + 1) digits = drop_more digits first 0 inside in
    split ∙ text_first (get_or digits first 0) (drop (first + 1) digits) (sym (ap digit_count split) ∙ z.digits_left ∙ ap length split) other
    ∙ ap digits_text (sym (ap number_of split) ∙ z.number)

-- numbers are the same where their digits are
digits_back : (xs : List ℕ) → map (λ c. c - 48) (map (λ digit. 48 + digit) xs) ≡ xs
digits_back [] = refl
digits_back (x ∷ xs) = let one : (48 + x) - 48 ≡ x = omega arith in ap (λ c. c ∷ map (λ c. c - 48) (map (λ digit. 48 + digit) xs)) one ∙ ap (λ t. x ∷ t) (digits_back xs)

same_number : (m n : ℕ) → digits_text m ≡ digits_text n → m ≡ n
same_number m n same = same_from_digits_of 10 m n (omega arith) (sym (digits_back (digits_of 10 m)) ∙ ap (map (λ c. c - 48)) same ∙ digits_back (digits_of 10 n))

pub same_text : (m n : ℕ) → bytes_eq (digits_text m) (digits_text n) ≡ (m == n)
same_text m n = by (bytes_eq (digits_text m) (digits_text n)) (m == n) refl refl
  where
    by : (a b : Bool) → bytes_eq (digits_text m) (digits_text n) ≡ a → (m == n) ≡ b → bytes_eq (digits_text m) (digits_text n) ≡ (m == n)
    by true true ea eb = ea ∙ sym eb
    by false false ea eb = ea ∙ sym eb
    by true false ea eb = let same : m ≡ n = same_number m n ((bytes_decides (digits_text m) (digits_text n)).0 ea) in grind (arith, same, eb)
    by false true ea eb =
        let same : m ≡ n = grind (arith, eb) in
        let yes : bytes_eq (digits_text m) (digits_text n) ≡ true = (bytes_decides (digits_text m) (digits_text n)).1 (ap digits_text same) in
        cc

-- a set with a text more
apart : (bs cs ks : List ℕ) → bytes_eq bs cs ≡ false → is_eq (slice_cmp nat_cmp bs ks) ≡ true → is_eq (slice_cmp nat_cmp cs ks) ≡ false
apart bs cs ks other same =
    let one : bytes_eq bs ks ≡ true = texts_ties bs ks ∙ same in
    sym (texts_ties cs ks) ∙ nat_list_eq_equiv.symm cs ks ∙ sym (nat_list_eq_equiv.congr bs ks cs one) ∙ other

other_keys : {K : Type 0} (eq : K → K → Bool) (test : K → Bool) (old new : List K) → KeepsOthers eq test old new → (other : K → Bool) → IsKeyTest eq other → AreApart test other → list_any other new ≡ list_any other old
unfolding KeepsOthers
other_keys eq test old new h = h

pub set_has : (old new : BTreeSet (Bor (List ℕ))) (bs : List ℕ) → UpdatesBy (λ x y. slice_cmp nat_cmp x.now y.now) (λ k. slice_cmp nat_cmp bs k.now) old new true
    → (cs : List ℕ) → contains_by (λ k. slice_cmp nat_cmp cs k.now) new ≡ cond (bytes_eq bs cs) true (contains_by (λ k. slice_cmp nat_cmp cs k.now) old)
set_has old new bs h cs = by (bytes_eq bs cs) refl
  where
    by : (b : Bool) → bytes_eq bs cs ≡ b → contains_by (λ k. slice_cmp nat_cmp cs k.now) new ≡ cond (bytes_eq bs cs) true (contains_by (λ k. slice_cmp nat_cmp cs k.now) old)
    by true e = subst (λ l. contains_by (λ k. slice_cmp nat_cmp l k.now) new ≡ true) ((bytes_decides bs cs).0 e) h.1 ∙ sym (ap (λ b. cond b true (contains_by (λ k. slice_cmp nat_cmp cs k.now) old)) e)
    by false e =
        other_keys _ _ _ _ h.3 _ (λ x y. (eq_by_cmp_equiv nat_list_cmp_total).congr cs x.now y.now) (λ k. apart bs cs k.now e)
        ∙ sym (ap (λ b. cond b true (contains_by (λ k. slice_cmp nat_cmp cs k.now) old)) e)
