-- What a word of the command line may be.
use Rattle.std.proofs.Common.{ℕ, ◌≡◌, ◌==◌, Bool, true, false, List, [], ◌∷◌, Option, Some, None, codes, refl, ap, sym, ◌∙◌, rules, arith}
use Rattle.std.specs.Str.{bytes_eq, chars, IsUtf8}
use Rattle.std.proofs.lemmas.Bool.Decides.{nat_tests}
use lib.Utf8.{encodes}
use Rattle.std.proofs.lemmas.Str.{IsUtf8-drop, IsCharBoundary-after_ascii, chars-encodes}
use Rattle.std.proofs.lemmas.Slice.Eq.{bytes_eq-Decides}
use Rattle.clap.specs.Lexer.{long_of, short_of}
use Rattle.clap.specs.Walk.{Text, arg_by_long}
use Rattle.command_words.specs.Command.{is_option}
use Rattle.command_words.proofs.LineRows.{Name, mode, workers, format, seed, hands, text_of, rule_for, line_rules}
use Rattle.command_words.proofs.WordSteps.{dashes}

-- `--`; an option that there isn't, or that there is; a word that begins with one hyphen; any other
pub data Seen (word : Text) : Type 0 where
  ends : bytes_eq word dashes ≡ true → Seen word
  unknown : bytes_eq word dashes ≡ false → (name : Text) (v : Option Text) → long_of word ≡ Some (name, v) → is_option name ≡ false → arg_by_long line_rules name ≡ None → Seen word
  known : bytes_eq word dashes ≡ false → (n : Name) (v : Option Text) → long_of word ≡ Some (text_of n, v) → is_option (text_of n) ≡ true
      → arg_by_long line_rules (text_of n) ≡ Some (rule_for n) → bytes_eq (text_of n) (text_of mode) ≡ false → Seen word
  short : bytes_eq word dashes ≡ false → long_of word ≡ None → (f : ℕ) (fs : Text) → short_of word ≡ Some (f ∷ fs) → (c : ℕ) (cs : List ℕ) → chars (f ∷ fs) ≡ c ∷ cs → Seen word
  plain : bytes_eq word dashes ≡ false → long_of word ≡ None → short_of word ≡ None → Seen word

-- an option by its name
data Named (name : Text) : Type 0 where
  none : is_option name ≡ false → arg_by_long line_rules name ≡ None → Named name
  some : (n : Name) → name ≡ text_of n → is_option (text_of n) ≡ true → arg_by_long line_rules (text_of n) ≡ Some (rule_for n) → bytes_eq (text_of n) (text_of mode) ≡ false → Named name

named : (name : Text) → Named name
named name = go (bytes_eq (codes "workers") name) (bytes_eq (codes "format") name) (bytes_eq (codes "seed") name) (bytes_eq (codes "hands") name) refl refl refl refl
  where
    go : (a b c d : Bool) → bytes_eq (codes "workers") name ≡ a → bytes_eq (codes "format") name ≡ b → bytes_eq (codes "seed") name ≡ c → bytes_eq (codes "hands") name ≡ d → Named name
    go true b c d p q r s = some workers (sym ((bytes_eq-Decides (codes "workers") name).0 p)) refl refl refl
    go false true c d p q r s = some format (sym ((bytes_eq-Decides (codes "format") name).0 q)) refl refl refl
    go false false true d p q r s = some seed (sym ((bytes_eq-Decides (codes "seed") name).0 r)) refl refl refl
    go false false false true p q r s = some hands (sym ((bytes_eq-Decides (codes "hands") name).0 s)) refl refl refl
    go false false false false p q r s = none (rw (p, q, r, s) refl) (rw (p, q, r, s) refl)

-- the flags of such a word begin with a character
spelled : (f : ℕ) (fs : Text) → IsUtf8 (f ∷ fs) → (c : ℕ) × (cs : List ℕ) × (chars (f ∷ fs) ≡ c ∷ cs)
spelled f fs u = go u.0 u.1.1 (ap chars (sym u.1.1) ∙ chars-encodes u.0 u.1.0)
  where
    go : (cs : List ℕ) → encodes cs ≡ f ∷ fs → chars (f ∷ fs) ≡ cs → (c : ℕ) × (more : List ℕ) × (chars (f ∷ fs) ≡ c ∷ more)
    go [] e h = absurd (search rules)
    go (c ∷ more) e h = (c, more, h)

flagged : (word : Text) (flags : Text) → IsUtf8 word → short_of word ≡ Some flags → (f : ℕ) × (fs : Text) × (flags ≡ f ∷ fs) × (c : ℕ) × (cs : List ℕ) × (chars (f ∷ fs) ≡ c ∷ cs)
flagged [] flags u e = absurd (search rules)
flagged (x ∷ []) flags u e = go (x == 45) refl
  where
    go : (b : Bool) → (x == 45) ≡ b → (f : ℕ) × (fs : Text) × (flags ≡ f ∷ fs) × (c : ℕ) × (cs : List ℕ) × (chars (f ∷ fs) ≡ c ∷ cs)
    go true h = let bad = rw h at e in cc
    go false h = let bad = rw h at e in cc
flagged (x ∷ y ∷ ys) flags u e = go (x == 45) (y == 45) refl refl
  where
    go : (b d : Bool) → (x == 45) ≡ b → (y == 45) ≡ d → (f : ℕ) × (fs : Text) × (flags ≡ f ∷ fs) × (c : ℕ) × (cs : List ℕ) × (chars (f ∷ fs) ≡ c ∷ cs)
    go false d h k = let bad = rw h at e in cc
    go true true h k = let bad = rw (h, k) at e in cc
    go true false h k =
        let same : Some (y ∷ ys) ≡ Some flags = rw (h, k) at e in
        let is : x ≡ 45 = grind (arith, nat_tests) in
        let rest : IsUtf8 (y ∷ ys) = IsUtf8-drop (x ∷ y ∷ ys) 1 u (IsCharBoundary-after_ascii (x ∷ y ∷ ys) 0 u (omega arith) (omega arith)) in
        let x : (c : ℕ) × (cs : List ℕ) × (chars (y ∷ ys) ≡ c ∷ cs) = spelled y ys rest in
        (y, ys, cc, x.0, x.1, x.2)

pub seen : (word : Text) → IsUtf8 word → Seen word
seen word u = go (bytes_eq word dashes) refl (long_of word) refl (short_of word) refl
  where
    go : (d : Bool) → bytes_eq word dashes ≡ d → (l : Option (Text × Option Text)) → long_of word ≡ l → (s : Option Text) → short_of word ≡ s → Seen word
    go true d l e s f = ends d
    go false d (Some p) e s f = elim (named p.0) [
      | none absent rule ↦ unknown d p.0 p.1 e absent rule
      | some n same there rule other ↦ known d n p.1 (e ∙ ap (λ (x : Text). Some (x, p.1)) same) there rule other
    ]
    go false d None e (Some flags) f =
        let x = flagged word flags u f in
        short d e x.0 x.1 (f ∙ ap (λ (y : Text). Some y) x.2) x.3 x.4 x.5
    go false d None e None f = plain d e f
