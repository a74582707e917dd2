-- The words of the command line as the parser reads them, and as the definition does.
use Rattle.std.proofs.Common.{ℕ, ◌≡◌, ◌||◌, Bool, true, false, if◌then◌else◌, List, [], ◌∷◌, ◌++◌, Option, Some, None, refl, ap, sym, ◌∙◌}
use Rattle.std.specs.Prelude.{fold}
use Rattle.std.specs.Str.{bytes_eq, IsUtf8}
use Rattle.std.proofs.lemmas.List.{map-append}
use Rattle.std.proofs.lemmas.List.Folds.{list_any-append}
use Rattle.clap.specs.Walk.{Row, Text, Walk, Waiting, idle, option, walked, has_row, settled_rows}
use Rattle.clap.specs.Kinds.{Kinds, or_else}
use Rattle.clap.specs.Faults.{settle_fault, turn_fault, walk_fault}
use Rattle.clap.specs.declared.error.kind.ErrorKind.{ErrorKind}
use Rattle.clap.specs.declared.error.kind.ErrorKind.TheVariants as kind
use Rattle.command_words.specs.Command.{Given, has_name, modes_from, given_from}
use Rattle.command_words.proofs.LineRows.{Name, mode, text_of, line_rules, line_shape, row_for, rows_for, has_row_for}
use Rattle.command_words.proofs.WordSteps.{Pending, holding, standing, faults_from, faults_on, settles, settled_is, again_faults, none_faults, Settles, dashes_idle, dashes_waiting, value_met, value_again, option_met, unknown_idle, unknown_waiting, unsettled_idle, unsettled_waiting, short_idle, short_waiting, mode_met, mode_again, mode_unsettled, waiting_met, behind_met, behind_again, behind_unsettled}
use Rattle.command_words.proofs.WordKinds.{Seen, seen, ends, unknown, known, short, plain}

-- there is a fault
abbrev pub Fails : Kinds → Type 0
Fails kinds = (x : ErrorKind) × (xs : Kinds) × (kinds ≡ x ∷ xs)

-- the rows at the end of a walk, and where it stopped
pub record End : Type 0 where
  pub rows : List Row
  pub stopped : Option (Text × List Text)

abbrev pub end_of : Walk → End
end_of w = record { rows = settled_rows line_rules w.held.pending w.held.rows; stopped = w.stopped }

abbrev pub end_from : Walk → List Text → End
end_from w words = end_of (fold (walked line_rules []) w words)

abbrev pub ended : List Row → End
ended rows = record { rows = rows; stopped = None }

-- the parser has a fault where the definition gives nothing, and else its rows are what is given, and it didn't stop
abbrev pub Agrees : Option Given → Kinds → End → Type 0
Agrees None kinds end = Fails kinds
Agrees (Some given) kinds end = (kinds ≡ []) × (end ≡ ended (rows_for given))

-- each word is text
pub data AllUtf8 : List Text → Type 0 where
  no_word : AllUtf8 []
  one_word : (word : Text) (words : List Text) → IsUtf8 word → AllUtf8 words → AllUtf8 (word ∷ words)

abbrev place_by : Bool → ℕ
place_by mode_given = if mode_given then 2 else 1

-- which positional comes next
abbrev pub place : Given → ℕ
place given = place_by (has_name (text_of mode) given)

-- a word with a fault
stops : (w : Walk) (word : Text) (words : List Text) (x : ErrorKind) (xs : Kinds) → turn_fault line_shape [] w word ≡ x ∷ xs → Fails (faults_from w (word ∷ words))
stops w word words x xs e = (x, xs, faults_on w word words ∙ ap (λ (k : Kinds). or_else k (faults_from (walked line_rules [] w word) words)) e)

-- a word without one
goes : (w more : Walk) (word : Text) (words : List Text) → (turn_fault line_shape [] w word ≡ []) × (walked line_rules [] w word ≡ more)
    → faults_from w (word ∷ words) ≡ faults_from more words
goes w more word words e = faults_on w word words
    ∙ ap (λ (k : Kinds). or_else k (faults_from (walked line_rules [] w word) words)) e.0 ∙ ap (λ (v : Walk). faults_from v words) e.1

goes_on : (given : Option Given) (w more : Walk) (word : Text) (words : List Text) → (turn_fault line_shape [] w word ≡ []) × (walked line_rules [] w word ≡ more)
    → Agrees given (faults_from more words) (end_from more words) → Agrees given (faults_from w (word ∷ words)) (end_from w (word ∷ words))
goes_on None w more word words e a = (a.0, a.1, goes w more word words e ∙ a.2)
goes_on (Some given) w more word words e a = (goes w more word words e ∙ a.0, ap (λ (v : Walk). end_from v words) e.1 ∙ a.1)

-- after `--` with something held that can't be settled
behind_fails : (words : List Text) (rows : List Row) (p : Pending) (w : Waiting) (b : Bool) (x : ErrorKind) (xs : Kinds) → settle_fault line_rules false (holding rows p) ≡ x ∷ xs
    → Fails (faults_from (standing rows p w (place_by b) true) words)
unfolding walk_fault
behind_fails [] rows p w b x xs e = (x, xs, e)
behind_fails (word ∷ words) rows p w true x xs e = stops (standing rows p w 2 true) word words _ _ (behind_again rows p w word)
behind_fails (word ∷ words) rows p w false x xs e = stops (standing rows p w 1 true) word words _ _ (behind_unsettled rows p w word x xs e)

-- the same where nothing waits
idle_fails : (words : List Text) → AllUtf8 words → (rows : List Row) (p : Pending) (b : Bool) (x : ErrorKind) (xs : Kinds) → settle_fault line_rules false (holding rows p) ≡ x ∷ xs
    → Fails (faults_from (standing rows p idle (place_by b) false) words)
unfolding walk_fault
idle_fails [] u rows p b x xs e = (x, xs, e)
idle_fails (word ∷ words) (one_word _ _ u us) rows p b x xs e = go b (seen word u)
  where
    go : (b : Bool) → Seen word → Fails (faults_from (standing rows p idle (place_by b) false) (word ∷ words))
    go b (ends d) =
        let e2 = dashes_idle rows p (place_by b) word d in
        let f = behind_fails words rows p idle b x xs e in
        (f.0, f.1, goes (standing rows p idle (place_by b) false) (standing rows p idle (place_by b) true) word words e2 ∙ f.2)
    go b (unknown d name v l o a) = stops (standing rows p idle (place_by b) false) word words _ _ (unknown_idle rows p (place_by b) word name v d l a)
    go b (known d n v l o a m) = stops (standing rows p idle (place_by b) false) word words _ _ (unsettled_idle rows p (place_by b) word n v x xs d l a e)
    go b (short d l f fs s c cs k) = stops (standing rows p idle (place_by b) false) word words _ _ (short_idle rows p (place_by b) word f fs c cs d l s k)
    go true (plain d l s) = stops (standing rows p idle 2 false) word words _ _ (mode_again rows p word d l s)
    go false (plain d l s) = stops (standing rows p idle 1 false) word words _ _ (mode_unsettled rows p word x xs d l s e)

-- what is given already is settled
settles_given : (given : Given) → Settles (rows_for given) None (rows_for given)
settles_given given = record { fine = refl; rows_are = refl }

-- a value that waits after what is given
settles_more : (n : Name) (v : Text) (given : Given) → has_name (text_of n) given ≡ false → Settles (rows_for given) (Some (text_of n, v ∷ [])) (rows_for (given ++ (text_of n, v) ∷ []))
settles_more n v given h =
    let fresh : has_row (text_of n) (rows_for given) ≡ false = has_row_for (text_of n) given ∙ h in
    record {
      fine = settles n v (rows_for given) fresh;
      rows_are = settled_is n v (rows_for given) fresh ∙ sym (map-append row_for given ((text_of n, v) ∷ []));
    }

more_rows : (n : Name) (v : Text) (given : Given) → rows_for given ++ row_for (text_of n, v) ∷ [] ≡ rows_for (given ++ (text_of n, v) ∷ [])
more_rows n v given = sym (map-append row_for given ((text_of n, v) ∷ []))

-- the mode is given with a name more where it was, or where that is the mode
same_place : (n : Name) (v : Text) (given : Given) → bytes_eq (text_of n) (text_of mode) ≡ false → has_name (text_of mode) (given ++ (text_of n, v) ∷ []) ≡ has_name (text_of mode) given
same_place n v given h = list_any-append (λ (pair : Text × Text). bytes_eq pair.0 (text_of mode)) given ((text_of n, v) ∷ []) ∙ go (has_name (text_of mode) given)
  where
    go : (b : Bool) → (b || (bytes_eq (text_of n) (text_of mode) || false)) ≡ b
    go true = refl
    go false = rw h refl

mode_is_there : (v : Text) (given : Given) → has_name (text_of mode) (given ++ (text_of mode, v) ∷ []) ≡ true
mode_is_there v given = list_any-append (λ (pair : Text × Text). bytes_eq pair.0 (text_of mode)) given ((text_of mode, v) ∷ []) ∙ go (has_name (text_of mode) given)
  where
    go : (b : Bool) → (b || true) ≡ true
    go true = refl
    go false = refl

-- after `--`
behind_agrees : (words : List Text) (given : Given) (rows : List Row) (p : Pending) (w : Waiting) → Settles rows p (rows_for given)
    → Agrees (modes_from words given) (faults_from (standing rows p w (place given) true) words) (end_from (standing rows p w (place given) true) words)
unfolding walk_fault
behind_agrees [] given rows p w s = (s.fine, ap ended s.rows_are)
behind_agrees (word ∷ words) given rows p w s = go (has_name (text_of mode) given) refl (behind_agrees words (given ++ (text_of mode, word) ∷ []) (rows_for given) (Some (text_of mode, word ∷ [])) idle)
  where
    go : (b : Bool) → has_name (text_of mode) given ≡ b
        → (Settles (rows_for given) (Some (text_of mode, word ∷ [])) (rows_for (given ++ (text_of mode, word) ∷ []))
        → Agrees (modes_from words (given ++ (text_of mode, word) ∷ [])) (faults_from (standing (rows_for given) (Some (text_of mode, word ∷ [])) idle (place (given ++ (text_of mode, word) ∷ [])) true) words)
        (end_from (standing (rows_for given) (Some (text_of mode, word ∷ [])) idle (place (given ++ (text_of mode, word) ∷ [])) true) words))
        → Agrees (modes_from (word ∷ words) given) (faults_from (standing rows p w (place given) true) (word ∷ words)) (end_from (standing rows p w (place given) true) (word ∷ words))
    go true h rest = rw h (stops (standing rows p w 2 true) word words _ _ (behind_again rows p w word))
    go false h rest =
        let now : Given = given ++ (text_of mode, word) ∷ [] in
        let later = rest (settles_more mode word given h) in
        let rest2 : Agrees (modes_from words now) (faults_from (standing (rows_for given) (Some (text_of mode, word ∷ [])) idle 2 true) words)
        (end_from (standing (rows_for given) (Some (text_of mode, word ∷ [])) idle 2 true) words) = rw (mode_is_there word given) at later in
        rw h (goes_on (modes_from words now) (standing rows p w 1 true) (standing (rows_for given) (Some (text_of mode, word ∷ [])) idle 2 true) word words (behind_met rows p w (rows_for given) word s) rest2)

-- before `--`: nothing waits, or an option does
data State (given : Given) : Type 0 where
  quiet : (rows : List Row) (p : Pending) → Settles rows p (rows_for given) → State given
  waits : (n : Name) → bytes_eq (text_of n) (text_of mode) ≡ false → State given

abbrev name_of : {given : Given} → State given → Option Text
name_of (quiet rows p s) = None
name_of (waits n m) = Some (text_of n)

abbrev walk_of : (given : Given) → State given → Walk
walk_of given (quiet rows p s) = standing rows p idle (place given) false
walk_of given (waits n m) = standing (rows_for given) (Some (text_of n, [])) (option (text_of n)) (place given) false

abbrev AgreesAt : List Text → (given : Given) → State given → Type 0
AgreesAt words given s = Agrees (given_from (name_of s) words given) (faults_from (walk_of given s) words) (end_from (walk_of given s) words)

-- one word where nothing waits
quiet_word : (word : Text) (words : List Text) → AllUtf8 words → (given : Given) (rows : List Row) (p : Pending) (s : Settles rows p (rows_for given)) → Seen word
    → ((more : Given) (t : State more) → AgreesAt words more t) → AgreesAt (word ∷ words) given (quiet rows p s)
quiet_word word words us given rows p s (ends d) rest =
    rw d (goes_on (modes_from words given) (standing rows p idle (place given) false) (standing rows p idle (place given) true) word words (dashes_idle rows p (place given) word d) (behind_agrees words given rows p idle s))
quiet_word word words us given rows p s (unknown d name v l o a) rest =
    rw (d, l, o) (stops (standing rows p idle (place given) false) word words _ _ (unknown_idle rows p (place given) word name v d l a))
quiet_word word words us given rows p s (short d l f fs o c cs k) rest =
    rw (d, l, o) (stops (standing rows p idle (place given) false) word words _ _ (short_idle rows p (place given) word f fs c cs d l o k))
quiet_word word words us given rows p s (known d n None l o a m) rest =
    rw (d, l, o) (goes_on (given_from (Some (text_of n)) words given) (standing rows p idle (place given) false) (standing (rows_for given) (Some (text_of n, [])) (option (text_of n)) (place given) false) word words
    (option_met rows p (rows_for given) (place given) word n d l a s) (rest given (waits n m)))
quiet_word word words us given rows p s (known d n (Some v) l o a m) rest = go (has_name (text_of n) given) refl
  where
    go : (b : Bool) → has_name (text_of n) given ≡ b → AgreesAt (word ∷ words) given (quiet rows p s)
    go true h = rw (d, l, o, h) (stops (standing rows p idle (place given) false) word words _ _ (value_again rows p (rows_for given) (place given) word n v d l a s (has_row_for (text_of n) given ∙ h)))
    go false h =
        let now : Given = given ++ (text_of n, v) ∷ [] in
        let later : Agrees (given_from None words now) (faults_from (standing (rows_for now) None idle (place now) false) words) (end_from (standing (rows_for now) None idle (place now) false) words) = rest now (quiet (rows_for now) None (settles_given now)) in
        let there : Agrees (given_from None words now) (faults_from (standing (rows_for given ++ row_for (text_of n, v) ∷ []) None idle (place given) false) words) (end_from (standing (rows_for given ++ row_for (text_of n, v) ∷ []) None idle (place given) false) words)
        = rw (more_rows n v given, ← same_place n v given m) later in
        rw (d, l, o, h) (goes_on (given_from None words now) (standing rows p idle (place given) false) (standing (rows_for given ++ row_for (text_of n, v) ∷ []) None idle (place given) false) word words
        (value_met rows p (rows_for given) (place given) word n v d l a s (has_row_for (text_of n) given ∙ h)) there)
quiet_word word words us given rows p s (plain d l o) rest = go (has_name (text_of mode) given) refl
  where
    go : (b : Bool) → has_name (text_of mode) given ≡ b → AgreesAt (word ∷ words) given (quiet rows p s)
    go true h = rw (d, l, o, h) (stops (standing rows p idle 2 false) word words _ _ (mode_again rows p word d l o))
    go false h =
        let now : Given = given ++ (text_of mode, word) ∷ [] in
        let later : Agrees (given_from None words now) (faults_from (standing (rows_for given) (Some (text_of mode, word ∷ [])) idle (place now) false) words) (end_from (standing (rows_for given) (Some (text_of mode, word ∷ [])) idle (place now) false) words)
        = rest now (quiet (rows_for given) (Some (text_of mode, word ∷ [])) (settles_more mode word given h)) in
        let there : Agrees (given_from None words now) (faults_from (standing (rows_for given) (Some (text_of mode, word ∷ [])) idle 2 false) words) (end_from (standing (rows_for given) (Some (text_of mode, word ∷ [])) idle 2 false) words)
        = rw (mode_is_there word given) at later in
        rw (d, l, o, h) (goes_on (given_from None words now) (standing rows p idle 1 false) (standing (rows_for given) (Some (text_of mode, word ∷ [])) idle 2 false) word words (mode_met rows p (rows_for given) word d l o s) there)

-- one word where an option waits
waiting_word : (word : Text) (words : List Text) → AllUtf8 words → (given : Given) (n : Name) (m : bytes_eq (text_of n) (text_of mode) ≡ false) → Seen word
    → ((more : Given) (t : State more) → AgreesAt words more t) → AgreesAt (word ∷ words) given (waits n m)
waiting_word word words us given n m (ends d) rest =
    let w = standing (rows_for given) (Some (text_of n, [])) (option (text_of n)) (place given) false in
    let f = behind_fails words (rows_for given) (Some (text_of n, [])) (option (text_of n)) (has_name (text_of mode) given) _ _ (none_faults n (rows_for given)) in
    rw d (
      f.0,
      f.1,
      goes w (standing (rows_for given) (Some (text_of n, [])) (option (text_of n)) (place given) true) word words
          (dashes_waiting (rows_for given) (Some (text_of n, [])) (text_of n) (place given) word d) ∙ f.2,
    )
waiting_word word words us given n m (unknown d name v l o a) rest =
    rw (d, l) (stops (standing (rows_for given) (Some (text_of n, [])) (option (text_of n)) (place given) false) word words _ _ (unknown_waiting (rows_for given) (Some (text_of n, [])) (text_of n) (place given) word name v d l a))
waiting_word word words us given n m (known d k v l o a i) rest =
    rw (d, l) (stops (standing (rows_for given) (Some (text_of n, [])) (option (text_of n)) (place given) false) word words _ _ (unsettled_waiting (rows_for given) (Some (text_of n, [])) (text_of n) (place given) word k v _ _ d l a (none_faults n (rows_for given))))
waiting_word word words us given n m (short d l f fs o c cs k) rest =
    rw (d, l, o) (stops (standing (rows_for given) (Some (text_of n, [])) (option (text_of n)) (place given) false) word words _ _ (short_waiting (rows_for given) (Some (text_of n, [])) (text_of n) (place given) word f fs c cs d l o k))
waiting_word word words us given n m (plain d l o) rest = go (has_name (text_of n) given) refl
  where
    go : (b : Bool) → has_name (text_of n) given ≡ b → AgreesAt (word ∷ words) given (waits n m)
    go true h =
        let f = idle_fails words us (rows_for given) (Some (text_of n, word ∷ [])) (has_name (text_of mode) given) _ _ (again_faults n word (rows_for given) (has_row_for (text_of n) given ∙ h)) in
        rw (d, l, o, h) (f.0, f.1, goes (standing (rows_for given) (Some (text_of n, [])) (option (text_of n)) (place given) false) (standing (rows_for given) (Some (text_of n, word ∷ [])) idle (place given) false) word words (waiting_met (rows_for given) n (place given) word d l o) ∙ f.2)
    go false h =
        let now : Given = given ++ (text_of n, word) ∷ [] in
        let later : Agrees (given_from None words now) (faults_from (standing (rows_for given) (Some (text_of n, word ∷ [])) idle (place now) false) words) (end_from (standing (rows_for given) (Some (text_of n, word ∷ [])) idle (place now) false) words)
        = rest now (quiet (rows_for given) (Some (text_of n, word ∷ [])) (settles_more n word given h)) in
        let there : Agrees (given_from None words now) (faults_from (standing (rows_for given) (Some (text_of n, word ∷ [])) idle (place given) false) words) (end_from (standing (rows_for given) (Some (text_of n, word ∷ [])) idle (place given) false) words)
        = rw (← same_place n word given m) later in
        rw (d, l, o, h) (goes_on (given_from None words now) (standing (rows_for given) (Some (text_of n, [])) (option (text_of n)) (place given) false) (standing (rows_for given) (Some (text_of n, word ∷ [])) idle (place given) false) word words (waiting_met (rows_for given) n (place given) word d l o) there)

agrees : (words : List Text) → AllUtf8 words → (given : Given) (s : State given) → AgreesAt words given s
unfolding walk_fault
agrees [] u given (quiet rows p s) = (s.fine, ap ended s.rows_are)
agrees [] u given (waits n m) = (kind.InvalidValue, [], none_faults n (rows_for given))
agrees (word ∷ words) (one_word _ _ u us) given (quiet rows p s) = quiet_word word words us given rows p s (seen word u) (agrees words us)
agrees (word ∷ words) (one_word _ _ u us) given (waits n m) = waiting_word word words us given n m (seen word u) (agrees words us)

-- the parser's walk over the words of a command line and the definition
pub walk_agrees : (words : List Text) → AllUtf8 words → Agrees (given_from None words []) (faults_from (standing [] None idle 1 false) words) (end_from (standing [] None idle 1 false) words)
walk_agrees words u = agrees words u [] (quiet [] None (settles_given []))
