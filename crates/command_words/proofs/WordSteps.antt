-- One word of the command line.
use Rattle.std.proofs.Common.{ℕ, ◌≡◌, ◌&&◌, Bool, true, false, List, [], ◌∷◌, ◌++◌, Option, Some, None, codes, refl, ap, rules}
use Rattle.std.specs.Prelude.{fold}
use Rattle.std.specs.Str.{bytes_eq, chars}
use Rattle.clap.specs.Lexer.{long_of, short_of}
use Rattle.clap.specs.Walk.{Row, Held, Text, Walk, Waiting, idle, option, walked, has_row, settled_rows, arg_by_long, is_pending}
use Rattle.clap.specs.Kinds.{Kinds, or_else}
use Rattle.clap.specs.Faults.{settle_fault, turn_fault, walk_fault, flags_fault}
use Rattle.clap.specs.declared.error.kind.ErrorKind.{ErrorKind}
use Rattle.clap.specs.declared.error.kind.ErrorKind.TheVariants as kind
use Rattle.command_words.proofs.LineRows.{Name, mode, workers, format, seed, hands, text_of, rule_for, line_rules, line_shape, row_for, with_new}

-- what a value waits for, where it is there already
abbrev pub Pending : Type 0
Pending = Option (Text × List Text)

abbrev pub holding : List Row → Pending → Held
holding rows pending = record { rows = rows; pending = pending; skip = 0 }

-- where the walk stands
abbrev pub standing : List Row → Pending → Waiting → ℕ → Bool → Walk
standing rows pending waiting position trailing =
    record { held = holding rows pending; waiting = waiting; position = position; is_trailing = trailing; stopped = None }

-- the faults of the rest of a walk, and of what it holds at its end
abbrev pub faults_from : Walk → List Text → Kinds
faults_from w words = or_else (walk_fault line_shape [] w words) (settle_fault line_rules false (fold (walked line_rules []) w words).held)

or_else_assoc : (a b c : Kinds) → or_else (or_else a b) c ≡ or_else a (or_else b c)
or_else_assoc [] b c = refl
or_else_assoc (k ∷ ks) b c = refl

pub faults_on : (w : Walk) (word : Text) (words : List Text)
    → faults_from w (word ∷ words) ≡ or_else (turn_fault line_shape [] w word) (faults_from (walked line_rules [] w word) words)
unfolding walk_fault
faults_on w word words = or_else_assoc (turn_fault line_shape [] w word) (walk_fault line_shape [] (walked line_rules [] w word) words)
    (settle_fault line_rules false (fold (walked line_rules []) (walked line_rules [] w word) words).held)

-- a value that waits is settled without a fault where its name has no row yet, and is one row more
pub settles : (n : Name) (v : Text) (rows : List Row) → has_row (text_of n) rows ≡ false
    → settle_fault line_rules false (holding rows (Some (text_of n, v ∷ []))) ≡ []
settles mode v rows h = rw h refl
settles workers v rows h = rw h refl
settles format v rows h = rw h refl
settles seed v rows h = rw h refl
settles hands v rows h = rw h refl

pub settled_is : (n : Name) (v : Text) (rows : List Row) → has_row (text_of n) rows ≡ false
    → settled_rows line_rules (Some (text_of n, v ∷ [])) rows ≡ rows ++ row_for (text_of n, v) ∷ []
settled_is mode v rows h = with_new (text_of mode) v rows h
settled_is workers v rows h = with_new (text_of workers) v rows h
settled_is format v rows h = with_new (text_of format) v rows h
settled_is seed v rows h = with_new (text_of seed) v rows h
settled_is hands v rows h = with_new (text_of hands) v rows h

-- with a fault where it has one, and where no value came
pub again_faults : (n : Name) (v : Text) (rows : List Row) → has_row (text_of n) rows ≡ true
    → settle_fault line_rules false (holding rows (Some (text_of n, v ∷ []))) ≡ kind.ArgumentConflict ∷ []
again_faults mode v rows h = rw h refl
again_faults workers v rows h = rw h refl
again_faults format v rows h = rw h refl
again_faults seed v rows h = rw h refl
again_faults hands v rows h = rw h refl

pub none_faults : (n : Name) (rows : List Row)
    → settle_fault line_rules false (holding rows (Some (text_of n, []))) ≡ kind.InvalidValue ∷ []
none_faults mode rows = refl
none_faults workers rows = refl
none_faults format rows = refl
none_faults seed rows = refl
none_faults hands rows = refl

abbrev pub dashes : Text
dashes = codes "--"

-- `--`, where nothing waits and where an option does
pub dashes_idle : (rows : List Row) (p : Pending) (n : ℕ) (word : Text) → bytes_eq word dashes ≡ true
    → (turn_fault line_shape [] (standing rows p idle n false) word ≡ []) × (walked line_rules [] (standing rows p idle n false) word ≡ standing rows p idle n true)
unfolding walked
dashes_idle rows p n word h = (rw h refl, rw h refl)

pub dashes_waiting : (rows : List Row) (p : Pending) (id : Text) (n : ℕ) (word : Text) → bytes_eq word dashes ≡ true
    → (turn_fault line_shape [] (standing rows p (option id) n false) word ≡ []) × (walked line_rules [] (standing rows p (option id) n false) word ≡ standing rows p (option id) n true)
unfolding walked
dashes_waiting rows p id n word h = (rw h refl, rw h refl)

-- what is held settles without a fault, to some rows
pub record Settles (rows : List Row) (p : Pending) (more : List Row) : Type 0 where
  pub fine : settle_fault line_rules false (holding rows p) ≡ []
  pub rows_are : settled_rows line_rules p rows ≡ more

-- `--x=v` where nothing waits
pub value_met : (rows : List Row) (p : Pending) (more : List Row) (k : ℕ) (word : Text) (n : Name) (v : Text) → bytes_eq word dashes ≡ false → long_of word ≡ Some (text_of n, Some v)
    → arg_by_long line_rules (text_of n) ≡ Some (rule_for n) → Settles rows p more → has_row (text_of n) more ≡ false
    → (turn_fault line_shape [] (standing rows p idle k false) word ≡ [])
    × (walked line_rules [] (standing rows p idle k false) word ≡ standing (more ++ row_for (text_of n, v) ∷ []) None idle k false)
unfolding walked
value_met rows p more k word mode v d l a s h = absurd (search rules)
value_met rows p more k word workers v d l a s h = (rw (d, l, s.fine, s.rows_are, h) refl, rw (d, l, s.rows_are) (ap (λ (x : List Row). standing x None idle k false) (with_new (text_of workers) v more h)))
value_met rows p more k word format v d l a s h = (rw (d, l, s.fine, s.rows_are, h) refl, rw (d, l, s.rows_are) (ap (λ (x : List Row). standing x None idle k false) (with_new (text_of format) v more h)))
value_met rows p more k word seed v d l a s h = (rw (d, l, s.fine, s.rows_are, h) refl, rw (d, l, s.rows_are) (ap (λ (x : List Row). standing x None idle k false) (with_new (text_of seed) v more h)))
value_met rows p more k word hands v d l a s h = (rw (d, l, s.fine, s.rows_are, h) refl, rw (d, l, s.rows_are) (ap (λ (x : List Row). standing x None idle k false) (with_new (text_of hands) v more h)))

pub value_again : (rows : List Row) (p : Pending) (more : List Row) (k : ℕ) (word : Text) (n : Name) (v : Text) → bytes_eq word dashes ≡ false → long_of word ≡ Some (text_of n, Some v)
    → arg_by_long line_rules (text_of n) ≡ Some (rule_for n) → Settles rows p more → has_row (text_of n) more ≡ true
    → turn_fault line_shape [] (standing rows p idle k false) word ≡ kind.ArgumentConflict ∷ []
value_again rows p more k word mode v d l a s h = absurd (search rules)
value_again rows p more k word workers v d l a s h = rw (d, l, s.fine, s.rows_are, h) refl
value_again rows p more k word format v d l a s h = rw (d, l, s.fine, s.rows_are, h) refl
value_again rows p more k word seed v d l a s h = rw (d, l, s.fine, s.rows_are, h) refl
value_again rows p more k word hands v d l a s h = rw (d, l, s.fine, s.rows_are, h) refl

-- `--x` where nothing waits
pub option_met : (rows : List Row) (p : Pending) (more : List Row) (k : ℕ) (word : Text) (n : Name) → bytes_eq word dashes ≡ false → long_of word ≡ Some (text_of n, None)
    → arg_by_long line_rules (text_of n) ≡ Some (rule_for n) → Settles rows p more
    → (turn_fault line_shape [] (standing rows p idle k false) word ≡ [])
    × (walked line_rules [] (standing rows p idle k false) word ≡ standing more (Some (text_of n, [])) (option (text_of n)) k false)
unfolding walked
option_met rows p more k word mode d l a s = absurd (search rules)
option_met rows p more k word workers d l a s = (rw (d, l, s.fine) refl, rw (d, l, s.rows_are) refl)
option_met rows p more k word format d l a s = (rw (d, l, s.fine) refl, rw (d, l, s.rows_are) refl)
option_met rows p more k word seed d l a s = (rw (d, l, s.fine) refl, rw (d, l, s.rows_are) refl)
option_met rows p more k word hands d l a s = (rw (d, l, s.fine) refl, rw (d, l, s.rows_are) refl)

-- a name that no option has
pub unknown_idle : (rows : List Row) (p : Pending) (k : ℕ) (word name : Text) (v : Option Text) → bytes_eq word dashes ≡ false → long_of word ≡ Some (name, v) → arg_by_long line_rules name ≡ None
    → turn_fault line_shape [] (standing rows p idle k false) word ≡ kind.UnknownArgument ∷ []
unknown_idle rows p k word name v d l a = rw (d, l, a) refl

pub unknown_waiting : (rows : List Row) (p : Pending) (id : Text) (k : ℕ) (word name : Text) (v : Option Text) → bytes_eq word dashes ≡ false → long_of word ≡ Some (name, v) → arg_by_long line_rules name ≡ None
    → turn_fault line_shape [] (standing rows p (option id) k false) word ≡ kind.UnknownArgument ∷ []
unknown_waiting rows p id k word name v d l a = rw (d, l, a) refl

-- any option, where what is held can't be settled
pub unsettled_idle : (rows : List Row) (p : Pending) (k : ℕ) (word : Text) (n : Name) (v : Option Text) (x : ErrorKind) (xs : Kinds) → bytes_eq word dashes ≡ false → long_of word ≡ Some (text_of n, v)
    → arg_by_long line_rules (text_of n) ≡ Some (rule_for n) → settle_fault line_rules false (holding rows p) ≡ x ∷ xs
    → turn_fault line_shape [] (standing rows p idle k false) word ≡ x ∷ xs
unsettled_idle rows p k word mode v x xs d l a s = absurd (search rules)
unsettled_idle rows p k word workers None x xs d l a s = rw (d, l, s) refl
unsettled_idle rows p k word workers (Some v) x xs d l a s = rw (d, l, s) refl
unsettled_idle rows p k word format None x xs d l a s = rw (d, l, s) refl
unsettled_idle rows p k word format (Some v) x xs d l a s = rw (d, l, s) refl
unsettled_idle rows p k word seed None x xs d l a s = rw (d, l, s) refl
unsettled_idle rows p k word seed (Some v) x xs d l a s = rw (d, l, s) refl
unsettled_idle rows p k word hands None x xs d l a s = rw (d, l, s) refl
unsettled_idle rows p k word hands (Some v) x xs d l a s = rw (d, l, s) refl

pub unsettled_waiting : (rows : List Row) (p : Pending) (id : Text) (k : ℕ) (word : Text) (n : Name) (v : Option Text) (x : ErrorKind) (xs : Kinds) → bytes_eq word dashes ≡ false → long_of word ≡ Some (text_of n, v)
    → arg_by_long line_rules (text_of n) ≡ Some (rule_for n) → settle_fault line_rules false (holding rows p) ≡ x ∷ xs
    → turn_fault line_shape [] (standing rows p (option id) k false) word ≡ x ∷ xs
unsettled_waiting rows p id k word mode v x xs d l a s = absurd (search rules)
unsettled_waiting rows p id k word workers None x xs d l a s = rw (d, l, s) refl
unsettled_waiting rows p id k word workers (Some v) x xs d l a s = rw (d, l, s) refl
unsettled_waiting rows p id k word format None x xs d l a s = rw (d, l, s) refl
unsettled_waiting rows p id k word format (Some v) x xs d l a s = rw (d, l, s) refl
unsettled_waiting rows p id k word seed None x xs d l a s = rw (d, l, s) refl
unsettled_waiting rows p id k word seed (Some v) x xs d l a s = rw (d, l, s) refl
unsettled_waiting rows p id k word hands None x xs d l a s = rw (d, l, s) refl
unsettled_waiting rows p id k word hands (Some v) x xs d l a s = rw (d, l, s) refl

-- a word that begins with one hyphen
pub short_idle : (rows : List Row) (p : Pending) (k : ℕ) (word : Text) (f : ℕ) (fs : Text) (c : ℕ) (cs : List ℕ) → bytes_eq word dashes ≡ false → long_of word ≡ None → short_of word ≡ Some (f ∷ fs)
    → chars (f ∷ fs) ≡ c ∷ cs
    → turn_fault line_shape [] (standing rows p idle k false) word ≡ kind.UnknownArgument ∷ []
unfolding flags_fault
short_idle rows p k word f fs c cs d l s e = rw (d, l, s, e) refl

pub short_waiting : (rows : List Row) (p : Pending) (id : Text) (k : ℕ) (word : Text) (f : ℕ) (fs : Text) (c : ℕ) (cs : List ℕ) → bytes_eq word dashes ≡ false → long_of word ≡ None → short_of word ≡ Some (f ∷ fs)
    → chars (f ∷ fs) ≡ c ∷ cs
    → turn_fault line_shape [] (standing rows p (option id) k false) word ≡ kind.UnknownArgument ∷ []
unfolding flags_fault
short_waiting rows p id k word f fs c cs d l s e = rw (d, l, s, e) refl

-- a plain word, where nothing waits: it is the mode, once
and_false : (b : Bool) → (b && false) ≡ false
and_false true = refl
and_false false = refl

pub mode_met : (rows : List Row) (p : Pending) (more : List Row) (word : Text) → bytes_eq word dashes ≡ false → long_of word ≡ None → short_of word ≡ None → Settles rows p more
    → (turn_fault line_shape [] (standing rows p idle 1 false) word ≡ [])
    × (walked line_rules [] (standing rows p idle 1 false) word ≡ standing more (Some (text_of mode, word ∷ [])) idle 2 false)
unfolding walked
mode_met rows p more word d l o s = (rw (d, l, o, and_false (is_pending (rule_for mode) p), s.fine) refl, rw (d, l, o, and_false (is_pending (rule_for mode) p), s.rows_are) refl)

pub mode_again : (rows : List Row) (p : Pending) (word : Text) → bytes_eq word dashes ≡ false → long_of word ≡ None → short_of word ≡ None
    → turn_fault line_shape [] (standing rows p idle 2 false) word ≡ kind.UnknownArgument ∷ []
mode_again rows p word d l o = rw (d, l, o) refl

pub mode_unsettled : (rows : List Row) (p : Pending) (word : Text) (x : ErrorKind) (xs : Kinds) → bytes_eq word dashes ≡ false → long_of word ≡ None → short_of word ≡ None
    → settle_fault line_rules false (holding rows p) ≡ x ∷ xs
    → turn_fault line_shape [] (standing rows p idle 1 false) word ≡ x ∷ xs
mode_unsettled rows p word x xs d l o s = rw (d, l, o, and_false (is_pending (rule_for mode) p), s) refl

-- a plain word, where an option waits
pub waiting_met : (rows : List Row) (n : Name) (k : ℕ) (word : Text) → bytes_eq word dashes ≡ false → long_of word ≡ None → short_of word ≡ None
    → (turn_fault line_shape [] (standing rows (Some (text_of n, [])) (option (text_of n)) k false) word ≡ [])
    × (walked line_rules [] (standing rows (Some (text_of n, [])) (option (text_of n)) k false) word ≡ standing rows (Some (text_of n, word ∷ [])) idle k false)
unfolding walked
waiting_met rows mode k word d l o = (rw (d, l, o) refl, rw (d, l, o) refl)
waiting_met rows workers k word d l o = (rw (d, l, o) refl, rw (d, l, o) refl)
waiting_met rows format k word d l o = (rw (d, l, o) refl, rw (d, l, o) refl)
waiting_met rows seed k word d l o = (rw (d, l, o) refl, rw (d, l, o) refl)
waiting_met rows hands k word d l o = (rw (d, l, o) refl, rw (d, l, o) refl)

-- a word after `--`
pub behind_met : (rows : List Row) (p : Pending) (w : Waiting) (more : List Row) (word : Text) → Settles rows p more
    → (turn_fault line_shape [] (standing rows p w 1 true) word ≡ [])
    × (walked line_rules [] (standing rows p w 1 true) word ≡ standing more (Some (text_of mode, word ∷ [])) idle 2 true)
unfolding walked
behind_met rows p w more word s = (rw (and_false (is_pending (rule_for mode) p), s.fine) refl, rw (and_false (is_pending (rule_for mode) p), s.rows_are) refl)

pub behind_again : (rows : List Row) (p : Pending) (w : Waiting) (word : Text)
    → turn_fault line_shape [] (standing rows p w 2 true) word ≡ kind.UnknownArgument ∷ []
behind_again rows p w word = refl

pub behind_unsettled : (rows : List Row) (p : Pending) (w : Waiting) (word : Text) (x : ErrorKind) (xs : Kinds)
    → settle_fault line_rules false (holding rows p) ≡ x ∷ xs
    → turn_fault line_shape [] (standing rows p w 1 true) word ≡ x ∷ xs
behind_unsettled rows p w word x xs s = rw (and_false (is_pending (rule_for mode) p), s) refl
