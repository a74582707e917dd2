-- The faults and the matches of the whole command line.
use Rattle.std.proofs.Common.{◌≡◌, ◌||◌, Bool, true, false, if◌then◌else◌, List, [], ◌∷◌, Option, Some, None, refl, ap, ◌∙◌, rules}
use Rattle.std.specs.Prelude.{fold, is_some}
use Rattle.std.specs.Str.{bytes_eq}
use Rattle.clap.specs.Walk.{Row, Text, Walk, walked, with_default, first_of, finished, walk, nothing_held, idle, settled}
use Rattle.clap.specs.Simple.{matches_of, built, names_of, entered}
use Rattle.clap.specs.Kinds.{Kinds, or_else}
use Rattle.clap.specs.Takes.{is_given}
use Rattle.clap.specs.Faults.{fault_of, settle_fault, walk_fault, defaults_fault, check_fault, entered_fault}
use Rattle.clap.specs.declared.error.kind.ErrorKind.TheVariants as kind
use Rattle.command_words.specs.Command.{Given, has_name, given_from, value_in}
use Rattle.command_words.specs.CommandLine.{line_app}
use Rattle.command_words.proofs.LineRows.{mode, text_of, line_rules, line_shape, rows_for}
use Rattle.command_words.proofs.WordSteps.{standing, faults_from}
use Rattle.command_words.proofs.WordWalks.{Fails, Agrees, AllUtf8, End, ended, end_from, walk_agrees}

-- no argument has a default
if_same : {A : Type 0} (b : Bool) (x : A) → (if b then x else x) ≡ x
if_same true x = refl
if_same false x = refl

or_true : (b : Bool) → (b || true) ≡ true
or_true true = refl
or_true false = refl

no_defaults : (rows : List Row) → fold with_default rows line_rules ≡ rows
no_defaults rows = simp (if_same {A = List Row})

no_default_faults : (rows : List Row) → defaults_fault rows line_rules ≡ []
unfolding defaults_fault
no_default_faults rows = simp or_true

-- whether a name is given, and its value
given_is : (id : Text) (given : Given) → is_given id (rows_for given) ≡ has_name id given
given_is id [] = refl
given_is id (pair ∷ more) = go (bytes_eq pair.0 id) refl (given_is id more)
  where
    go : (b : Bool) → bytes_eq pair.0 id ≡ b → is_given id (rows_for more) ≡ has_name id more → is_given id (rows_for (pair ∷ more)) ≡ has_name id (pair ∷ more)
    go true e h = rw e refl
    go false e h = rw e h

pub value_is : (id : Text) (given : Given) → first_of id (rows_for given) ≡ value_in id given
value_is id [] = refl
value_is id (pair ∷ more) = go (bytes_eq pair.0 id) refl (value_is id more)
  where
    go : (b : Bool) → bytes_eq pair.0 id ≡ b → first_of id (rows_for more) ≡ value_in id more → first_of id (rows_for (pair ∷ more)) ≡ value_in id (pair ∷ more)
    go true e h = rw e refl
    go false e h = rw e h

-- the mode is wanted
mode_wanted : (given : Given) → check_fault line_shape (rows_for given) false ≡ (if has_name (text_of mode) given then [] else kind.MissingRequiredArgument ∷ [])
mode_wanted given = go (has_name (text_of mode) given) refl
  where
    go : (b : Bool) → has_name (text_of mode) given ≡ b → check_fault line_shape (rows_for given) false ≡ (if b then [] else kind.MissingRequiredArgument ∷ [])
    go true h = rw (given_is (text_of mode) given, h) refl
    go false h = rw (given_is (text_of mode) given, h) refl

-- the faults of a level, by its parts
level_faults : (w : Kinds) (below settle defaults check : Kinds) → Fails (or_else w settle) → Fails (or_else w (or_else below (or_else settle (or_else defaults check))))
level_faults (x ∷ xs) below settle defaults check f = (x, xs, refl)
level_faults [] (x ∷ xs) settle defaults check f = (x, xs, refl)
level_faults [] [] [] defaults check f = let e : [] ≡ f.0 ∷ f.1 = f.2 in absurd (search rules)
level_faults [] [] (x ∷ xs) defaults check f = (x, xs, refl)

-- what the parser makes of the words, by what the definition says is given; the mode has to be
abbrev pub ParsesBy : Bool → Given → List Text → Type 0
ParsesBy true given words = (fault_of line_app words ≡ []) × (matches_of line_app words ≡ rows_for given)
ParsesBy false given words = Fails (fault_of line_app words)

abbrev pub Parses : Option Given → List Text → Type 0
Parses None words = Fails (fault_of line_app words)
Parses (Some given) words = ParsesBy (has_name (text_of mode) given) given words

abbrev start : Walk
start = standing [] None idle 1 false

none_left : (a b : Kinds) → or_else a b ≡ [] → (a ≡ []) × (b ≡ [])
none_left [] b e = (refl, e)
none_left (x ∷ xs) b e = absurd (search rules)

-- without a fault of the words those of the checks are left
faults_are : (words : List Text) (given : Given) → faults_from start words ≡ [] → end_from start words ≡ ended (rows_for given)
    → fault_of line_app words ≡ check_fault line_shape (rows_for given) false
faults_are words given e a =
    let parts = none_left (walk_fault line_shape [] start words) (settle_fault line_rules false (fold (walked line_rules []) start words).held) e in
    let stop : (fold (walked line_rules []) start words).stopped ≡ None = ap (λ (x : End). x.stopped) a in
    let rows = ap (λ (x : End). x.rows) a in
    let r : List Row = (end_from start words).rows in
    rw (stop, parts.0, parts.1, no_default_faults r, no_defaults r, rows) refl

matches_are : (words : List Text) (given : Given) → end_from start words ≡ ended (rows_for given) → matches_of line_app words ≡ rows_for given
matches_are words given a = no_defaults (end_from start words).rows ∙ ap (λ (x : End). x.rows) a

parses : (words : List Text) (given : Option Given) → Agrees given (faults_from start words) (end_from start words) → Parses given words
parses words None a =
    let at = walk (built line_app).top.rules (names_of (built line_app)) nothing_held words in
    level_faults (walk_fault line_shape [] start words) (entered_fault (built line_app) at.stopped) (settle_fault line_rules false at.held)
    (defaults_fault (settled line_rules at.held).rows line_rules) (check_fault line_shape (finished line_rules at.held) (is_some (entered (built line_app) at.stopped))) a
parses words (Some given) a = go (has_name (text_of mode) given) refl
  where
    go : (b : Bool) → has_name (text_of mode) given ≡ b → ParsesBy b given words
    go true h = (faults_are words given a.0 a.1 ∙ rw (mode_wanted given, h) refl, matches_are words given a.1)
    go false h = (kind.MissingRequiredArgument, [], faults_are words given a.0 a.1 ∙ rw (mode_wanted given, h) refl)

pub words_parse : (words : List Text) → AllUtf8 words → Parses (given_from None words []) words
words_parse words u = parses words (given_from None words []) (walk_agrees words u)
