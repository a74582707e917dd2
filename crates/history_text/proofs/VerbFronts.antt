-- Verbs are told apart by the first byte of their words: none of the others begins a text with it.
use Rattle.std.proofs.Common.{◌≡◌, ℕ, List, [], ◌∷◌, refl}
use Rattle.history_text.specs.declared.verbs.Verb.{Verb}
use Rattle.history_text.specs.declared.verbs.Verb.TheVariants.{PostsSmall, PostsBig, PostsBoth, PostsAnte, BringsIn, Folds, Checks, Calls, Bets, Raises, Shows, Mucks, DoesntShow, Discards, StandsPat, SitsOut, IsSittingOut}
use Rattle.history_text.specs.Texts.{behind}
use Rattle.history_text.specs.Acts.{first_opening, verb_of, verb_words}

-- the first of some verbs that a text with this first byte begins with is the first of all
abbrev pub AreWith : ℕ → List Verb → Type 0
AreWith byte some = (rest : List ℕ) → first_opening verb_words some (byte ∷ rest) ≡ verb_of (byte ∷ rest)

pub with_b : AreWith 98 (BringsIn ∷ Bets ∷ [])
unfolding verb_of behind
with_b rest = refl

pub with_c : AreWith 99 (Checks ∷ Calls ∷ [])
unfolding verb_of behind
with_c rest = refl

pub with_d : AreWith 100 (DoesntShow ∷ Discards ∷ [])
unfolding verb_of behind
with_d rest = refl

pub with_f : AreWith 102 (Folds ∷ [])
unfolding verb_of behind
with_f rest = refl

pub with_i : AreWith 105 (IsSittingOut ∷ [])
unfolding verb_of behind
with_i rest = refl

pub with_m : AreWith 109 (Mucks ∷ [])
unfolding verb_of behind
with_m rest = refl

pub with_p : AreWith 112 (PostsSmall ∷ PostsBig ∷ PostsBoth ∷ PostsAnte ∷ [])
unfolding verb_of behind
with_p rest = refl

pub with_r : AreWith 114 (Raises ∷ [])
unfolding verb_of behind
with_r rest = refl

pub with_s : AreWith 115 (Shows ∷ StandsPat ∷ SitsOut ∷ [])
unfolding verb_of behind
with_s rest = refl
