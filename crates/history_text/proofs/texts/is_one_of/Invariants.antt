use Rattle.std.proofs.Common.{◌≡◌, drop}
use Rattle.std.specs.List.{list_any}
use Rattle.std.specs.Str.{bytes_eq}
use Rattle.history_text.proofs.texts.is_one_of.Given as goal

-- none so far
abbrev pub invariant-loop-word : goal.invariant-loop-word
invariant-loop-word l = list_any (λ word. bytes_eq l.text word.now) (drop l.word-index l.words) ≡ list_any (λ word. bytes_eq l.text word.now) l.words
