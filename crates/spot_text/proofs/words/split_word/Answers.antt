use Rattle.std.proofs.Common.{◌∙◌, ap, drop, take}
use Rattle.spot_text.proofs.FirstWord.{FirstWord, words_first, words_none}
use Rattle.spot_text.proofs.words.split_word.Goals as goal

pub returns : goal.returns
returns c =
    let line = c.args.line.now in
    let from = c.split_at.result.1.now in
    let is_first : FirstWord line from c.split_at-2.result.0.now c.split_at-2.result.1.now c.word_at.result c.gap_at.result =
    record {
      found = c.word_at.ensures;
      begins = c.split_at.ensures.back ∙ ap (λ n. drop n line) c.unwrap_or.ensures;
      ended = c.gap_at.ensures;
      taken = c.split_at-2.ensures.front ∙ ap (λ n. take n from) c.unwrap_or-2.ensures;
      left = c.split_at-2.ensures.back ∙ ap (λ n. drop n from) c.unwrap_or-2.ensures;
    } in
    record { first = words_first _ _ _ _ _ _ is_first; none = words_none _ _ _ _ _ _ is_first }
