use Rattle.std.proofs.Common.{◌≡◌, ℕ, [], ◌∷◌, refl, sym, ap, ◌∙◌}
use Rattle.spot_text.specs.FaultNames.{fault_name}
use Rattle.spot_text.specs.declared.faults.SpotFault.{SpotFault}
use Rattle.spot_text.specs.declared.faults.SpotFault.TheVariants.{UnknownWord, BadCard, TwiceCard, HandSize, BoardSize, PlayerCount, DeckShort}
use Rattle.report_sheet.specs.Sheets.{with_words}
use Rattle.hand_blocks.specs.Words.{fault_words}
use Rattle.hand_blocks.proofs.words.spot_fault.Goals as goal

-- a fault that carries no card is its name
name_alone : (fault : SpotFault) → ((card : ℕ) → fault ≡ TwiceCard card → ⊥) → fault_words fault ≡ fault_name fault ∷ []
unfolding fault_words
name_alone UnknownWord other = refl
name_alone BadCard other = refl
name_alone (TwiceCard card) other = absurd (other card refl)
name_alone HandSize other = refl
name_alone BoardSize other = refl
name_alone PlayerCount other = refl
name_alone DeckShort other = refl

pub returns-in_default : goal.returns-in_default
returns-in_default c =
    c.in_ok-text.ensures ∙ ap (λ word. with_words c.args.sheet.now (word ∷ [])) c.name.ensures
    ∙ ap (λ words. with_words c.args.sheet.now words) (sym (name_alone c.args.fault.now c.in_default.not-TwiceCard))
