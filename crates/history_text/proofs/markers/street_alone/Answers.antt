use Rattle.std.proofs.Common.{◌≡◌, ℕ, List, Option, Some, ap, sym, ◌∙◌}
use Rattle.std.specs.Prelude.{option_map}
use Rattle.card_sets.specs.Streets.{streets_of}
use Rattle.card_sets.specs.declared.streets.Street.{Street}
use Rattle.history_text.specs.Reading.{◌otherwise◌}
use Rattle.history_text.specs.Acts.{first_opening}
use Rattle.history_text.specs.Markers.{ends, marker_words, street_for}
use Rattle.history_text.proofs.OpeningLists.{first_opening-append}
use Rattle.history_text.proofs.markers.street_alone.Goals as goal

pub returns-in-Some : goal.returns-in-Some
unfolding street_for
returns-in-Some c =
    let words : Street → List ℕ = λ street. marker_words c.args.game street in
    let found : Some (c.in-Some.found.0, c.in-Some.found.1.now) ≡ first_opening words (streets_of c.args.game) c.args.text.now =
    c.in-Some.ensures ∙ ap (λ streets. first_opening words streets c.args.text.now) c.streets.ensures in
    ap (λ (f : Option (Street × List ℕ)). option_map (λ (g : Street × List ℕ). Some g) f otherwise first_opening words ends c.args.text.now) found
    ∙ sym (first_opening-append words (streets_of c.args.game) ends c.args.text.now)
