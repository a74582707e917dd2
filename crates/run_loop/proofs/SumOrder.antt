-- The sums over the hands that were handed out so far, and the reads that were made for them.
use Rattle.std.proofs.Common.{◌≡◌, ℕ, ◌+◌, ◌<◌, ◌≤◌, ◌^◌, List, [], ◌∷◌, ◌++◌, length, take, Option, Some, None, inl, inr, ◌⊎◌, Result, Ok, Err, refl, sym, ap, subst, ◌∙◌, arith, append_assoc, append-nil, length-append}
use Rattle.std.specs.Prelude.{OnOk}
use Rattle.std.specs.List.{cons_option, filter_map}
use Rattle.std.proofs.lemmas.List.{take_all}
use Rattle.card_sets.specs.declared.Memory.{Memory}
use Rattle.hand_cuts.specs.Units.{UnitLines, hands_from, units_in}
use Rattle.hand_cuts.specs.Cutters.{seen}
use Rattle.hand_cuts.specs.declared.limits.TheConstants.{INPUT_MAX}
use Rattle.hand_cuts.specs.declared.units.CutKind.TheVariants.{Hands}
use Rattle.hand_cuts.specs.declared.units.Unit.{Unit as UnitPlace}
use Rattle.line_text.specs.Lines.{lines}
use Rattle.run_loop.specs.Cutting.{Cuts, PullsOne, ReadsAll}
use Rattle.run_loop.specs.Order.{Comes}
use Rattle.run_loop.specs.TextReads.{ReadsText}
use Rattle.run_loop.specs.UnitSums.{SumsInOrder}
use Rattle.run_loop.specs.Units.{is_whole, left_over, started}
use Rattle.run_loop.specs.declared.reading.Ending.{Ending}
use Rattle.run_loop.specs.declared.reading.Ending.TheVariants.{Whole, Failed, TooLong, Open}
use Rattle.run_loop.specs.declared.reading.Input.{Input}
use Rattle.run_loop.proofs.CuttingFacts.{cuts_start}
use Rattle.run_loop.proofs.OrderFacts.{reads_all}

-- what is told of one hand more
pub told_more : {A : Type 0} (told : UnitLines → Option A) (us : List UnitLines) (u : UnitLines) (one : A) → told u ≡ Some one → filter_map told us ++ one ∷ [] ≡ filter_map told (us ++ u ∷ [])
told_more {A} told [] u one is = sym (ap (λ (found : Option A). cons_option found []) is)
told_more {A} told (x ∷ us) u one is = more_step (told x) (told_more told us u one is)
  where
    more_step : (found : Option A) → filter_map told us ++ one ∷ [] ≡ filter_map told (us ++ u ∷ [])
        → cons_option found (filter_map told us) ++ one ∷ [] ≡ cons_option found (filter_map told (us ++ u ∷ []))
    more_step None e = e
    more_step (Some first) e = ap (λ later. first ∷ later) e

-- the sums of the hands that were handed out, each of which took a byte or more, and the reads that were made for them
pub record SumsOrdered {S Sums : Type 0} (reads : S → S → Option (List ℕ) → Type 0) (sums_of : List UnitLines → Sums) (limit : ℕ) (s0 s : S) (input : Input) (sums : Sums) : Type 0 where
  pub bytes : List ℕ
  pub done : List UnitLines
  pub made : List (Option (List ℕ))
  pub cuts : Cuts limit Hands input bytes done
  pub order : ReadsAll reads limit s0 Open [] made s input.ending bytes
  pub summed : sums ≡ sums_of done
  pub room : length done + left_over limit input ≤ limit

pub sums_ordered_start : {S Sums : Type 0} (reads : S → S → Option (List ℕ) → Type 0) (sums_of : List UnitLines → Sums) (limit : ℕ) (s : S) (sums : Sums) → sums ≡ sums_of [] → SumsOrdered reads sums_of limit s s (started Hands) sums
sums_ordered_start reads sums_of limit s sums none = record { bytes = []; done = []; made = []; cuts = cuts_start limit Hands; order = (refl, refl, refl); summed = none; room = omega arith }

-- a hand more
pub sums_ordered_more : {S Sums : Type 0} (reads : S → S → Option (List ℕ) → Type 0) (sums_of : List UnitLines → Sums) (limit : ℕ) (s0 s new : S) (input input' : Input) (sums sums' : Sums) (unit : UnitPlace)
    → (o : SumsOrdered reads sums_of limit s0 s input sums) → (p : PullsOne reads limit s new Hands input input' o.bytes o.done (Ok (Some unit)))
    → ((hands : List UnitLines) → sums ≡ sums_of hands → sums' ≡ sums_of (hands ++ seen input'.cutter.held unit ∷ [])) → SumsOrdered reads sums_of limit s0 new input' sums'
sums_ordered_more {S} reads sums_of limit s0 s new input input' sums sums' unit o p added =
    let u = seen input'.cutter.held unit in
    record {
      bytes = p.behind;
      done = o.done ++ u ∷ [];
      made = o.made ++ p.made;
      cuts = p.hands.1.cuts;
      order = subst (λ (e : Ending). ReadsAll reads limit s0 Open [] (o.made ++ p.made) new e p.behind) (sym p.hands.0) (reads_all reads limit Hands o.done s0 Open [] o.made s input.ending o.bytes p.made new p.ending p.behind o.order p.order);
      summed = added o.done o.summed;
      room = (let r = o.room in let f = p.hands.1.fewer in omega (arith, length-append o.done (u ∷ [])));
    }

-- their number fits 32 bits
pub sums_few : {S Sums : Type 0} (reads : S → S → Option (List ℕ) → Type 0) (sums_of : List UnitLines → Sums) (count : Sums → ℕ) (s0 s : S) (input : Input) (sums : Sums) → ((hands : List UnitLines) → count (sums_of hands) ≤ length hands)
    → SumsOrdered reads sums_of INPUT_MAX s0 s input sums → count sums < 2 ^ 32
sums_few reads sums_of count s0 s input sums counted o =
    let size = ap count o.summed in
    omega (arith, size, counted o.done, o.room)

-- the reading has ended
pub sums_ordered_ended : {S Sums : Type 0} (reads : S → S → Option (List ℕ) → Type 0) (sums_of : List UnitLines → Sums) (limit : ℕ) (s0 s new : S) (input input' : Input) (sums : Sums)
    → (o : SumsOrdered reads sums_of limit s0 s input sums) → (p : PullsOne reads limit s new Hands input input' o.bytes o.done (Ok None)) → SumsInOrder reads sums_of limit s0 new input'.ending sums (Ok tt)
sums_ordered_ended reads sums_of limit s0 s new input input' sums o p = record {
  made = o.made ++ p.made;
  behind = p.ending;
  bytes = p.behind;
  order = reads_all reads limit Hands o.done s0 Open [] o.made s input.ending o.bytes p.made new p.ending p.behind o.order p.order;
  summed = (p.hands.0, p.hands.1, o.summed ∙ ap sums_of (sym p.hands.2));
}

-- memory ran out
pub sums_ordered_short : {S Sums : Type 0} (reads : S → S → Option (List ℕ) → Type 0) (sums_of : List UnitLines → Sums) (limit : ℕ) (s0 s new : S) (input input' : Input) (sums sums' : Sums) (result : Result (Option UnitPlace) Memory) (ending : Ending) (error : Memory)
    → (o : SumsOrdered reads sums_of limit s0 s input sums) → (p : PullsOne reads limit s new Hands input input' o.bytes o.done result) → SumsInOrder reads sums_of limit s0 new ending sums' (Err error)
sums_ordered_short reads sums_of limit s0 s new input input' sums sums' result ending error o p = record {
  made = o.made ++ p.made;
  behind = p.ending;
  bytes = p.behind;
  order = reads_all reads limit Hands o.done s0 Open [] o.made s input.ending o.bytes p.made new p.ending p.behind o.order p.order;
  summed = tt;
}

-- a text is read as it stands: what was read and what is left are all of it, until none is left
text_read : {S : Type 0} (reads : S → S → Option (List ℕ) → Type 0) (text_of : S → List ℕ) → ((old new : S) (read : Option (List ℕ)) → reads old new read → ReadsText (text_of old) (text_of new) read)
    → (limit : ℕ) (old : S) (ending : Ending) (bytes : List ℕ) (made : List (Option (List ℕ))) (new : S) (ending' : Ending) (bytes' text : List ℕ) → length text ≤ limit
    → bytes ++ text_of old ≡ text → (ending ≡ Open) ⊎ (ending ≡ Whole) × (text_of old ≡ []) → ReadsAll reads limit old ending bytes made new ending' bytes' → (ending' ≡ Open → ⊥) → (ending' ≡ Whole) × (bytes' ≡ text)
text_read reads text_of by limit old ending bytes [] new ending' bytes' text small all stands r ended = elim stands [
  | inl is ↦ absurd (ended (r.1 ∙ is))
  | inr last ↦ (r.1 ∙ last.0, r.2 ∙ sym (append-nil bytes) ∙ ap (λ xs. bytes ++ xs) (sym last.1) ∙ all)
]
text_read {S} reads text_of by limit old ending bytes (None ∷ later) new ending' bytes' text small all stands r ended = absurd (by old r.0 None r.3)
text_read {S} reads text_of by limit old ending bytes (Some more ∷ later) new ending' bytes' text small all stands r ended =
    let one = by old r.0 (Some more) r.3 in
    let whole : (bytes ++ more) ++ text_of r.0 ≡ text = append_assoc bytes more (text_of r.0) ∙ ap (λ xs. bytes ++ xs) (sym one.0) ∙ all in
    let fits : length (bytes ++ more) ≤ limit = omega (arith, ap length whole, length-append (bytes ++ more) (text_of r.0)) in
    let same : take limit (bytes ++ more) ≡ bytes ++ more = take_all limit (bytes ++ more) fits in
    text_read reads text_of by limit r.0 r.1 (take limit (bytes ++ more)) later new ending' bytes' text small (ap (λ xs. xs ++ text_of r.0) same ∙ whole) (how_stands r.1 r.4) r.5 ended
  where
    how_stands : (how : Ending) → Comes limit bytes (Some more) how → (how ≡ Open) ⊎ (how ≡ Whole) × (text_of r.0 ≡ [])
    how_stands Whole none =
        let one = by old r.0 (Some more) r.3 in
        inr (refl, ap (λ front. front ++ text_of r.0) (sym none) ∙ sym one.0 ∙ one.1 none)
    how_stands Failed none = absurd none
    how_stands TooLong over =
        let one = by old r.0 (Some more) r.3 in
        let whole : (bytes ++ more) ++ text_of r.0 ≡ text = append_assoc bytes more (text_of r.0) ∙ ap (λ xs. bytes ++ xs) (sym one.0) ∙ all in
        absurd (let o = over.1 in omega (arith, ap length whole, length-append (bytes ++ more) (text_of r.0)))
    how_stands Open some = inl refl

-- the sums over a text that is read so
pub summed_text : {S Sums : Type 0} (reads : S → S → Option (List ℕ) → Type 0) (text_of : S → List ℕ) → ((old new : S) (read : Option (List ℕ)) → reads old new read → ReadsText (text_of old) (text_of new) read)
    → (sums_of : List UnitLines → Sums) (limit : ℕ) (old new : S) (ending : Ending) (sums : Sums) (result : Result (Unit {0}) Memory) → length (text_of old) ≤ limit
    → SumsInOrder reads sums_of limit old new ending sums result → OnOk result (sums ≡ sums_of (hands_from 1 (lines (text_of old))))
unfolding units_in
summed_text reads text_of by sums_of limit old new ending sums (Ok x) small o =
    let all = text_read reads text_of by limit old Open [] o.made new o.behind o.bytes (text_of old) small refl (inl refl) o.order o.summed.1 in
    o.summed.2 ∙ ap (λ (e : Ending). sums_of (units_in Hands (is_whole e) 1 o.bytes)) all.0 ∙ ap (λ xs. sums_of (hands_from 1 (lines xs))) all.1
summed_text reads text_of by sums_of limit old new ending sums (Err e) small o = tt
