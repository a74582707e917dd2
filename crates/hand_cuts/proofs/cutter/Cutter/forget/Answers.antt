use Rattle.std.proofs.Common.{◌≡◌, ◌≤◌, ℕ, drop, refl, ap, ◌∙◌}
use Rattle.hand_cuts.specs.Scans.{IsScan, HasHead, number_bound, shifted, start_of_rest}
use Rattle.hand_cuts.proofs.Forgetting.{forgets, sound_forgets}
use Rattle.hand_cuts.proofs.cutter.Cutter.forget.Goals as goal

pub invariant_of-self : goal.invariant_of-self
invariant_of-self c =
    let s = c.find_head.new.scan in
    let bytes = c.self.inside.bytes.items in
    let scan : IsScan bytes s = rw c.deref.ensures.value at c.find_head.ensures.scan in
    let found : HasHead c.self.inside.kind bytes c.self.inside.scan s = rw c.deref.ensures.value at c.find_head.ensures.head in
    let fewer : number_bound bytes s ≤ number_bound bytes c.self.inside.scan = rw c.deref.ensures.value at c.find_head.ensures.few in
    let items : c.drop_front.new.bytes.items ≡ drop (start_of_rest s).0 bytes = c.drop_front.ensures ∙ ap (λ (p : ℕ × ℕ). drop p.0 bytes) c.start_of_rest-from.ensures in
    let shift : c.shift.new.self ≡ shifted (start_of_rest s).0 (start_of_rest s).1 s = c.shift.ensures ∙ ap (λ (p : ℕ × ℕ). shifted p.0 p.1 s) c.start_of_rest-from.ensures in
    sound_forgets c.self.inside _ s c.self.invariant scan found fewer refl refl items shift

pub returns : goal.returns
returns c =
    let s = c.find_head.new.scan in
    let bytes = c.self.inside.bytes.items in
    let scan : IsScan bytes s = rw c.deref.ensures.value at c.find_head.ensures.scan in
    let found : HasHead c.self.inside.kind bytes c.self.inside.scan s = rw c.deref.ensures.value at c.find_head.ensures.head in
    let items : c.drop_front.new.bytes.items ≡ drop (start_of_rest s).0 bytes = c.drop_front.ensures ∙ ap (λ (p : ℕ × ℕ). drop p.0 bytes) c.start_of_rest-from.ensures in
    let shift : c.shift.new.self ≡ shifted (start_of_rest s).0 (start_of_rest s).1 s = c.shift.ensures ∙ ap (λ (p : ℕ × ℕ). shifted p.0 p.1 s) c.start_of_rest-from.ensures in
    let all = forgets c.self.inside s c.self.invariant scan found in
    rw (← c.self.view_is, items, shift) all
