use Rattle.std.proofs.Common.{◌≡◌, ◌++◌, [], ◌∷◌, List, length, sym, ap, ◌∙◌, arith, Some}
use Rattle.std.specs.Prelude.{slice_get}
use Rattle.board_ranks.specs.KeptSieves.{IsSieve}
use Rattle.board_ranks.specs.declared.sieve.Sieve.{Sieve}
use Rattle.board_ranks.proofs.ListPlaces.{all_push, last_there}
use Rattle.board_ranks.proofs.sieves.Sieves.add.Goals as goal

pub returns-clause-right : goal.returns-clause-right
returns-clause-right c = λ i sieve at.
    all_push (IsSieve c.args.pairs.now) c.make_room.new.self.list.items c.fill.new.self (c.make_room.ensures.right c.args.pairs.now c.requires.right) c.fill.ensures.parted i sieve (ap (λ list. slice_get list i) (sym c.push_reserved.ensures.items) ∙ at)

pub returns-clause-counts : goal.returns-clause-counts
returns-clause-counts c = λ sieve at.
    let items : List Sieve = c.make_room.new.self.list.items in
    let there : c.len-place.result ≡ length items = omega (arith, c.len-place.ensures, c.make_room.new.self.list.ok.0) in
    let end : slice_get (items ++ c.fill.new.self ∷ []) (length items) ≡ Some sieve = ap (slice_get (items ++ c.fill.new.self ∷ [])) (sym there) ∙ ap (λ list. slice_get list c.len-place.result) (sym c.push_reserved.ensures.items) ∙ at in
    ap (λ s. s.counts) (last_there items c.fill.new.self sieve end) ∙ c.fill.ensures.counts
