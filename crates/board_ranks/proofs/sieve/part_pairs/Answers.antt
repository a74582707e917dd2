use Rattle.std.proofs.Common.{◌+◌, ◌-◌, length, refl, sym, ap, ◌∙◌, arith, Some}
use Rattle.std.proofs.Math.ListN.{length-set}
use Rattle.std.proofs.lemmas.Option.{slice_get-get_or}
use Rattle.board_ranks.proofs.SieveLists.{all_put, none_put, put_next}
use Rattle.board_ranks.proofs.sieve.part_pairs.Goals as goal

pub loop-place-init : goal.loop-place-init
loop-place-init c = record {
  put = none_put c.args.suits.now c.args.pairs.now c.args.plain.now c.args.flush.now c.args.before.now;
  plain_size = c.requires.plain;
  flush_size = c.requires.flush;
  before_size = c.requires.before;
}

pub loop-place-preserved : goal.loop-place-preserved
loop-place-preserved c =
    let was = c.loop-place.invariant in
    let put = was.put in
    let w = put.within in
    let t = c.loop-place-test.true in
    let few = c.requires.few in
    let a = was.plain_size in
    let b = was.flush_size in
    let d = was.before_size in
    record {
      put = put_next c.args.suits.now c.args.pairs.now c.loop-place.place (c.loop-place.place + 1) c.loop-place.used _ (c.loop-place.place - c.loop-place.used) c.loop-place.used c.loop-place.plain c.loop-place.flush c.loop-place.before c.index-pairs-place.result (omega arith) (slice_get-get_or c.args.pairs.now c.loop-place.place c.index-pairs-place.result (omega arith) ∙ ap Some (sym c.index-pairs-place.is)) (ap (λ n. c.loop-place.used + n) c.one_plain-used.ensures.value) refl refl (omega arith) (omega arith) (omega arith) put;
      plain_size = rw length-set was.plain_size;
      flush_size = rw length-set was.flush_size;
      before_size = rw length-set was.before_size;
    }

pub returns-clause-parted : goal.returns-clause-parted
returns-clause-parted c =
    let t = c.loop-place-test.false in
    let e = c.loop-place.auto.place-end in
    let few = c.requires.few in
    let size = c.loop-place.invariant.before_size in
    all_put c.args.suits.now c.args.pairs.now c.loop-place.place c.loop-place.used (length c.args.pairs.now) c.loop-place.used c.loop-place.plain c.loop-place.flush c.loop-place.before (omega arith) refl refl (omega arith) c.loop-place.invariant.put
