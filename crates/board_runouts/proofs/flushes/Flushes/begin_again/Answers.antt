use Rattle.std.proofs.Common.{◌≡◌, ℕ, ◌++◌, List, Some, length, take, drop, sym, ap, ◌∙◌, arith, subst}
use Rattle.std.specs.Prelude.{slice_get}
use Rattle.board_runouts.specs.declared.flush.Flush.{Flush}
use Rattle.runout_walk.proofs.CallerLemmas.{written}
use Rattle.board_runouts.proofs.flushes.Flushes.begin_again.Goals as goal

pub returns : goal.returns
returns c = λ deal.
    let was = c.args.self.now.list in
    let new : List Flush = c.drop_all.new.list in
    let is : take was.len (new ++ drop (length new) was.items) ≡ new = written was.len new was.items (c.drop_all.ensures.places ∙ c.as_mut_slice.ensures.len) in
    let P : List Flush → Type 0 = λ list. (i : ℕ) (flush : Flush) → slice_get list i ≡ Some flush → flush.stamp ≡ 0 in
    let none = subst P (sym is) c.drop_all.ensures.none in
    record {
      past = record {
        places = ap length is ∙ c.drop_all.ensures.places ∙ ap length c.as_mut_slice.ensures.value ∙ c.requires;
        each = λ i flush at. let zero = none i flush at in omega arith;
      };
      best = λ i flush at same. absurd (let zero = none i flush at in omega arith);
    }
