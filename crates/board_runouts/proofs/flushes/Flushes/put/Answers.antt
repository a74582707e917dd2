use Rattle.std.proofs.Common.{◌≡◌, ◌≤◌, sym, ◌∙◌, arith, subst}
use Rattle.std.proofs.Math.ListN.{length-set}
use Rattle.showdown_tally.specs.Deals.{deal_of}
use Rattle.board_ranks.proofs.CallerLemmas.{get-same}
use Rattle.board_runouts.specs.Highs.{AreBestFlushes}
use Rattle.board_runouts.specs.declared.flush.Flush.{Flush}
use Rattle.board_runouts.proofs.RowSets.{all_set, same_flushes}
use Rattle.board_runouts.proofs.flushes.Flushes.put.Goals as goal

pub returns-clause-there : goal.returns-clause-there
returns-clause-there c = λ flush at.
    let B : Flush → Type 0 = λ f. AreBestFlushes (deal_of c.args.table.now) c.args.part.now.cards c.args.part.now.suit f.tops f.sets in
    subst B (sym (get-same c.args.self.now.list.items c.args.place c.best_flushes.result flush at)) c.best_flushes.ensures.best

pub returns-clause-right : goal.returns-clause-right
returns-clause-right c =
    let was = c.requires.right in
    let new = c.best_flushes in
    let stamp : new.result.stamp ≡ c.args.self.now.stamp = new.ensures.stamp in
    record {
      past = record {
        places = length-set c.args.self.now.list.items c.args.place _ ∙ was.past.places;
        each = all_set (λ (f : Flush). f.stamp ≤ c.args.self.now.stamp) c.args.self.now.list.items c.args.place _ was.past.each (omega arith);
      };
      best = all_set (λ (f : Flush). f.stamp ≡ c.args.self.now.stamp → AreBestFlushes (deal_of c.args.table.now) f.cards f.suit f.tops f.sets) c.args.self.now.list.items c.args.place _ was.best
          (λ same. same_flushes (deal_of c.args.table.now) c.args.part.now.cards new.result.cards new.result.tops new.result.sets c.args.part.now.suit new.result.suit (sym new.ensures.cards) (sym new.ensures.suit) new.ensures.best);
    }
