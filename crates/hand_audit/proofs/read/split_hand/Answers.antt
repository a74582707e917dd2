use Rattle.std.proofs.Common.{◌≡◌, ℕ, List, refl}
use Rattle.hand_verdict.specs.declared.parts.SplitHand.{SplitHand}
use Rattle.hand_verdict.specs.declared.settlement.Settlement.{Settlement}
use Rattle.hand_audit.proofs.read.split_hand.Goals as goal

same_hand : (a b : Settlement) (m n : List (ℕ × List ℕ)) (p q : ℕ) → a ≡ b → m ≡ n → p ≡ q
    → let one : SplitHand = record { settlement = a; names = m; players = p } in let other : SplitHand = record { settlement = b; names = n; players = q } in one ≡ other
same_hand a b m n p q e f g = rw (e, f, g) refl

pub returns : goal.returns
returns c so_far k named made = same_hand _ _ _ _ _ _ (c.settlement_of.ensures c.args.players so_far k made) named c.bits.ensures
