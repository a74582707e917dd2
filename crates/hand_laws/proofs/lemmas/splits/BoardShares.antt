-- What is split of a pot goes by the boards: `law_pots_go_by_boards`.
use Rattle.std.proofs.Common.{◌≡◌, ℕ, List, ◌++◌, ap, ◌∙◌, true, append-nil}
use Rattle.std.specs.Prelude.{Option}
use Rattle.pot_layers.specs.Split.{first_half, second_half}
use Rattle.pot_layers.specs.declared.paid.Pot.{Pot}
use Rattle.hand_audit.specs.declared.pot_names.Source.{Source}
use Rattle.hand_laws.specs.Splits.{GoesByBoards}
use Rattle.hand_audit.specs.Settle.{Showing, net_of, shares_of_pot, parts_by, parts_of, is_alone, is_checked, shares_if, shares_among, shares_of_parts}

-- what is split of a pot of which it is known who wins
pub by_boards : (s : Showing) (source : Source) (pot : Pot) → is_checked s pot.eligible ≡ true → GoesByBoards s source pot
unfolding shares_of_pot
by_boards s source pot known =
    let shares = λ (o : Option (List ℕ)). shares_of_parts s pot.eligible (parts_by o s.board (net_of s source)) in
    let all : shares_if (is_checked s pot.eligible) s pot.eligible (parts_of s (net_of s source)) ≡ shares s.second = ap (λ b. shares_if b s pot.eligible (parts_of s (net_of s source))) known in
    let part = λ (units : ℕ) (board : List ℕ). shares_among (is_alone pot.eligible) s pot.eligible (record { units = units; board = board }) in
    record {
      once = λ none. all ∙ ap shares none ∙ append-nil (part (net_of s source) s.board);
      twice = λ second some. all ∙ ap shares some ∙ ap (λ xs. part (first_half (net_of s source)) s.board ++ xs) (append-nil (part (second_half (net_of s source)) second));
    }
