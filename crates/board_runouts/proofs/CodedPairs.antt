-- Pairs that are counted by the codes of their ranks.
use Rattle.std.proofs.Common.{◌≡◌, ℕ, zero, suc, ◌-◌, ◌/◌, ◌%◌, ◌<◌, ◌≤◌, ◌==◌, List, [], ◌∷◌, ◌++◌, length, take, refl, sym, ap, ◌∙◌, arith, Bool, true, false, cond, Some, subst}
use Rattle.std.specs.Prelude.{slice_get, slice_index, slice_index_or}
use Rattle.std.specs.List.{slice_range}
use Rattle.card_sets.specs.Cards.{IsRising, rank_of}
use Rattle.card_sets.specs.PlayerSets.{AreBelow}
use Rattle.card_sets.specs.declared.games.Side.{Side}
use Rattle.card_sets.specs.declared.games.Side.TheVariants.{High, Low}
use Rattle.showdown_tally.specs.Showdown.{Showdown, eligible_in}
use Rattle.runout_walk.specs.Bests.{best_value}
use Rattle.board_runouts.specs.Highs.{plain_of}
use Rattle.board_runouts.specs.Codes.{AreCodes, AreCodesFor, IsCodeFor, IsCodeOf}
use Rattle.board_runouts.specs.Fields.{AreCodesAt, code_of, end_of, ends_of, field}
use Rattle.board_runouts.specs.KeptRows.{HasNoFlush, IsNamed, pair_place}
use Rattle.board_runouts.specs.SideRows.{AreRanksOf, IsBestOf, IsSideRow}
use Rattle.board_runouts.specs.Pairs.{cards_of_pair}
use Rattle.board_runouts.specs.declared.codes.Codes.{Codes}
use Rattle.board_ranks.specs.declared.pair.Pair.{Pair}
use Rattle.board_runouts.specs.declared.row.Row.{Row}
use Rattle.board_runouts.proofs.HighWinners.{Keeps}
use Rattle.board_runouts.proofs.BoardDealt.{IsScene, dealt_there, pair_inside, plain_main, ranks_there}
use Rattle.board_runouts.proofs.CodeSets.{ends_index}
use Rattle.runout_walk.proofs.CallerLemmas.{range-none}
use Rattle.board_runouts.proofs.PairCounts.{some_row}

-- one of two numbers, by the side
abbrev of_side : Side → ℕ → ℕ → ℕ
of_side High main low = main
of_side Low main low = low

-- a code has its number back
pub code_back : (code : ℕ) → code < 7 → code_of (field code) ≡ code
code_back zero l = refl
code_back (suc zero) l = refl
code_back (suc (suc zero)) l = refl
code_back (suc (suc (suc zero))) l = refl
code_back (suc (suc (suc (suc zero)))) l = refl
code_back (suc (suc (suc (suc (suc zero))))) l = refl
code_back (suc (suc (suc (suc (suc (suc zero)))))) l = refl
code_back (suc (suc (suc (suc (suc (suc (suc n))))))) l = absurd (omega arith)

pub code_small : (add : ℕ) → code_of add < 7
code_small add = go (add == 1) (add == 512) (add == 262144) (add == 134217728) (add == 68719476736) (add == 35184372088832)
  where
    go : (a b d e f h : Bool) → cond a 0 (cond b 1 (cond d 2 (cond e 3 (cond f 4 (cond h 5 6))))) < 7
    go true b d e f h = omega arith
    go false true d e f h = omega arith
    go false false true e f h = omega arith
    go false false false true f h = omega arith
    go false false false false true h = omega arith
    go false false false false false true = omega arith
    go false false false false false false = omega arith

-- codes of right rows are right
pub code_right : (deal : Showdown) (codes : Codes) (rows : List Row) → length rows ≡ length deal.pots → ((pot : ℕ) (row : Row) → slice_get rows pot ≡ Some row → IsSideRow deal pot codes.ranks codes.least row.mains row.lows row.tops) → AreCodesAt codes.adds codes.ends rows codes.least
    → (place : ℕ) → place < 169 → codes.least ≤ place / 13 → place / 13 ≤ place % 13 → IsCodeFor deal codes place
code_right deal codes rows all right coded place l least order =
    let code = coded place l least order in
    let same : code_of (slice_index codes.adds place) ≡ code.0 = ap code_of code.1.add_is ∙ code_back code.0 code.1.inside in
    record {
      add_is = code.1.add_is ∙ ap field (sym same);
      end_is = λ pot runout p dealt.
          let row = some_row rows pot (omega arith) in
          let best = right pot row.0 row.1 place runout l least order dealt in
          let O : ℕ → Type 0 = λ k. IsBestOf deal pot runout (end_of pot High (slice_index_or codes.ends k [])) (end_of pot Low (slice_index_or codes.ends k [])) (best_value (plain_of deal.state runout) (eligible_in deal pot)) in
          let there : O code.0 = record { low_set = code.1.end_is pot Low row.0 row.1 ∙ best.low_set; main_set = code.1.end_is pot High row.0 row.1 ∙ best.main_set; best = refl } in
          subst O (sym same) there;
    }

pub codes_for : (deal : Showdown) (taken ranks : List ℕ) (least : ℕ) (codes : Codes) → AreCodes deal codes → codes.ranks ≡ ranks → codes.least ≡ least → AreRanksOf ranks taken → ((card : ℕ) (more : List ℕ) → IsRising (taken ++ card ∷ more) → least ≤ rank_of card) → AreCodesFor deal taken codes
codes_for deal taken ranks least codes kept r l of_ranks from =
    let A : List ℕ → Type 0 = λ some. AreRanksOf some taken in
    let F : ℕ → Type 0 = λ n. (card : ℕ) (more : List ℕ) → IsRising (taken ++ card ∷ more) → n ≤ rank_of card in
    record { of_ranks = subst A (sym r) of_ranks; from_least = subst F (sym l) from; right = kept }

-- a pair that makes nobody a flush has a code
pub pair_code : (deal : Showdown) (taken : List ℕ) (codes : Codes) (pair : Pair) → Keeps → IsScene deal.state (taken ++ cards_of_pair pair) → ((pot : ℕ) → pot < length deal.pots → AreBelow (length deal.state.hands) (eligible_in deal pot))
    → AreCodesFor deal taken codes → codes.enough ≡ true → HasNoFlush deal.state ((taken ++ cards_of_pair pair) ∷ []) → (code : ℕ) × IsCodeOf deal taken codes pair code
pair_code deal taken codes pair keeps scene below are enough plain =
    let there = ranks_there deal.state taken pair.low pair.high pair.ranks codes.least scene are.from_least pair.by_rank in
    let at = are.right enough pair.ranks (pair_inside deal.state taken pair.low pair.high pair.ranks scene pair.by_rank) there.0 there.1 in
    let dealt = dealt_there deal.state taken codes.ranks pair.low pair.high pair.ranks scene are.of_ranks pair.by_rank in
    let code : ℕ = code_of (slice_index codes.adds pair.ranks) in (
      code,
      record {
        inside = code_small (slice_index codes.adds pair.ranks);
        add_is = at.add_is;
        end_is = λ pot side p has. pair_end deal taken pair pot side _ _ _ keeps scene (below pot p) (at.end_is pot _ p dealt) plain ∙ by_side pot side codes code;
      },
    )
  where
    pair_end : (deal : Showdown) (taken : List ℕ) (pair : Pair) (pot : ℕ) (side : Side) (main low top : ℕ) → Keeps → IsScene deal.state (taken ++ cards_of_pair pair) → AreBelow (length deal.state.hands) (eligible_in deal pot) → IsBestOf deal pot ((taken ++ cards_of_pair pair) ∷ []) main low top → HasNoFlush deal.state ((taken ++ cards_of_pair pair) ∷ [])
        → pair_place deal taken pot side pair ≡ of_side side main low
    pair_end deal taken pair pot High main low top keeps scene below best plain = sym (plain_main deal pot (taken ++ cards_of_pair pair) main low top keeps scene below best plain)
    pair_end deal taken pair pot Low main low top keeps scene below best plain = sym best.low_set

    by_side : (pot : ℕ) (side : Side) (codes : Codes) (code : ℕ) → of_side side (end_of pot High (slice_index_or codes.ends code [])) (end_of pot Low (slice_index_or codes.ends code [])) ≡ slice_index (ends_of pot side codes.ends) code
    by_side pot High codes code = sym (ends_index pot High codes.ends code)
    by_side pot Low codes code = sym (ends_index pot Low codes.ends code)

-- one piece after another
take_none : {X : Type 0} (n : ℕ) → take {A = X} n [] ≡ []
take_none zero = refl
take_none (suc n) = refl

pub take_range : {X : Type 0} (xs : List X) (at end : ℕ) → at ≤ end → take end xs ≡ take at xs ++ slice_range xs at end
take_range [] at end l = rw (take_none end, take_none at, range-none at end) refl
take_range (x ∷ xs) zero end l = let e : end - 0 ≡ end = omega arith in rw e refl
take_range (x ∷ xs) (suc at) zero l = absurd (omega arith)
take_range (x ∷ xs) (suc at) (suc end) l = let e : suc end - suc at ≡ end - at = omega arith in rw e (ap (λ all. x ∷ all) (take_range xs at end (omega arith)))

pub right_as : (deal : Showdown) (pot : ℕ) (ranks : List ℕ) (least : ℕ) (row : Row) → IsNamed row pot ranks least → IsSideRow deal pot row.ranks row.least row.mains row.lows row.tops → IsSideRow deal pot ranks least row.mains row.lows row.tops
right_as deal pot ranks least row named right =
    let R : List ℕ → Type 0 = λ r. IsSideRow deal pot r row.least row.mains row.lows row.tops in
    let L : ℕ → Type 0 = λ l. IsSideRow deal pot ranks l row.mains row.lows row.tops in
    subst L named.least_is (subst R named.ranks_are right)
