-- The hands of a spot, part by part.
use Rattle.std.proofs.Common.{◌≡◌, ℕ, zero, suc, ◌+◌, ◌<◌, ◌≤◌, Bool, true, false, ◌&&◌, List, [], ◌∷◌, ◌++◌, length, drop, replicate, set, refl, sym, ap, ◌∙◌, subst, append_assoc, append-nil, length-append, arith}
use Rattle.std.specs.Prelude.{min}
use Rattle.std.proofs.lemmas.List.Folds.{list_all-append}
use Rattle.card_sets.specs.declared.games.Game.{Game}
use Rattle.spot_text.specs.declared.walk.Mark.TheVariants.{Dash}
use Rattle.spot_text.specs.declared.walk.Table.{Table}
use Rattle.spot_text.specs.declared.walk.ReadHands.{ReadHands}
use Rattle.spot_text.specs.Games.{hand_fits}
use Rattle.spot_text.specs.Sections.{Hands}
use Rattle.spot_text.specs.Parts.{hand_words, board_words, dead_words, in_form, cards_of, set_of}
use Rattle.spot_text.specs.Fronts.{front_cards, from_mark, mark_of}
use Rattle.spot_text.specs.Collected.{HasTable, AreRead, spread, sets_fit}
use Rattle.spot_text.proofs.PartsByWord.{onto_words, onto_empty}
use Rattle.spot_text.proofs.FrontsByWord.{cut, behind_dash}

-- some hands are read, and the others are left
pub record HandsLeft (game : Game) (all left : List (List ℕ)) (read : ReadHands) : Type 0 where
  pub done : List (List (List ℕ))
  pub are_read : AreRead game done read
  pub hands : hand_words all ≡ done ++ hand_words left
  pub board : board_words all ≡ board_words left
  pub dead : dead_words all ≡ dead_words left
  pub form : in_form all ≡ in_form left

pub hands_begin : (game : Game) (all : List (List ℕ)) (read : ReadHands) → AreRead game [] read → HandsLeft game all all read
hands_begin game all read none = record { done = []; are_read = none; hands = refl; board = refl; dead = refl; form = refl }

-- what one more hand does to those that are read
abbrev pub AddsHand : Game → ReadHands → ReadHands → List ℕ → Type 0
AddsHand game read read' cards = (hands : List (List (List ℕ))) (hand : List (List ℕ)) → AreRead game hands read → cards ≡ set_of (cards_of hand) → AreRead game (hands ++ hand ∷ []) read'

first_hand : (left : List (List ℕ)) (hands : List (List (List ℕ))) → hand_words (from_mark left) ≡ [] ∷ hands → hand_words left ≡ front_cards left ∷ hands
first_hand left hands h = (cut left).hands ∙ ap (onto_words (front_cards left)) h ∙ onto_empty (front_cards left) hands

pub hands_more : (game : Game) (all left left' : List (List ℕ)) (read read' : ReadHands) (cards : List ℕ) → HandsLeft game all left read → AddsHand game read read' cards
    → cards ≡ set_of (cards_of (front_cards left)) → mark_of (from_mark left) ≡ Dash → left' ≡ drop 1 (from_mark left) → HandsLeft game all left' read'
hands_more game all left left' read read' cards h adds front dash rest =
    let b = behind_dash (from_mark left) dash in
    record {
      done = h.done ++ front_cards left ∷ [];
      are_read = adds h.done (front_cards left) h.are_read front;
      hands =
          h.hands ∙ ap (λ l. h.done ++ l) (first_hand left (hand_words (drop 1 (from_mark left))) b.is_hands)
          ∙ sym (append_assoc h.done (front_cards left ∷ []) (hand_words (drop 1 (from_mark left))))
          ∙ ap (λ l. (h.done ++ front_cards left ∷ []) ++ hand_words l) (sym rest);
      board = h.board ∙ (cut left).board ∙ b.is_board ∙ ap board_words (sym rest);
      dead = h.dead ∙ (cut left).dead ∙ b.is_dead ∙ ap dead_words (sym rest);
      form = h.form ∙ (cut left).form Hands ∙ b.is_form ∙ ap in_form (sym rest);
    }

-- each hand that is read leaves fewer
pub fewer_left : (left left' : List (List ℕ)) → mark_of (from_mark left) ≡ Dash → left' ≡ drop 1 (from_mark left) → length (hand_words left') < length (hand_words left)
fewer_left left left' dash rest =
    let b = behind_dash (from_mark left) dash in
    omega (arith, ap length (first_hand left (hand_words (drop 1 (from_mark left))) b.is_hands), ap (λ l. length (hand_words l)) rest)

-- after the last hand all is read
pub record AllRead (game : Game) (all : List (List ℕ)) (read : ReadHands) (table : Table) : Type 0 where
  pub form : in_form all ≡ true
  pub hands : AreRead game (hand_words all) read
  pub board : table.board ≡ set_of (cards_of (board_words all))
  pub dead : table.dead ≡ set_of (cards_of (dead_words all))

pub all_read : (game : Game) (all left : List (List ℕ)) (read read' : ReadHands) (cards : List ℕ) (table : Table) → HandsLeft game all left read → AddsHand game read read' cards
    → cards ≡ set_of (cards_of (front_cards left)) → HasTable (from_mark left) table → AllRead game all read' table
all_read game all left read read' cards table h adds front t = record {
  form = h.form ∙ (cut left).form Hands ∙ t.form;
  hands = subst (λ hands. AreRead game hands read') (sym (h.hands ∙ ap (λ l. h.done ++ l) (first_hand left [] t.hands))) (adds h.done (front_cards left) h.are_read front);
  board = t.board ∙ ap (λ l. set_of (cards_of l)) (sym (h.board ∙ (cut left).board));
  dead = t.dead ∙ ap (λ l. set_of (cards_of l)) (sym (h.dead ∙ (cut left).dead));
}

pub none_read : (game : Game) (all left : List (List ℕ)) (read : ReadHands) → HandsLeft game all left read → in_form left ≡ false → in_form all ≡ false
none_read game all left read h bad = h.form ∙ bad

-- the sets of no hand, and of one more
pub spread_none : (n : ℕ) → replicate n [] ≡ spread n []
spread_none zero = refl
spread_none (suc n) = ap (λ sets. [] ∷ sets) (spread_none n)

pub spread_more : (n : ℕ) (hands : List (List (List ℕ))) (hand : List (List ℕ)) → length hands < n → set (spread n hands) (length hands) (set_of (cards_of hand)) ≡ spread n (hands ++ hand ∷ [])
spread_more zero hands hand l = absurd (omega arith)
spread_more (suc n) [] hand l = refl
spread_more (suc n) (first ∷ hands) hand l = ap (λ sets. set_of (cards_of first) ∷ sets) (spread_more n hands hand (omega arith))

pub spread_full : (n : ℕ) (hands : List (List (List ℕ))) (hand : List (List ℕ)) → n ≤ length hands → spread n hands ≡ spread n (hands ++ hand ∷ [])
spread_full zero hands hand l = refl
spread_full (suc n) [] hand l = absurd (omega arith)
spread_full (suc n) (first ∷ hands) hand l = ap (λ sets. set_of (cards_of first) ∷ sets) (spread_full n hands hand (omega arith))

and_true : (b : Bool) → (b && true) ≡ b
and_true true = refl
and_true false = refl

fits_more : (game : Game) (hands : List (List (List ℕ))) (hand : List (List ℕ)) → sets_fit game (hands ++ hand ∷ []) ≡ (sets_fit game hands && hand_fits game (length (set_of (cards_of hand))))
fits_more game hands hand =
    list_all-append (λ part. hand_fits game (length (set_of (cards_of part)))) hands (hand ∷ [])
    ∙ ap (λ b. sets_fit game hands && b) (and_true (hand_fits game (length (set_of (cards_of hand)))))

pub fit_more : (game : Game) (hands : List (List (List ℕ))) (hand : List (List ℕ)) (fit fit' : Bool) (cards : List ℕ) (count : ℕ) → fit ≡ sets_fit game hands → cards ≡ set_of (cards_of hand)
    → count ≡ length cards → fit' ≡ (fit && hand_fits game count) → fit' ≡ sets_fit game (hands ++ hand ∷ [])
fit_more game hands hand fit fit' cards count h is size step =
    step ∙ ap (λ b. b && hand_fits game count) h ∙ ap (λ n. sets_fit game hands && hand_fits game n) (size ∙ ap length is) ∙ sym (fits_more game hands hand)
