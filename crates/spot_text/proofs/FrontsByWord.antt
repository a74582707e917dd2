-- A spot, part by part: the cards that come first, the mark after them, and what stands after that.
use Rattle.std.proofs.Common.{◌≡◌, ℕ, Bool, true, false, cond, List, [], ◌∷◌, drop, get_or, refl, sym, ap, ◌∙◌, Some, None}
use Rattle.std.specs.Prelude.{Option, IsTrue, MatchOption, is_some}
use Rattle.std.specs.List.{onto_first, before_first, after_first}
use Rattle.card_sets.specs.CardText.{card_of_text}
use Rattle.card_sets.proofs.CallerLemmas.{false_unless}
use Rattle.spot_text.specs.declared.walk.Mark.{Mark}
use Rattle.spot_text.specs.declared.walk.Mark.TheVariants.{Dash, Dashes, Slash, End, Other}
use Rattle.spot_text.specs.declared.walk.Table.{Table}
use Rattle.spot_text.specs.Parts.{is_slash, is_dashes, is_dash, hand_words, board_words, dead_words, cards_of, set_of, in_form}
use Rattle.spot_text.specs.Sections.{Section, Hands, Board, Dead, section_behind, stands_from}
use Rattle.spot_text.specs.Fronts.{front_cards, from_mark, mark_of, ends_hands}
use Rattle.spot_text.specs.Collected.{HasTable}
use Rattle.spot_text.proofs.PartsByWord.{before_yes, before_no, after_yes, after_no, slash_first, dashes_first, hand_first, none_first, onto_words}
use Rattle.spot_text.proofs.FormByWord.{rest_stands, stands_step, stands_none}
use Rattle.spot_text.proofs.KnownCards.{no_slash, no_dash, no_dashes}

-- a card is no mark
pub record NoMark (w : List ℕ) : Type 0 where
  pub slash : is_slash w ≡ false
  pub dashes : is_dashes w ≡ false
  pub dash : is_dash w ≡ false

pub no_mark : (w : List ℕ) → is_some (card_of_text w) ≡ true → NoMark w
no_mark w h = record {
  slash = false_unless (is_slash w) (λ now. sym (ap is_some (no_slash w now)) ∙ h);
  dashes = false_unless (is_dashes w) (λ now. sym (ap is_some (no_dashes w now)) ∙ h);
  dash = false_unless (is_dash w) (λ now. sym (ap is_some (no_dash w now)) ∙ h);
}

card_section : (s : Section) (w : List ℕ) → is_some (card_of_text w) ≡ true → section_behind s w ≡ Some s
card_section Hands w h = let m = no_mark w h in rw (m.slash, m.dashes, m.dash, h) refl
card_section Board w h = let m = no_mark w h in rw (m.slash, h) refl
card_section Dead w h = rw h refl

-- cards that come first change neither the form nor the parts after them
pub record Cut (ws : List (List ℕ)) : Type 0 where
  pub hands : hand_words ws ≡ onto_words (front_cards ws) (hand_words (from_mark ws))
  pub board : board_words ws ≡ board_words (from_mark ws)
  pub dead : dead_words ws ≡ dead_words (from_mark ws)
  pub form : (s : Section) → stands_from s ws ≡ stands_from s (from_mark ws)

pub cut : (ws : List (List ℕ)) → Cut ws
unfolding front_cards from_mark onto_words
cut [] = record { hands = refl; board = refl; dead = refl; form = λ s. refl }
cut (w ∷ ws) = at (is_some (card_of_text w)) refl (cut ws)
  where
    at : (b : Bool) → is_some (card_of_text w) ≡ b → Cut ws → Cut (w ∷ ws)
    at true e rest =
        let m = no_mark w e in
        let p = hand_first w ws m.slash m.dashes in
        let front : front_cards (w ∷ ws) ≡ w ∷ front_cards ws = rw e refl in
        let from : from_mark (w ∷ ws) ≡ from_mark ws = rw e refl in
        record {
          hands =
              p.0 ∙ ap (λ b. cond b ([] ∷ hand_words ws) (onto_first w (hand_words ws))) m.dash ∙ ap (onto_first w) rest.hands
              ∙ ap (λ f. onto_words f (hand_words (from_mark ws))) (sym front)
              ∙ ap (λ f. onto_words (front_cards (w ∷ ws)) (hand_words f)) (sym from);
          board = p.1 ∙ rest.board ∙ ap board_words (sym from);
          dead = p.2 ∙ rest.dead ∙ ap dead_words (sym from);
          form = λ s. stands_step s w ws ∙ ap (rest_stands ws) (card_section s w e) ∙ rest.form s ∙ ap (stands_from s) (sym from);
        }
    at false e rest =
        let front : front_cards (w ∷ ws) ≡ [] = rw e refl in
        let from : from_mark (w ∷ ws) ≡ w ∷ ws = rw e refl in
        record {
          hands = sym (ap (λ f. onto_words f (hand_words (from_mark (w ∷ ws)))) front ∙ ap hand_words from);
          board = sym (ap board_words from);
          dead = sym (ap dead_words from);
          form = λ s. sym (ap (stands_from s) from);
        }

-- one card more, another word, and no word
pub front_more : (w : List ℕ) (ws left : List (List ℕ)) (card : ℕ) (o : Option ℕ) → left ≡ w ∷ ws → o ≡ card_of_text w → o ≡ Some card →
    (front_cards left ≡ w ∷ front_cards ws) × (from_mark left ≡ from_mark ws)
unfolding front_cards from_mark
front_more w ws left card o more is some =
    let named : is_some (card_of_text w) ≡ true = ap is_some (sym is ∙ some) in
    let front : front_cards (w ∷ ws) ≡ w ∷ front_cards ws = rw named refl in
    let from : from_mark (w ∷ ws) ≡ from_mark ws = rw named refl in
    (ap front_cards more ∙ front, ap from_mark more ∙ from)

pub front_ends : (w : List ℕ) (ws left : List (List ℕ)) (o : Option ℕ) → left ≡ w ∷ ws → o ≡ card_of_text w → o ≡ None →
    (front_cards left ≡ []) × (from_mark left ≡ w ∷ ws)
unfolding front_cards from_mark
front_ends w ws left o more is none =
    let named : is_some (card_of_text w) ≡ false = ap is_some (sym is ∙ none) in
    let front : front_cards (w ∷ ws) ≡ [] = rw named refl in
    let from : from_mark (w ∷ ws) ≡ w ∷ ws = rw named refl in
    (ap front_cards more ∙ front, ap from_mark more ∙ from)

pub front_none : (left : List (List ℕ)) → left ≡ [] → (front_cards left ≡ []) × (from_mark left ≡ [])
unfolding front_cards from_mark
front_none left none = (ap front_cards none, ap from_mark none)

-- where no mark stands after the cards, all words are cards
pub front_all : (ws : List (List ℕ)) → from_mark ws ≡ [] → front_cards ws ≡ ws
unfolding front_cards from_mark
front_all [] h = refl
front_all (w ∷ ws) h = at (is_some (card_of_text w)) refl (λ e. front_all ws e)
  where
    at : (b : Bool) → is_some (card_of_text w) ≡ b → (from_mark ws ≡ [] → front_cards ws ≡ ws) → front_cards (w ∷ ws) ≡ w ∷ ws
    at true e rest =
        let front : front_cards (w ∷ ws) ≡ w ∷ front_cards ws = rw e refl in
        let from : from_mark (w ∷ ws) ≡ from_mark ws = rw e refl in
        front ∙ ap (λ f. w ∷ f) (rest (sym from ∙ h))
    at false e rest =
        let from : from_mark (w ∷ ws) ≡ w ∷ ws = rw e refl in
        let none : w ∷ ws ≡ [] = sym from ∙ h in
        cc

-- the first word after the cards is none
pub first_no_card : (ws fs : List (List ℕ)) (w : List ℕ) → from_mark ws ≡ w ∷ fs → is_some (card_of_text w) ≡ false
unfolding from_mark
first_no_card [] fs w h = cc
first_no_card (v ∷ ws) fs w h = at (is_some (card_of_text v)) refl (λ e. first_no_card ws fs w e)
  where
    at : (b : Bool) → is_some (card_of_text v) ≡ b → (from_mark ws ≡ w ∷ fs → is_some (card_of_text w) ≡ false) → is_some (card_of_text w) ≡ false
    at true e rest = let from : from_mark (v ∷ ws) ≡ from_mark ws = rw e refl in rest (sym from ∙ h)
    at false e rest =
        let from : from_mark (v ∷ ws) ≡ v ∷ ws = rw e refl in
        let same : v ∷ ws ≡ w ∷ fs = sym from ∙ h in
        let first : v ≡ w = cc in
        ap (λ x. is_some (card_of_text x)) (sym first) ∙ e

-- the board is what stands before the slash
pub before_slash : (ws rest : List (List ℕ)) (w : List ℕ) → from_mark ws ≡ w ∷ rest → is_slash w ≡ true →
    (before_first is_slash ws ≡ front_cards ws) × (after_first is_slash ws ≡ rest)
unfolding front_cards from_mark
before_slash [] rest w h slash = cc
before_slash (v ∷ ws) rest w h slash = at (is_some (card_of_text v)) refl (λ e. before_slash ws rest w e slash)
  where
    at : (b : Bool) → is_some (card_of_text v) ≡ b → (from_mark ws ≡ w ∷ rest → (before_first is_slash ws ≡ front_cards ws) × (after_first is_slash ws ≡ rest)) →
        (before_first is_slash (v ∷ ws) ≡ front_cards (v ∷ ws)) × (after_first is_slash (v ∷ ws) ≡ rest)
    at true e later =
        let m = no_mark v e in
        let front : front_cards (v ∷ ws) ≡ v ∷ front_cards ws = rw e refl in
        let from : from_mark (v ∷ ws) ≡ from_mark ws = rw e refl in
        let p = later (sym from ∙ h) in (
          before_no is_slash v ws m.slash ∙ ap (λ f. v ∷ f) p.0 ∙ sym front,
          after_no is_slash v ws m.slash ∙ p.1,
        )
    at false e later =
        let front : front_cards (v ∷ ws) ≡ [] = rw e refl in
        let from : from_mark (v ∷ ws) ≡ v ∷ ws = rw e refl in
        let same : v ∷ ws ≡ w ∷ rest = sym from ∙ h in
        let first : v ≡ w = cc in
        let others : ws ≡ rest = cc in
        let yes : is_slash v ≡ true = ap is_slash first ∙ slash in (
          before_yes is_slash v ws yes ∙ sym front,
          after_yes is_slash v ws yes ∙ others,
        )

-- without a slash all words are the board
pub no_slash_all : (ws : List (List ℕ)) → from_mark ws ≡ [] → (before_first is_slash ws ≡ ws) × (after_first is_slash ws ≡ [])
unfolding from_mark
no_slash_all [] h = (refl, refl)
no_slash_all (v ∷ ws) h = at (is_some (card_of_text v)) refl (λ e. no_slash_all ws e)
  where
    at : (b : Bool) → is_some (card_of_text v) ≡ b → (from_mark ws ≡ [] → (before_first is_slash ws ≡ ws) × (after_first is_slash ws ≡ [])) →
        (before_first is_slash (v ∷ ws) ≡ v ∷ ws) × (after_first is_slash (v ∷ ws) ≡ [])
    at true e later =
        let m = no_mark v e in
        let from : from_mark (v ∷ ws) ≡ from_mark ws = rw e refl in
        let p = later (sym from ∙ h) in (
          before_no is_slash v ws m.slash ∙ ap (λ f. v ∷ f) p.0,
          after_no is_slash v ws m.slash ∙ p.1,
        )
    at false e later =
        let from : from_mark (v ∷ ws) ≡ v ∷ ws = rw e refl in
        let none : v ∷ ws ≡ [] = sym from ∙ h in
        cc

-- what the first word of others is, as its mark says
pub record Begins (fs : List (List ℕ)) (slash dashes dash : Bool) : Type 0 where
  pub word : List ℕ
  pub is : fs ≡ word ∷ drop 1 fs
  pub on_slash : is_slash word ≡ slash
  pub on_dashes : is_dashes word ≡ dashes
  pub on_dash : is_dash word ≡ dash

marked : (w : List ℕ) (ws : List (List ℕ)) (a b c : Bool) → is_slash w ≡ a → is_dashes w ≡ b → is_dash w ≡ c →
    mark_of (w ∷ ws) ≡ cond a Slash (cond b Dashes (cond c Dash Other))
marked w ws a b c e f g = rw (e, f, g) refl

pub mark_end : (fs : List (List ℕ)) → mark_of fs ≡ End → fs ≡ []
mark_end [] h = refl
mark_end (w ∷ ws) h = at (is_slash w) (is_dashes w) (is_dash w) (sym (marked w ws _ _ _ refl refl refl) ∙ h)
  where
    at : (a b c : Bool) → cond a Slash (cond b Dashes (cond c Dash Other)) ≡ End → w ∷ ws ≡ []
    at true b c h = cc
    at false true c h = cc
    at false false true h = cc
    at false false false h = cc

pub mark_slash : (fs : List (List ℕ)) → mark_of fs ≡ Slash → Begins fs true (is_dashes (get_or fs 0 [])) (is_dash (get_or fs 0 []))
mark_slash [] h = cc
mark_slash (w ∷ ws) h = at (is_slash w) (is_dashes w) (is_dash w) refl (sym (marked w ws _ _ _ refl refl refl) ∙ h)
  where
    at : (a b c : Bool) → is_slash w ≡ a → cond a Slash (cond b Dashes (cond c Dash Other)) ≡ Slash → Begins (w ∷ ws) true (is_dashes w) (is_dash w)
    at true b c e h = record { word = w; is = refl; on_slash = e; on_dashes = refl; on_dash = refl }
    at false true c e h = cc
    at false false true e h = cc
    at false false false e h = cc

pub mark_dashes : (fs : List (List ℕ)) → mark_of fs ≡ Dashes → Begins fs false true (is_dash (get_or fs 0 []))
mark_dashes [] h = cc
mark_dashes (w ∷ ws) h = at (is_slash w) (is_dashes w) (is_dash w) refl refl (sym (marked w ws _ _ _ refl refl refl) ∙ h)
  where
    at : (a b c : Bool) → is_slash w ≡ a → is_dashes w ≡ b → cond a Slash (cond b Dashes (cond c Dash Other)) ≡ Dashes → Begins (w ∷ ws) false true (is_dash w)
    at true b c e f h = cc
    at false true c e f h = record { word = w; is = refl; on_slash = e; on_dashes = f; on_dash = refl }
    at false false true e f h = cc
    at false false false e f h = cc

pub mark_dash : (fs : List (List ℕ)) → mark_of fs ≡ Dash → Begins fs false false true
mark_dash [] h = cc
mark_dash (w ∷ ws) h = at (is_slash w) (is_dashes w) (is_dash w) refl refl refl (sym (marked w ws _ _ _ refl refl refl) ∙ h)
  where
    at : (a b c : Bool) → is_slash w ≡ a → is_dashes w ≡ b → is_dash w ≡ c → cond a Slash (cond b Dashes (cond c Dash Other)) ≡ Dash → Begins (w ∷ ws) false false true
    at true b c e f g h = cc
    at false true c e f g h = cc
    at false false true e f g h = record { word = w; is = refl; on_slash = e; on_dashes = f; on_dash = g }
    at false false false e f g h = cc

pub mark_other : (fs : List (List ℕ)) → mark_of fs ≡ Other → Begins fs false false false
mark_other [] h = cc
mark_other (w ∷ ws) h = at (is_slash w) (is_dashes w) (is_dash w) refl refl refl (sym (marked w ws _ _ _ refl refl refl) ∙ h)
  where
    at : (a b c : Bool) → is_slash w ≡ a → is_dashes w ≡ b → is_dash w ≡ c → cond a Slash (cond b Dashes (cond c Dash Other)) ≡ Other → Begins (w ∷ ws) false false false
    at true b c e f g h = cc
    at false true c e f g h = cc
    at false false true e f g h = cc
    at false false false e f g h = record { word = w; is = refl; on_slash = e; on_dashes = f; on_dash = g }

-- the form and the parts after a mark
pub record Behind (fs : List (List ℕ)) (hands : List (List (List ℕ))) (board dead : List (List ℕ)) (form : Bool) : Type 0 where
  pub is_hands : hand_words fs ≡ hands
  pub is_board : board_words fs ≡ board
  pub is_dead : dead_words fs ≡ dead
  pub is_form : in_form fs ≡ form

pub behind_end : (fs : List (List ℕ)) → mark_of fs ≡ End → Behind fs ([] ∷ []) [] [] true
behind_end fs h =
    let none = mark_end fs h in
    record {
      is_hands = ap hand_words none ∙ none_first.0;
      is_board = ap board_words none ∙ none_first.1;
      is_dead = ap dead_words none ∙ none_first.2;
      is_form = ap in_form none ∙ stands_none Hands;
    }

pub behind_slash : (fs : List (List ℕ)) → mark_of fs ≡ Slash → Behind fs ([] ∷ []) [] (drop 1 fs) (stands_from Dead (drop 1 fs))
behind_slash fs h =
    let b = mark_slash fs h in
    let p = slash_first b.word (drop 1 fs) b.on_slash in
    let to : section_behind Hands b.word ≡ Some Dead = rw b.on_slash refl in
    record {
      is_hands = ap hand_words b.is ∙ p.0;
      is_board = ap board_words b.is ∙ p.1;
      is_dead = ap dead_words b.is ∙ p.2;
      is_form = ap in_form b.is ∙ stands_step Hands b.word (drop 1 fs) ∙ ap (rest_stands (drop 1 fs)) to;
    }

pub behind_dashes : (fs : List (List ℕ)) → mark_of fs ≡ Dashes →
    Behind fs ([] ∷ []) (before_first is_slash (drop 1 fs)) (after_first is_slash (drop 1 fs)) (stands_from Board (drop 1 fs))
behind_dashes fs h =
    let b = mark_dashes fs h in
    let p = dashes_first b.word (drop 1 fs) b.on_slash b.on_dashes in
    let to : section_behind Hands b.word ≡ Some Board = rw (b.on_slash, b.on_dashes) refl in
    record {
      is_hands = ap hand_words b.is ∙ p.0;
      is_board = ap board_words b.is ∙ p.1;
      is_dead = ap dead_words b.is ∙ p.2;
      is_form = ap in_form b.is ∙ stands_step Hands b.word (drop 1 fs) ∙ ap (rest_stands (drop 1 fs)) to;
    }

pub behind_dash : (fs : List (List ℕ)) → mark_of fs ≡ Dash →
    Behind fs ([] ∷ hand_words (drop 1 fs)) (board_words (drop 1 fs)) (dead_words (drop 1 fs)) (in_form (drop 1 fs))
behind_dash fs h =
    let b = mark_dash fs h in
    let p = hand_first b.word (drop 1 fs) b.on_slash b.on_dashes in
    let to : section_behind Hands b.word ≡ Some Hands = rw (b.on_slash, b.on_dashes, b.on_dash) refl in
    record {
      is_hands = ap hand_words b.is ∙ p.0 ∙ ap (λ d. cond d ([] ∷ hand_words (drop 1 fs)) (onto_first b.word (hand_words (drop 1 fs)))) b.on_dash;
      is_board = ap board_words b.is ∙ p.1;
      is_dead = ap dead_words b.is ∙ p.2;
      is_form = ap in_form b.is ∙ stands_step Hands b.word (drop 1 fs) ∙ ap (rest_stands (drop 1 fs)) to;
    }

-- after some cards no other word may stand
pub behind_other : (ws : List (List ℕ)) → mark_of (from_mark ws) ≡ Other → (s : Section) → stands_from s ws ≡ false
behind_other ws h s =
    let fs = from_mark ws in
    let b = mark_other fs h in
    let none : is_some (card_of_text b.word) ≡ false = first_no_card ws (drop 1 fs) b.word b.is in
    (cut ws).form s ∙ ap (stands_from s) b.is ∙ stands_step s b.word (drop 1 fs) ∙ ap (rest_stands (drop 1 fs)) (at s b.word b.on_slash b.on_dashes b.on_dash none)
  where
    at : (s : Section) (w : List ℕ) → is_slash w ≡ false → is_dashes w ≡ false → is_dash w ≡ false → is_some (card_of_text w) ≡ false → section_behind s w ≡ None
    at Hands w e f g none = rw (e, f, g, none) refl
    at Board w e f g none = rw (e, none) refl
    at Dead w e f g none = rw none refl

-- all words are dead cards where no mark stands after those that come first, and else one of them is none
pub dead_stand : (ws : List (List ℕ)) → mark_of (from_mark ws) ≡ End → (stands_from Dead ws ≡ true) × (front_cards ws ≡ ws)
dead_stand ws h =
    let none = mark_end (from_mark ws) h in
    ((cut ws).form Dead ∙ ap (stands_from Dead) none, front_all ws none)

pub board_stands : (ws : List (List ℕ)) → mark_of (from_mark ws) ≡ End →
    (stands_from Board ws ≡ true) × (before_first is_slash ws ≡ front_cards ws) × (after_first is_slash ws ≡ [])
board_stands ws h =
    let none = mark_end (from_mark ws) h in
    let p = no_slash_all ws none in
    ((cut ws).form Board ∙ ap (stands_from Board) none, p.0 ∙ sym (front_all ws none), p.1)

pub board_slash : (ws : List (List ℕ)) → mark_of (from_mark ws) ≡ Slash →
    (stands_from Board ws ≡ stands_from Dead (drop 1 (from_mark ws))) × (before_first is_slash ws ≡ front_cards ws) × (after_first is_slash ws ≡ drop 1 (from_mark ws))
board_slash ws h =
    let fs = from_mark ws in
    let b = mark_slash fs h in
    let p = before_slash ws (drop 1 fs) b.word b.is b.on_slash in
    let to : section_behind Board b.word ≡ Some Dead = rw b.on_slash refl in
    ((cut ws).form Board ∙ ap (stands_from Board) b.is ∙ stands_step Board b.word (drop 1 fs) ∙ ap (rest_stands (drop 1 fs)) to, p.0, p.1)

no_card_stops : (s : Section) (ws rest : List (List ℕ)) (w : List ℕ) → from_mark ws ≡ w ∷ rest → (is_some (card_of_text w) ≡ false → section_behind s w ≡ None) →
    stands_from s ws ≡ false
no_card_stops s ws rest w is stops =
    (cut ws).form s ∙ ap (stands_from s) is ∙ stands_step s w rest ∙ ap (rest_stands rest) (stops (first_no_card ws rest w is))

pub dead_stops : (ws : List (List ℕ)) → (mark_of (from_mark ws) ≡ End → ⊥) → stands_from Dead ws ≡ false
dead_stops ws h = at (from_mark ws) refl
  where
    at : (fs : List (List ℕ)) → from_mark ws ≡ fs → stands_from Dead ws ≡ false
    at [] e = absurd (h (ap mark_of e))
    at (w ∷ rest) e = no_card_stops Dead ws rest w e (λ none. rw none refl)

pub board_stops : (ws : List (List ℕ)) → (mark_of (from_mark ws) ≡ End → ⊥) → (mark_of (from_mark ws) ≡ Slash → ⊥) → stands_from Board ws ≡ false
board_stops ws h slash = at (from_mark ws) refl
  where
    at : (fs : List (List ℕ)) → from_mark ws ≡ fs → stands_from Board ws ≡ false
    at [] e = absurd (h (ap mark_of e))
    at (w ∷ rest) e = no_card_stops Board ws rest w e (λ none.
        let other : is_slash w ≡ false = false_unless (is_slash w) (λ now. absurd (slash (ap mark_of e ∙ (let is : mark_of (w ∷ rest) ≡ Slash = rw now refl in is)))) in
        rw (other, none) refl)

-- a mark that ends the hands and is none of three is no mark
pub no_mark_left : (m : Mark) → ends_hands m ≡ true → (m ≡ Dashes → ⊥) → (m ≡ Slash → ⊥) → (m ≡ End → ⊥) → m ≡ Other
no_mark_left Dash h a b c = cc
no_mark_left Dashes h a b c = absurd (a refl)
no_mark_left Slash h a b c = absurd (b refl)
no_mark_left End h a b c = absurd (c refl)
no_mark_left Other h a b c = refl

pub dash_left : (m : Mark) → ends_hands m ≡ false → m ≡ Dash
dash_left Dash h = refl
dash_left Dashes h = cc
dash_left Slash h = cc
dash_left End h = cc
dash_left Other h = cc

-- the board and the dead cards after a mark
pub has_table : (fs board dead : List (List ℕ)) (form : Bool) (table : Table) → Behind fs ([] ∷ []) board dead form → form ≡ true →
    table.board ≡ set_of (cards_of board) → table.dead ≡ set_of (cards_of dead) → HasTable fs table
has_table fs board dead form table h formed on_board are_dead = record {
  form = h.is_form ∙ formed;
  hands = h.is_hands;
  board = on_board ∙ ap (λ l. set_of (cards_of l)) (sym h.is_board);
  dead = are_dead ∙ ap (λ l. set_of (cards_of l)) (sym h.is_dead);
}

pub not_formed : (ws : List (List ℕ)) (hands : List (List (List ℕ))) (board dead : List (List ℕ)) (form : Bool) → Behind (from_mark ws) hands board dead form → form ≡ false →
    in_form ws ≡ false
not_formed ws hands board dead form h bad = (cut ws).form Hands ∙ h.is_form ∙ bad

pub table_dashes : (ws left : List (List ℕ)) (o : Option Table) → mark_of (from_mark ws) ≡ Dashes → left ≡ drop 1 (from_mark ws) →
    MatchOption o (stands_from Board left ≡ false)
    (λ table. IsTrue (stands_from Board left) × (table.board ≡ set_of (cards_of (before_first is_slash left))) × (table.dead ≡ set_of (cards_of (after_first is_slash left)))) →
    MatchOption o (in_form ws ≡ false) (λ table. HasTable (from_mark ws) table)
table_dashes ws left None mark rest h = not_formed ws _ _ _ _ (behind_dashes (from_mark ws) mark) (ap (stands_from Board) (sym rest) ∙ h)
table_dashes ws left (Some table) mark rest h =
    has_table _ _ _ _ _ (behind_dashes (from_mark ws) mark) (ap (stands_from Board) (sym rest) ∙ h.0)
    (h.1 ∙ ap (λ l. set_of (cards_of (before_first is_slash l))) rest) (h.2 ∙ ap (λ l. set_of (cards_of (after_first is_slash l))) rest)
