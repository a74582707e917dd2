-- The form of a spot, word by word.
use Rattle.std.proofs.Common.{◌≡◌, ℕ, Bool, true, false, cond, ◌&&◌, List, [], ◌∷◌, refl, sym, ap, ◌∙◌, Some, None}
use Rattle.std.specs.Prelude.{Option, is_some}
use Rattle.std.specs.Option.{option_map_or}
use Rattle.std.specs.List.{list_all, onto_first, before_first, after_first}
use Rattle.card_sets.specs.CardText.{card_of_text}
use Rattle.spot_text.specs.Parts.{is_slash, is_dashes, is_dash, hand_words, board_words, dead_words, all_cards, in_form}
use Rattle.spot_text.specs.Sections.{Section, Hands, Board, Dead, behind_card, section_behind, stands_from}
use Rattle.spot_text.proofs.PartsByWord.{before_yes, before_no, after_yes, after_no, slash_first, dashes_first, hand_first, none_first}

-- what stands after a word that may or may not stand where it is
abbrev pub rest_stands : List (List ℕ) → Option Section → Bool
rest_stands ws behind = option_map_or (λ s. stands_from s ws) behind false

onto_all : (w : List ℕ) (hands : List (List (List ℕ))) → list_all all_cards (onto_first w hands) ≡ (is_some (card_of_text w) && list_all all_cards hands)
onto_all w [] = at (is_some (card_of_text w))
  where
    at : (b : Bool) → ((b && true) && true) ≡ (b && true)
    at true = refl
    at false = refl
onto_all w (h ∷ hands) = at (is_some (card_of_text w)) (all_cards h) (list_all all_cards hands)
  where
    at : (a b c : Bool) → ((a && b) && c) ≡ (a && (b && c))
    at true b c = refl
    at false b c = refl

behind_is : (s : Section) (w : List ℕ) (ws : List (List ℕ)) (b : Bool) → is_some (card_of_text w) ≡ b →
    rest_stands ws (behind_card s w) ≡ (b && stands_from s ws)
behind_is s w ws true e = rw e refl
behind_is s w ws false e = rw e refl

three : (a b c : Bool) → ((a && b) && c) ≡ (a && (b && c))
three true b c = refl
three false b c = refl

pub stands_step : (s : Section) (w : List ℕ) (ws : List (List ℕ)) → stands_from s (w ∷ ws) ≡ rest_stands ws (section_behind s w)
stands_step Dead w ws = sym (behind_is Dead w ws (is_some (card_of_text w)) refl)
stands_step Board w ws = at (is_slash w) refl
  where
    at : (a : Bool) → is_slash w ≡ a →
        (all_cards (before_first is_slash (w ∷ ws)) && all_cards (after_first is_slash (w ∷ ws))) ≡ rest_stands ws (cond a (Some Dead) (behind_card Board w))
    at true e = rw (before_yes is_slash w ws e, after_yes is_slash w ws e) refl
    at false e =
        ap (λ l. all_cards l && all_cards (after_first is_slash (w ∷ ws))) (before_no is_slash w ws e)
        ∙ ap (λ l. (is_some (card_of_text w) && all_cards (before_first is_slash ws)) && all_cards l) (after_no is_slash w ws e)
        ∙ three (is_some (card_of_text w)) (all_cards (before_first is_slash ws)) (all_cards (after_first is_slash ws))
        ∙ sym (behind_is Board w ws (is_some (card_of_text w)) refl)
stands_step Hands w ws = at (is_slash w) (is_dashes w) (is_dash w) refl refl refl
  where
    same : (hands hands' : List (List (List ℕ))) (board board' dead dead' : List (List ℕ)) → hands ≡ hands' → board ≡ board' → dead ≡ dead' →
        (list_all all_cards hands && (all_cards board && all_cards dead)) ≡ (list_all all_cards hands' && (all_cards board' && all_cards dead'))
    same hands hands' board board' dead dead' e f g = rw (e, f, g) refl

    at : (a b c : Bool) → is_slash w ≡ a → is_dashes w ≡ b → is_dash w ≡ c →
        in_form (w ∷ ws) ≡ rest_stands ws (cond a (Some Dead) (cond b (Some Board) (cond c (Some Hands) (behind_card Hands w))))
    at true b c e f g = let p = slash_first w ws e in same _ _ _ _ _ _ p.0 p.1 p.2
    at false true c e f g = let p = dashes_first w ws e f in same _ _ _ _ _ _ p.0 p.1 p.2
    at false false true e f g =
        let p = hand_first w ws e f in
        let dash = p.0 ∙ ap (λ b. cond b ([] ∷ hand_words ws) (onto_first w (hand_words ws))) g in
        same _ _ _ _ _ _ dash p.1 p.2
    at false false false e f g =
        let p = hand_first w ws e f in
        let card = p.0 ∙ ap (λ b. cond b ([] ∷ hand_words ws) (onto_first w (hand_words ws))) g in
        same _ _ _ _ _ _ card p.1 p.2
        ∙ ap (λ b. b && (all_cards (board_words ws) && all_cards (dead_words ws))) (onto_all w (hand_words ws))
        ∙ three (is_some (card_of_text w)) (list_all all_cards (hand_words ws)) (all_cards (board_words ws) && all_cards (dead_words ws))
        ∙ sym (behind_is Hands w ws (is_some (card_of_text w)) refl)

pub stands_none : (s : Section) → stands_from s [] ≡ true
stands_none Hands = rw (none_first.0, none_first.1, none_first.2) refl
stands_none Board = refl
stands_none Dead = refl
