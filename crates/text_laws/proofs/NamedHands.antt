-- What items name, worked out over all hands.
use Rattle.std.proofs.Common.{◌≡◌, true, false, [], ◌∷◌, refl}
use Rattle.std.specs.Prelude.{codes}
use Rattle.card_sets.specs.CardText.{card_of_letters}
use Rattle.card_sets.specs.Cards.{cards_where}
use Rattle.range_lines.specs.Hands.{all_pairs, is_range}
use Rattle.text_laws.specs.ItemHands.{IsRangeOf, range_of}
use Rattle.range_lines.specs.Items.{rank_named}

pub one_hand : range_of (codes "AsKh") ≡ record { hand = 46 ∷ 51 ∷ []; weight = 1 } ∷ []
unfolding all_pairs cards_where rank_named card_of_letters
one_hand = refl

pub turned_hands : IsRangeOf (codes "KhAs") 1 (codes "AsKh")
unfolding all_pairs cards_where rank_named card_of_letters
turned_hands = record { count = refl; same = refl }

pub pair_hands : IsRangeOf (codes "TT") 6 (codes "TcTd,TcTh,TcTs,TdTh,TdTs,ThTs")
unfolding all_pairs cards_where rank_named card_of_letters
pair_hands = record { count = refl; same = refl }

pub pairs_hands : IsRangeOf (codes "TT+") 30 (codes "TT,JJ,QQ,KK,AA")
unfolding all_pairs cards_where rank_named card_of_letters
pairs_hands = record { count = refl; same = refl }

pub suited_hands : IsRangeOf (codes "AKs") 4 (codes "AcKc,AdKd,AhKh,AsKs")
unfolding all_pairs cards_where rank_named card_of_letters
suited_hands = record { count = refl; same = refl }

pub offsuit_hands : IsRangeOf (codes "AKo") 12 (codes "AcKd,AcKh,AcKs,AdKc,AdKh,AdKs,AhKc,AhKd,AhKs,AsKc,AsKd,AsKh")
unfolding all_pairs cards_where rank_named card_of_letters
offsuit_hands = record { count = refl; same = refl }

pub any_hands : IsRangeOf (codes "AK") 16 (codes "AKs,AKo")
unfolding all_pairs cards_where rank_named card_of_letters
any_hands = record { count = refl; same = refl }

pub suited_from_hands : IsRangeOf (codes "A9s+") 20 (codes "A9s,ATs,AJs,AQs,AKs")
unfolding all_pairs cards_where rank_named card_of_letters
suited_from_hands = record { count = refl; same = refl }

pub offsuit_from_hands : IsRangeOf (codes "A9o+") 60 (codes "A9o,ATo,AJo,AQo,AKo")
unfolding all_pairs cards_where rank_named card_of_letters
offsuit_from_hands = record { count = refl; same = refl }

pub any_from_hands : IsRangeOf (codes "A9+") 80 (codes "A9s+,A9o+")
unfolding all_pairs cards_where rank_named card_of_letters
any_from_hands = record { count = refl; same = refl }

pub next_hands : IsRangeOf (codes "JTs+") 4 (codes "JTs")
unfolding all_pairs cards_where rank_named card_of_letters
next_hands = record { count = refl; same = refl }

pub weights_hands : IsRangeOf (codes "AKs:3,AK:2") 16 (codes "AKs:5,AKo:2")
unfolding all_pairs cards_where rank_named card_of_letters
weights_hands = record { count = refl; same = refl }

pub lightest_range : is_range (codes "AA:1") ≡ true
unfolding all_pairs cards_where rank_named card_of_letters
lightest_range = refl

pub heaviest_range : is_range (codes "AA:100") ≡ true
unfolding all_pairs cards_where rank_named card_of_letters
heaviest_range = refl

pub no_weight_range : is_range (codes "AA:0") ≡ false
unfolding all_pairs cards_where rank_named card_of_letters
no_weight_range = refl

pub too_heavy_range : is_range (codes "AA:101") ≡ false
unfolding all_pairs cards_where rank_named card_of_letters
too_heavy_range = refl

pub together_range : is_range (codes "AA:60,AsAh:40") ≡ true
unfolding all_pairs cards_where rank_named card_of_letters
together_range = refl

pub above_range : is_range (codes "AA:60,AsAh:41") ≡ false
unfolding all_pairs cards_where rank_named card_of_letters
above_range = refl

pub one_card_range : is_range (codes "AsAs") ≡ false
unfolding all_pairs cards_where rank_named card_of_letters
one_card_range = refl
