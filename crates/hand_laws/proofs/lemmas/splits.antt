-- Pots are split by the rules, and won: `law_pots_are_split_by_the_rules`, `law_pots_go_by_boards`, `law_a_lone_player_wins_a_side_of_each_part`, `law_checked_pots_are_won`, `law_a_mark_is_a_card_of_its_player`, `law_shares_name_their_boards`, `law_sides_won_are_sets_of_winners`, `law_near_payments_are_accepted`.
pub mod RightSplits
pub mod BoardShares
pub mod LonePlayer
pub mod PotsWon
pub mod MarkCards
pub mod NamedBoards
pub mod SidesWon
pub mod NearPayments
