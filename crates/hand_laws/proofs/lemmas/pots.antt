-- Who may win which pot, and how evenly it is shared: `law_eligible_players_reach_the_level`, `law_no_two_pots_have_the_same_players`, `law_two_halves_add_up`, `law_two_sides_share_a_pot`, `law_winners_of_a_side_get_the_same_or_one_more`, `law_what_is_uncalled_comes_back`, `law_dead_chips_are_in_the_first_pot`.
pub mod LevelPlayers
pub mod DifferentPots
pub mod TwoSides
pub mod SharedEvenly
pub mod UncalledBets
pub mod DeadUnits
