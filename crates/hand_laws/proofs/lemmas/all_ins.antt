-- What is known at an all-in and on the streets after it, and the pots of its table: `law_all_in_cards`, `law_unknown_all_ins_have_unknown_cards`, `law_a_table_has_the_pots_of_the_hand`, `law_later_streets_know_cards`, `law_later_streets_come_in_order`.
pub mod KnownCards
pub mod KnownTable
pub mod UnknownCards
pub mod TablePots
pub mod LaterCards
pub mod LaterOrder
