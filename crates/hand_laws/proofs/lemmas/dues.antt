-- What the rules give each seat: `law_parts_give_what_is_due`, `law_dues_add_up_to_what_was_paid`, `law_players_are_due_what_they_got`.
pub mod PartDues
pub mod DueSums
pub mod OtherSeats
pub mod PlayerDues
