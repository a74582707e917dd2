-- Lines that stand and lines that are followed by a split: `law_lines_before_stand`, and of `law_players_are_due_what_they_got` the hands that are rejected for a payment.
pub mod LinesBefore
pub mod SplitLines
