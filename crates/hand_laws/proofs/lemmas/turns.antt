-- Whose turn it is, and who is at the all-in point: `law_turns_are_taken`, `law_nobody_is_passed_over`, `law_a_point_has_contenders`.
pub mod TurnOrder
pub mod PointContenders
