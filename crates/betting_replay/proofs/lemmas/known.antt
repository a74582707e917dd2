-- For `law_cards_belong` and `law_stud_cards_are_all_that_were_dealt`: the cards of a seat that are known.
pub mod HeldByText
pub mod KnownCards
pub mod StudCards
