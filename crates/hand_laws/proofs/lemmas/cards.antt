-- Places of cards, two boards, draws and what is kept: `law_places_of_cards`, `law_two_boards`, `law_the_last_draw`, `law_kept_cards_are_held`.
pub mod PlacesSince
pub mod TwoBoards
pub mod LastDraws
pub mod KeptCards
