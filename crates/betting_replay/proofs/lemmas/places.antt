-- For `law_places_are_apart` and `law_cards_belong`: where cards belong, and which are dead.
pub mod CardSets
pub mod CardsBelong
pub mod DeadCards
pub mod NextPlaces
pub mod AmongSets
