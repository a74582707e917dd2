-- The known cards of a player of a stud game are as many as the street has dealt.
use Rattle.std.proofs.Common.{◌≡◌, ℕ, List, sym, ap, ◌∙◌, length}
use Rattle.std.specs.Prelude.{Option, Some, None}
use Rattle.card_sets.specs.Cards.{union}
use Rattle.card_sets.specs.Games.{family_of, own_size}
use Rattle.card_sets.specs.declared.games.Family.TheVariants as family
use Rattle.hand_events.specs.declared.events.Header.{Header}
use Rattle.hand_events.specs.declared.events.Event.{Event}
use Rattle.card_sets.specs.declared.streets.Street.{Street as StreetName}
use Rattle.card_sets.specs.declared.streets.Street.TheVariants.{First, Fourth, Fifth, Sixth}
use Rattle.betting_replay.specs.Known.{Holding, holding_of, cards_at, with_first, so_many, known_stud, known_in}
use Rattle.betting_replay.specs.KnownLaws.{dealt_by_street}
use Rattle.betting_replay.proofs.lemmas.known.KnownCards.{if_many_is}

many_of : (n : ℕ) (o : Option (List ℕ)) (cards : List ℕ) → so_many n o ≡ Some cards → length cards ≡ n
many_of n None cards is = cc
many_of n (Some xs) cards is = (if_many_is n xs cards is).1

in_stud : (x : Holding) (street : StreetName) (cards : List ℕ) → known_stud x street ≡ Some cards → length cards ≡ dealt_by_street street
in_stud x First cards is = many_of 3 (with_first x x.deals.first) cards is
in_stud x Fourth cards is = many_of 4 (with_first x (union x.deals.first x.deals.fourth)) cards is
in_stud x Fifth cards is = many_of 5 (with_first x (union (union x.deals.first x.deals.fourth) x.deals.fifth)) cards is
in_stud x Sixth cards is = many_of 6 (with_first x (union (union (union x.deals.first x.deals.fourth) x.deals.fifth) x.deals.sixth)) cards is
in_stud x _ cards is = (if_many_is 7 x.own cards is).1

pub street_cards : (g : Header) (h : List Event) (p : ℕ) (street : StreetName) (cards : List ℕ) → family_of g.game ≡ family.Stud → cards_at g h p street ≡ Some cards → length cards ≡ dealt_by_street street
street_cards g h p street cards stud is = in_stud (holding_of g h p) street cards (ap (λ f. known_in f (own_size g.game) (holding_of g h p) street) (sym stud) ∙ is)
