-- The streets of the games: their order, and the cards that come with each. Source: the usual rules of poker.
use Rattle.std.specs.Prelude.{◌≡◌, ◌+◌, ℕ, Bool, true, false, if◌then◌else◌, List, [], ◌∷◌, Option, Some, None, slice_get, sum_by, count_by}
use Rattle.card_sets.specs.Games.{family_of, has_board, own_size, board_size, draw_count}
use Rattle.card_sets.specs.declared.games.Game.{Game}
use Rattle.card_sets.specs.declared.games.Family.{Family}
use Rattle.card_sets.specs.declared.games.Family.TheVariants as family
use Rattle.card_sets.specs.declared.streets.Dealt.{Dealt}
use Rattle.card_sets.specs.declared.streets.Street.{Street}
use Rattle.card_sets.specs.declared.streets.Street.TheVariants.{First, Flop, Turn, Fourth, Fifth, Sixth, River, Draw, FirstDraw, SecondDraw, ThirdDraw, ShowDown, Summary}

-- whether two streets are the same
abbrev pub is_street : Street → Street → Bool
is_street First First = true
is_street Flop Flop = true
is_street Turn Turn = true
is_street Fourth Fourth = true
is_street Fifth Fifth = true
is_street Sixth Sixth = true
is_street River River = true
is_street Draw Draw = true
is_street FirstDraw FirstDraw = true
is_street SecondDraw SecondDraw = true
is_street ThirdDraw ThirdDraw = true
is_street ShowDown ShowDown = true
is_street Summary Summary = true
is_street _ _ = false

-- the streets of a family on which there is betting, in their order
abbrev pub streets_by : Family → List Street
streets_by family.Board = First ∷ Flop ∷ Turn ∷ River ∷ []
streets_by family.Stud = First ∷ Fourth ∷ Fifth ∷ Sixth ∷ River ∷ []
streets_by family.Draw = First ∷ Draw ∷ []
streets_by family.TripleDraw = First ∷ FirstDraw ∷ SecondDraw ∷ ThirdDraw ∷ []

-- whether players discard and draw on a street
abbrev pub is_draw_street : Street → Bool
is_draw_street Draw = true
is_draw_street FirstDraw = true
is_draw_street SecondDraw = true
is_draw_street ThirdDraw = true
is_draw_street _ = false

abbrev pub streets_of : Game → List Street
streets_of game = streets_by (family_of game)

-- the street after one in a list of streets
abbrev pub street_after : Street → List Street → Option Street
street_after street [] = None
street_after street (first ∷ others) = if is_street street first then slice_get others 0 else street_after street others

-- the next street of a game: the first if none has begun, and none after the last
abbrev pub next_street : Game → Option Street → Option Street
next_street game None = slice_get (streets_of game) 0
next_street game (Some street) = street_after street (streets_of game)

-- whether a street is the last of a list
abbrev pub is_last_of : Street → List Street → Bool
is_last_of street [] = false
is_last_of street (last ∷ []) = is_street street last
is_last_of street (_ ∷ second ∷ others) = is_last_of street (second ∷ others)

abbrev pub is_last : Game → Street → Bool
is_last game street = is_last_of street (streets_of game)

-- the number of cards that a street adds to the board, in a game that has a board
abbrev pub cards_of_street : Street → ℕ
cards_of_street Flop = 3
cards_of_street Turn = 1
cards_of_street River = 1
cards_of_street _ = 0

abbrev pub board_count : Game → Street → ℕ
board_count game street = if has_board game then cards_of_street street else 0

-- the cards that a street deals to each player: all on the first street, or street by street in a stud game
abbrev pub dealt_at_once : ℕ → Street → Dealt
dealt_at_once size First = record { down = size; up = 0 }
dealt_at_once size _ = record { down = 0; up = 0 }

abbrev pub dealt_in_stud : Street → Dealt
dealt_in_stud First = record { down = 2; up = 1 }
dealt_in_stud Fourth = record { down = 0; up = 1 }
dealt_in_stud Fifth = record { down = 0; up = 1 }
dealt_in_stud Sixth = record { down = 0; up = 1 }
dealt_in_stud River = record { down = 1; up = 0 }
dealt_in_stud _ = record { down = 0; up = 0 }

abbrev pub dealt_by : Family → ℕ → Street → Dealt
dealt_by family.Board size street = dealt_at_once size street
dealt_by family.Stud size street = dealt_in_stud street
dealt_by family.Draw size street = dealt_at_once size street
dealt_by family.TripleDraw size street = dealt_at_once size street

abbrev pub dealt_on : Game → Street → Dealt
dealt_on game street = dealt_by (family_of game) (own_size game) street

-- the streets of a game together deal all cards of a player and all of the board
pub record DealAll (game : Game) : Type 0 where
  pub own : sum_by (λ street. (dealt_on game street).down + (dealt_on game street).up) (streets_of game) ≡ own_size game
  pub board : sum_by (λ street. board_count game street) (streets_of game) ≡ board_size game
  -- and its draws are the streets on which players draw
  pub draws : count_by is_draw_street (streets_of game) ≡ draw_count game
