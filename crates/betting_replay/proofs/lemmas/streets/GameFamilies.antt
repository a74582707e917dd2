-- What goes by the family of a game: its own cards, whether it draws, and what comes after an end.
use Rattle.std.proofs.Common.{◌≡◌, refl, true, false}
use Rattle.std.specs.Prelude.{Option, Some, None, slice_get}
use Rattle.card_sets.specs.declared.games.Game.{Game}
use Rattle.card_sets.specs.declared.games.Game.TheVariants.{Holdem, Omaha, Omaha8, Stud, Stud8, Razz, Draw5, Lowball27, Triple27}
use Rattle.card_sets.specs.declared.games.Family.{Family}
use Rattle.card_sets.specs.declared.games.Family.TheVariants as family
use Rattle.card_sets.specs.Games.{family_of, is_board, is_draw, has_board, has_draw, own_size, board_size_by}
use Rattle.card_sets.specs.declared.streets.Street.{Street as StreetName}
use Rattle.card_sets.specs.declared.streets.Street.TheVariants.{First, Flop, Turn, Fourth, Fifth, Sixth, River, Draw, ShowDown, Summary}
use Rattle.card_sets.specs.Streets.{streets_by, street_after, next_street, is_last_of as is_last_of_list}
use Rattle.betting_replay.specs.CardLaws.{is_end_of}
use Rattle.betting_replay.specs.Streets.{same_street, is_drawing, begun_by_drawing, is_end}
use Rattle.betting_replay.specs.Sums.{is_last_of}

-- the family of the games with a board
pub board_family : (f : Family) → is_board f ≡ true → f ≡ family.Board
board_family family.Board b = refl
board_family family.Stud b = cc
board_family family.Draw b = cc
board_family family.TripleDraw b = cc

board_draws_not : (f : Family) → is_board f ≡ true → is_draw f ≡ false
board_draws_not family.Board b = refl
board_draws_not family.Stud b = refl
board_draws_not family.Draw b = cc
board_draws_not family.TripleDraw b = cc

pub no_draw : (game : Game) → has_board game ≡ true → has_draw game ≡ false
no_draw game b = board_draws_not (family_of game) b

pub no_board : (f : Family) → is_board f ≡ false → board_size_by f ≡ 0
no_board family.Board b = cc
no_board family.Stud b = refl
no_board family.Draw b = refl
no_board family.TripleDraw b = refl

-- how many cards a player of stud, and of a draw, has of his own
pub seven_own : (game : Game) → family_of game ≡ family.Stud → own_size game ≡ 7
seven_own Holdem e = cc
seven_own Omaha e = cc
seven_own Omaha8 e = cc
seven_own Stud e = refl
seven_own Stud8 e = refl
seven_own Razz e = refl
seven_own Lowball27 e = cc
seven_own Triple27 e = cc
seven_own Draw5 e = cc

pub five_own : (game : Game) → family_of game ≡ family.Draw → own_size game ≡ 5
five_own Holdem e = cc
five_own Omaha e = cc
five_own Omaha8 e = cc
five_own Stud e = cc
five_own Triple27 e = cc
five_own Stud8 e = cc
five_own Razz e = cc
five_own Lowball27 e = refl
five_own Draw5 e = refl

pub five_triple : (game : Game) → family_of game ≡ family.TripleDraw → own_size game ≡ 5
five_triple Holdem e = cc
five_triple Omaha e = cc
five_triple Omaha8 e = cc
five_triple Stud e = cc
five_triple Stud8 e = cc
five_triple Razz e = cc
five_triple Draw5 e = cc
five_triple Lowball27 e = cc
five_triple Triple27 e = refl

-- in a game with no draw none comes next
not_in_board : (s : StreetName) → is_drawing (street_after s (streets_by family.Board)) ≡ false
not_in_board First = refl
not_in_board Flop = refl
not_in_board Turn = refl
not_in_board River = refl
not_in_board _ = refl

not_in_stud : (s : StreetName) → is_drawing (street_after s (streets_by family.Stud)) ≡ false
not_in_stud First = refl
not_in_stud Fourth = refl
not_in_stud Fifth = refl
not_in_stud Sixth = refl
not_in_stud River = refl
not_in_stud _ = refl

never_first : (f : Family) → is_draw f ≡ false → is_drawing (slice_get (streets_by f) 0) ≡ false
never_first family.Board b = refl
never_first family.Stud b = refl
never_first family.Draw b = cc
never_first family.TripleDraw b = cc

never_after : (f : Family) (s : StreetName) → is_draw f ≡ false → is_drawing (street_after s (streets_by f)) ≡ false
never_after family.Board s b = not_in_board s
never_after family.Stud s b = not_in_stud s
never_after family.Draw s b = cc
never_after family.TripleDraw s b = cc

pub never_next : (game : Game) (o : Option StreetName) → has_draw game ≡ false → is_drawing (next_street game o) ≡ false
never_next game None b = never_first (family_of game) b
never_next game (Some s) b = never_after (family_of game) s b

-- the one draw is a draw
draw_off : (o : Option StreetName) → is_drawing o ≡ false → same_street Draw o ≡ false
draw_off None off = refl
draw_off (Some Draw) off = cc
draw_off (Some _) off = refl

pub none_begun : (game : Game) (o : Option StreetName) → has_draw game ≡ false → begun_by_drawing game o ≡ None
none_begun game o b = rw (draw_off (next_street game o) (never_next game o b)) refl

-- nothing comes after a showdown or the summary, and neither is a last street
end_after : (f : Family) (s : StreetName) → is_end s ≡ true → street_after s (streets_by f) ≡ None
end_after family.Board ShowDown is = refl
end_after family.Stud ShowDown is = refl
end_after family.Draw ShowDown is = refl
end_after family.TripleDraw ShowDown is = refl
end_after family.Board Summary is = refl
end_after family.Stud Summary is = refl
end_after family.Draw Summary is = refl
end_after family.TripleDraw Summary is = refl
end_after f _ is = cc

end_last : (f : Family) (s : StreetName) → is_end s ≡ true → is_last_of_list s (streets_by f) ≡ false
end_last family.Board ShowDown is = refl
end_last family.Stud ShowDown is = refl
end_last family.Draw ShowDown is = refl
end_last family.TripleDraw ShowDown is = refl
end_last family.Board Summary is = refl
end_last family.Stud Summary is = refl
end_last family.Draw Summary is = refl
end_last family.TripleDraw Summary is = refl
end_last f _ is = cc

pub none_after_end : (game : Game) (o : Option StreetName) → is_end_of o ≡ true → next_street game o ≡ None
none_after_end game None over = cc
none_after_end game (Some s) over = end_after (family_of game) s over

pub no_last_end : (game : Game) (o : Option StreetName) → is_end_of o ≡ true → is_last_of game o ≡ false
no_last_end game None over = cc
no_last_end game (Some s) over = end_last (family_of game) s over
