-- The contents of an event alone, whatever the events before it are.
use Rattle.std.specs.Prelude.{ℕ, ◌+◌, ◌-◌, ◌≤◌, Bool, true, false, if◌then◌else◌, List, [], min}
use Rattle.hand_events.specs.declared.events.Event.{Event}
use Rattle.hand_events.specs.declared.events.Event.TheVariants.{Seat, Button, Post, Deal, Street, Act, Uncalled, Collect, Show, Muck, Total, SeatCards, Discard, Pat, Remark}
use Rattle.hand_events.specs.declared.events.PostKind.{PostKind}
use Rattle.hand_events.specs.declared.events.PostKind.TheVariants.{Small, Big, Both, Ante, BringIn}
use Rattle.hand_events.specs.declared.events.Act.{Act as Deed}
use Rattle.hand_events.specs.declared.events.Act.TheVariants.{Fold, Check, Call, Bet, Raise}

-- the seat that an event is about, 0 if it is about none
abbrev pub seat_of : Event → ℕ
seat_of (Seat seat units first end) = seat
seat_of (Button seat) = 0
seat_of (Post seat kind units all_in) = seat
seat_of (Deal seat cards drawn) = seat
seat_of (Street street number cards) = 0
seat_of (Act seat act all_in shown) = seat
seat_of (Uncalled seat units) = seat
seat_of (Collect seat units pot) = seat
seat_of (Show seat cards) = seat
seat_of (Muck seat) = seat
seat_of (Total units rake) = 0
seat_of (SeatCards seat cards) = seat
seat_of (Discard seat count cards) = seat
seat_of (Pat seat) = seat
seat_of Remark = 0

-- the seat of the button after an event, given the seat before it
abbrev pub button_after : Event → ℕ → ℕ
button_after (Button seat) before = seat
button_after _ before = before

-- the units of a seat line
abbrev pub bought : Event → ℕ
bought (Seat seat units first end) = units
bought _ = 0

-- the units that come back
abbrev pub returned : Event → ℕ
returned (Uncalled seat units) = units
returned _ = 0

-- the live part of a post, by the stated big blind and by whether a small blind was posted before: the first
-- small blind, the part of both blinds up to the stated big blind, the big blind, and the bring-in
abbrev pub live_part : ℕ → Bool → PostKind → ℕ → ℕ
live_part big posted Small units = if posted then 0 else units
live_part big posted Big units = units
live_part big posted Both units = min units big
live_part big posted Ante units = 0
live_part big posted BringIn units = units

-- the dead part of a post: a later small blind, and the rest of both blinds
abbrev pub dead_part : ℕ → Bool → PostKind → ℕ → ℕ
dead_part big posted Small units = if posted then units else 0
dead_part big posted Big units = 0
dead_part big posted Both units = units - big
dead_part big posted Ante units = 0
dead_part big posted BringIn units = 0

-- the part of a post that is an ante: paid, and neither live nor dead
abbrev pub ante_part : PostKind → ℕ → ℕ
ante_part Small units = 0
ante_part Big units = 0
ante_part Both units = 0
ante_part Ante units = units
ante_part BringIn units = 0

-- the chips that an act puts in, of a player with some chips in live on the street
abbrev pub act_chips : Deed → ℕ → ℕ
act_chips Fold live = 0
act_chips Check live = 0
act_chips (Call units) live = units
act_chips (Bet units) live = units
act_chips (Raise by to) live = to - live

-- the chips that an event puts in live, dead, and as an ante, for its own seat with some chips in live on the
-- street
abbrev pub live_in : ℕ → Bool → ℕ → Event → ℕ
live_in big posted live (Post seat kind units all_in) = live_part big posted kind units
live_in big posted live (Act seat act all_in shown) = act_chips act live
live_in big posted live _ = 0

abbrev pub dead_in : ℕ → Bool → Event → ℕ
dead_in big posted (Post seat kind units all_in) = dead_part big posted kind units
dead_in big posted _ = 0

abbrev pub ante_in : Event → ℕ
ante_in (Post seat kind units all_in) = ante_part kind units
ante_in _ = 0

abbrev pub is_small : PostKind → Bool
is_small Small = true
is_small Big = false
is_small Both = false
is_small Ante = false
is_small BringIn = false

abbrev pub is_bring_in : PostKind → Bool
is_bring_in Small = false
is_bring_in Big = false
is_bring_in Both = false
is_bring_in Ante = false
is_bring_in BringIn = true

abbrev pub is_fold : Deed → Bool
is_fold Fold = true
is_fold Check = false
is_fold (Call units) = false
is_fold (Bet units) = false
is_fold (Raise by to) = false

-- the event is a post of the small blind, a bring-in, a fold, an act, or a seat line
abbrev pub posts_small : Event → Bool
posts_small (Post seat kind units all_in) = is_small kind
posts_small _ = false

abbrev pub brings_in : Event → Bool
brings_in (Post seat kind units all_in) = is_bring_in kind
brings_in _ = false

abbrev pub folds : Event → Bool
folds (Act seat act all_in shown) = is_fold act
folds _ = false

abbrev pub is_act : Event → Bool
is_act (Act seat act all_in shown) = true
is_act _ = false

abbrev pub is_seat_line : Event → Bool
is_seat_line (Seat seat units first end) = true
is_seat_line _ = false

-- the cards that an event names
abbrev pub cards_named : Event → List ℕ
cards_named (Deal seat cards drawn) = cards
cards_named (Street street number cards) = cards
cards_named (Act seat act all_in shown) = shown
cards_named (Show seat cards) = cards
cards_named (SeatCards seat cards) = cards
cards_named (Discard seat count cards) = cards
cards_named _ = []

-- the seat of an event is one of the ten
abbrev pub SeatFits : Event → Type 0
SeatFits (Seat seat units first end) = (1 ≤ seat) × (seat ≤ 10)
SeatFits (Button seat) = (1 ≤ seat) × (seat ≤ 10)
SeatFits (Post seat kind units all_in) = (1 ≤ seat) × (seat ≤ 10)
SeatFits (Deal seat cards drawn) = (1 ≤ seat) × (seat ≤ 10)
SeatFits (Street street number cards) = Unit {0}
SeatFits (Act seat act all_in shown) = (1 ≤ seat) × (seat ≤ 10)
SeatFits (Uncalled seat units) = (1 ≤ seat) × (seat ≤ 10)
SeatFits (Collect seat units pot) = (1 ≤ seat) × (seat ≤ 10)
SeatFits (Show seat cards) = (1 ≤ seat) × (seat ≤ 10)
SeatFits (Muck seat) = (1 ≤ seat) × (seat ≤ 10)
SeatFits (Total units rake) = Unit {0}
SeatFits (SeatCards seat cards) = (1 ≤ seat) × (seat ≤ 10)
SeatFits (Discard seat count cards) = (1 ≤ seat) × (seat ≤ 10)
SeatFits (Pat seat) = (1 ≤ seat) × (seat ≤ 10)
SeatFits Remark = Unit {0}

-- the units that an event takes from a stack
abbrev pub put_in : ℕ → Bool → ℕ → Event → ℕ
put_in big posted live e = ante_in e + live_in big posted live e + dead_in big posted e
