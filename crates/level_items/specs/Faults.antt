-- The rule that a change of a level breaks first.
use Rattle.std.specs.Prelude.{ℕ, suc, not, List, length, nat_eq, nat_le, if◌then◌else◌, Option, Some, None, take, drop}
use Rattle.std.specs.List.{list_any}
use Rattle.std.specs.Option.{option_or}
use Rattle.emu_names.specs.declared.kinds.LevelKind.{LevelKind}
use Rattle.emu_names.specs.declared.kinds.LevelKind.TheVariants as kinds
use Rattle.emu_names.specs.declared.kinds.ItemId.{ItemId}
use Rattle.emu_names.specs.declared.rules.Broken.{Broken}
use Rattle.emu_names.specs.declared.rules.Broken.TheVariants as rules
use Rattle.level_items.specs.declared.times.Time.{Time}
use Rattle.level_items.specs.declared.items.Item.{Item}
use Rattle.level_items.specs.Times.{fits_kind, ends_in_time, is_before}
use Rattle.level_items.specs.Levels.{ids_of, first_of, last_of, new_place}

-- the form of the time is tested before its end
abbrev pub time_fault : LevelKind → Time → Option Broken
time_fault kind time =
    if not (fits_kind kind time) then Some rules.TimeKind
    else if not (ends_in_time time) then Some rules.TimeOut
    else None

-- a position is for a level without times, and at most the number of its items
abbrev pub position_fault : LevelKind → ℕ → Option ℕ → Option Broken
position_fault kind count None = None
position_fault kinds.Item count (Some position) =
    if nat_le position count then None else Some rules.PositionOut
position_fault kinds.Segment count (Some position) = Some rules.PositionOut
position_fault kinds.Event count (Some position) = Some rules.PositionOut

-- the rule that two neighbours out of order break, which names this one of them
abbrev pub order_rule : LevelKind → ItemId → Option Broken
order_rule kinds.Item named = None
order_rule kinds.Segment named = Some (rules.Overlap named)
order_rule kinds.Event named = Some (rules.NotRising named)

-- two neighbours out of order
abbrev pub order_fault : LevelKind → ItemId → Time → Time → Option Broken
order_fault kind named earlier later =
    if is_before earlier later then None else order_rule kind named

-- a time behind this item, which is named
abbrev pub behind_fault : LevelKind → Option Item → Time → Option Broken
behind_fault kind None time = None
behind_fault kind (Some previous) time = order_fault kind previous.id previous.time time

-- a time before this item, which is named
abbrev pub ahead_fault : LevelKind → Time → Option Item → Option Broken
ahead_fault kind time None = None
ahead_fault kind time (Some next) = order_fault kind next.id time next.time

-- a time between these two lists of items: its previous neighbour is named before its next one
abbrev pub neighbour_fault : LevelKind → List Item → Time → List Item → Option Broken
neighbour_fault kind before time behind =
    option_or (behind_fault kind (last_of before) time) (ahead_fault kind time (first_of behind))

-- a new item, which was asked to be put at this position
abbrev pub insert_fault : LevelKind → List Item → Option ℕ → Item → Option Broken
insert_fault kind items position item =
    if list_any (nat_eq item.id.0) (ids_of items) then Some (rules.IdTaken item.id)
    else option_or (time_fault kind item.time) (option_or (position_fault kind (length items) position)
    (let place = new_place kind items position item.time in
    neighbour_fault kind (take place items) item.time (drop place items)))

-- another time for the item at this position
abbrev pub retime_fault : LevelKind → List Item → ℕ → Time → Option Broken
retime_fault kind items position time =
    option_or (time_fault kind time)
    (neighbour_fault kind (take position items) time (drop (suc position) items))
