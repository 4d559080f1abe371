-- The pairs of the items of two levels of which the one holds the other (EMU-SDMS Manual, "The emuDB format": links of a segment
-- with what stands within its time).
use Rattle.std.specs.Prelude.{Bool, ◌&&◌, List, nat_le, map}
use Rattle.std.specs.List.{filter, flat_map}
use Rattle.emu_names.specs.declared.kinds.ItemId.{ItemId}
use Rattle.level_items.specs.declared.annot.AnnotLink.{AnnotLink}
use Rattle.level_items.specs.declared.items.Item.{Item}
use Rattle.level_items.specs.declared.times.Time.{Time}
use Rattle.level_items.specs.Times.{first_sample, last_sample}

-- a time begins no earlier than another, and is over no later; a point is its own first and last sample
abbrev pub is_within : Time → Time → Bool
is_within outer inner = nat_le (first_sample outer) (first_sample inner) && nat_le (last_sample inner) (last_sample outer)

-- the pair of an upper and a lower item
abbrev pub pair_with : ItemId → Item → AnnotLink
pair_with upper item = record { from = upper; to = item.id }

-- an upper item with each lower item that stands within it, in their order
abbrev pub pairs_with : List Item → Item → List AnnotLink
pairs_with lower item = map (pair_with item.id) (filter (λ i. is_within item.time i.time) lower)

-- the pairs of each upper item, in their order
abbrev pub timed_pairs : List Item → List Item → List AnnotLink
timed_pairs upper lower = flat_map (pairs_with lower) upper
