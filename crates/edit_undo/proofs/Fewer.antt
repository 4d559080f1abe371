-- An edit that breaks no rule makes the same where there are fewer bundles and items.
use Rattle.std.proofs.Common.{◌≡◌, ◌≤◌, ℕ, Bool, true, false, cond, List, [], Option, Some, None, Ok, nat_le, ◌∙◌, ap, arith}
use Rattle.std.specs.Option.{option_or}
use Rattle.std.proofs.lemmas.Bool.{cond-false, lt-leb}
use Rattle.emu_names.specs.declared.limits.TheConstants.{ALL_ITEMS, BUNDLE_ITEMS}
use Rattle.emu_names.specs.declared.kinds.ItemId.{ItemId}
use Rattle.emu_names.specs.declared.rules.Broken.{Broken}
use Rattle.emu_names.specs.declared.rules.Broken.TheVariants as rules
use Rattle.emu_names.specs.declared.rules.What.TheVariants as counted
use Rattle.emu_names.specs.Steps.{onward}
use Rattle.level_items.specs.declared.annot.AnnotItem.{AnnotItem}
use Rattle.level_items.specs.Faults.{time_fault}
use Rattle.level_items.specs.Levels.{Level}
use Rattle.db_config.specs.declared.parts.ConfigParts.{ConfigParts}
use Rattle.bundle_state.specs.Bundle.{BundleParts, item_count}
use Rattle.bundle_state.specs.Linked.{unless_broken}
use Rattle.bundle_state.specs.Made.{made_item}
use Rattle.bundle_state.specs.Changed.{with_levels, change_level, item_added}
use Rattle.bundle_state.proofs.Tests.{or_none}
use Rattle.bundle_state.proofs.LinksKept.{goes_on, fine_value}
use Rattle.bundle_state.proofs.BuiltKept.{unbroken}
use Rattle.bundle_edits.specs.declared.bundle_change.Counts.{Counts}
use Rattle.bundle_edits.specs.declared.edit.Edit.{Edit}
use Rattle.bundle_edits.specs.declared.edit.Edit.TheVariants as edits
use Rattle.bundle_edits.specs.Changes.{NumberedLevel, level_found, new_labels_fault, room_fault, id_fault, given_item_fault, put_on, item_put, segment_of, last_of, cut_fault, cut_at, split_in, segment_split, bundle_changed}
use Rattle.bundle_edits.proofs.Next.{room_parts}

room_fewer : (one two : Counts) (levels : List Level) → two.items ≤ one.items → room_fault one levels ≡ None → room_fault two levels ≡ None
room_fewer one two levels fewer free =
    let room = room_parts one levels free in
    let all = room.1 in
    cond-false (nat_le BUNDLE_ITEMS (item_count levels)) (Some (rules.TooMany counted.BundleItems)) (cond (nat_le ALL_ITEMS two.items) (Some (rules.TooMany counted.AllItems)) None)
    (lt-leb BUNDLE_ITEMS (item_count levels) room.0)
    ∙ cond-false (nat_le ALL_ITEMS two.items) (Some (rules.TooMany counted.AllItems)) None (lt-leb ALL_ITEMS two.items (omega (arith, fewer, all)))

fault_fewer : (one two : Counts) (levels : List Level) (rest : Option Broken) → two.items ≤ one.items → option_or (room_fault one levels) rest ≡ None →
    option_or (room_fault two levels) rest ≡ None
fault_fewer one two levels rest fewer free =
    let parts = or_none (room_fault one levels) rest free in
    ap (λ o. option_or o rest) (room_fewer one two levels fewer parts.0) ∙ parts.1

put_fewer : (tested : Bool) (one two : Counts) (position : Option ℕ) (item : AnnotItem) (b next : BundleParts) (m : NumberedLevel) → two.items ≤ one.items →
    put_on tested one position item b m ≡ Ok next → put_on tested two position item b m ≡ Ok next
put_fewer tested one two position item b next (number, def) fewer is =
    let add = item_added number position (made_item def.attributes item) in
    let rest = option_or (id_fault item.id b.levels) (option_or (time_fault def.kind item.time) (new_labels_fault tested def.attributes [] item.labels)) in
    let on = goes_on (unless_broken (given_item_fault tested one b.levels def item) b) add next is in
    let p = unbroken (given_item_fault tested one b.levels def item) b on.middle on.first in
    ap (λ o. onward (unless_broken o b) add) (fault_fewer one two b.levels rest fewer p.0)
    ∙ ap add p.1 ∙ on.second

item_fewer : (tested : Bool) (config : ConfigParts) (one two : Counts) (level : List ℕ) (position : Option ℕ) (item : AnnotItem) (b next : BundleParts) → two.items ≤ one.items →
    item_put tested config one level position item b ≡ Ok next → item_put tested config two level position item b ≡ Ok next
item_fewer tested config one two level position item b next fewer is =
    let on = goes_on (level_found level config.levels) (put_on tested one position item b) next is in
    ap (λ r. onward r (put_on tested two position item b)) on.first ∙ put_fewer tested one two position item b next on.middle fewer on.second

split_fewer : (one two : Counts) (id new_id : ItemId) (start : ℕ) (b next : BundleParts) → two.items ≤ one.items → segment_split one id new_id start b ≡ Ok next →
    segment_split two id new_id start b ≡ Ok next
split_fewer one two id new_id start b next fewer is =
    let on = goes_on (segment_of id b.levels) (split_in one new_id start b) next is in
    let s = on.middle in
    let whole = with_levels b (change_level (cut_at new_id start s) s.level b.levels) in
    let rest = option_or (id_fault new_id b.levels) (cut_fault s (last_of s) start) in
    let p = unbroken (option_or (room_fault one b.levels) rest) whole next on.second in
    ap (λ r. onward r (split_in two new_id start b)) on.first
    ∙ ap (λ o. unless_broken o whole) (fault_fewer one two b.levels rest fewer p.0)
    ∙ ap fine_value p.1

pub fewer_counts : (config : ConfigParts) (one two : Counts) (edit : Edit) (b next : BundleParts) → two.items ≤ one.items → bundle_changed config one edit b ≡ Ok next →
    bundle_changed config two edit b ≡ Ok next
fewer_counts config one two (edits.AddBundle key annot) b next fewer is = is
fewer_counts config one two (edits.DropBundle key) b next fewer is = is
fewer_counts config one two (edits.AddItem key level position item) b next fewer is = item_fewer true config one two level position item b next fewer is
fewer_counts config one two (edits.RemoveItem key id) b next fewer is = is
fewer_counts config one two (edits.SetLabel key id attribute label) b next fewer is = is
fewer_counts config one two (edits.SetSegment key id start dur) b next fewer is = is
fewer_counts config one two (edits.MoveBoundary key id start) b next fewer is = is
fewer_counts config one two (edits.SetPoint key id at) b next fewer is = is
fewer_counts config one two (edits.Split key id new_id start) b next fewer is = split_fewer one two id new_id start b next fewer is
fewer_counts config one two (edits.Merge key id) b next fewer is = is
fewer_counts config one two (edits.AddLink key from to) b next fewer is = is
fewer_counts config one two (edits.RemoveLink key from to) b next fewer is = is
fewer_counts config one two (edits.LinkTimes key upper lower) b next fewer is = is
fewer_counts config one two (edits.PutItem key level position item) b next fewer is = item_fewer false config one two level position item b next fewer is
fewer_counts config one two (edits.PutLabel key id attribute label) b next fewer is = is
fewer_counts config one two (edits.PutLink key from to place) b next fewer is = is
