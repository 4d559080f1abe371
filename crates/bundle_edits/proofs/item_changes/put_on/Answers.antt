use Rattle.std.proofs.Common.{◌≡◌, ◌<◌, ℕ, length, Bool, Option, None, Result, sym, ap, subst, arith}
use Rattle.std.proofs.lemmas.Option.{slice_get_within}
use Rattle.emu_names.specs.Inner.Gives.{GivesOrBroken}
use Rattle.emu_names.specs.declared.rules.Broken.{Broken}
use Rattle.emu_names.specs.declared.rules.Fault.{Fault}
use Rattle.level_items.specs.declared.annot.AnnotItem.{AnnotItem}
use Rattle.level_items.specs.declared.items.Item.{Item}
use Rattle.db_config.specs.declared.parts.LevelDef.{LevelDef}
use Rattle.bundle_state.specs.Bundle.{BundleParts}
use Rattle.bundle_state.specs.Changed.{item_added}
use Rattle.bundle_state.specs.Linked.{unless_broken}
use Rattle.emu_names.specs.Steps.{onward}
use Rattle.bundle_state.specs.Made.{made_item}
use Rattle.bundle_edits.specs.declared.bundle_change.Counts.{Counts}
use Rattle.bundle_edits.specs.Changes.{given_item_fault, put_on}
use Rattle.bundle_edits.proofs.Next.{level_count, has_room_on}
use Rattle.bundle_edits.proofs.item_changes.put_on.Goals as goal

pub with_item-requires-clause-level : goal.with_item-requires-clause-level
with_item-requires-clause-level c =
    let low : c.args.number < length c.args.config.now.levels = slice_get_within c.args.config.now.levels c.args.number c.args.def.now c.requires.level in
    let same : length c.args.bundle.levels ≡ length c.args.config.now.levels = level_count c.args.config.now c.args.bundle c.requires.fits in
    omega arith

pub with_item-requires-clause-labels : goal.with_item-requires-clause-labels
with_item-requires-clause-labels c =
    has_room_on c.args.is_tested c.args.config.now c.args.counts c.args.bundle c.args.number c.args.def.now c.args.item.now c.in-Ok.made.labels c.requires.fits c.requires.level
    c.in-Ok.ensures.passed (ap (λ (i : Item). i.labels) c.in-Ok.ensures.made)

-- the item that is made is put on the bundle
put_as : (tested : Bool) (counts : Counts) (position : Option ℕ) (item : AnnotItem) (b : BundleParts) (number : ℕ) (def : LevelDef) (made : Item) (result : Result BundleParts Fault) →
    given_item_fault tested counts b.levels def item ≡ None → made ≡ made_item def.attributes item →
    GivesOrBroken result (item_added number position made b) → GivesOrBroken result (put_on tested counts position item b (number, def))
put_as tested counts position item b number def made result free is gives =
    subst (λ (o : Option Broken). GivesOrBroken result (onward (unless_broken o b) (item_added number position (made_item def.attributes item)))) (sym free)
    (subst (λ (i : Item). GivesOrBroken result (item_added number position i b)) is gives)

pub returns-in-Ok : goal.returns-in-Ok
returns-in-Ok c =
    put_as c.args.is_tested c.args.counts c.args.position c.args.item.now c.args.bundle c.args.number c.args.def.now c.in-Ok.made c.with_item.result
    c.in-Ok.ensures.passed c.in-Ok.ensures.made c.with_item.ensures
