use Rattle.std.proofs.Common.{◌≡◌, ◌<◌, length, Ok, arith}
use Rattle.std.proofs.lemmas.Option.{slice_get_within}
use Rattle.emu_names.specs.declared.kinds.ItemId.{ItemId}
use Rattle.db_config.specs.declared.parts.ConfigParts.{ConfigParts}
use Rattle.bundle_state.specs.Bundle.{BundleParts}
use Rattle.bundle_state.specs.Built.{FitsConfig}
use Rattle.bundle_state.specs.Valid.{KeepsBundleRules}
use Rattle.bundle_edits.specs.declared.segments.Segment.{Segment}
use Rattle.bundle_edits.specs.Changes.{segment_of}
use Rattle.bundle_edits.proofs.Cuts.{IsSegmentOf, segment_found}
use Rattle.bundle_edits.proofs.Next.{level_count}
use Rattle.bundle_edits.proofs.Steps.{empties_fit, split_is}
use Rattle.bundle_edits.proofs.segments.pieces_of.Goals as goal

-- the level of a segment is one of the configuration
on_level : (config : ConfigParts) (b : BundleParts) (id : ItemId) (s : Segment) → FitsConfig config b → KeepsBundleRules b → segment_of id b.levels ≡ Ok s → s.level < length config.levels
on_level config b id s fits keeps is =
    let p : IsSegmentOf b.levels s = segment_found id b s keeps is in
    let low = slice_get_within b.levels s.level p.level p.there in
    let same = level_count config b fits in
    omega (arith, low, same)

pub attribute_count-requires : goal.attribute_count-requires
attribute_count-requires c =
    on_level c.args.config.now c.args.bundle.now c.args.id c.in_ok-s.s c.requires c.item_count-count.ensures.rules c.in_ok-s.ensures.segment

pub returns-clause-level : goal.returns-clause-level
returns-clause-level c =
    on_level c.args.config.now c.args.bundle.now c.args.id c.in_ok-s.s c.requires c.item_count-count.ensures.rules c.in_ok-s.ensures.segment

pub returns-clause-labels : goal.returns-clause-labels
returns-clause-labels c =
    empties_fit c.args.config.now c.args.bundle.now c.in_ok-s.s.level c.attribute_count.result c.in_ok-labels.labels c.requires c.attribute_count.ensures c.in_ok-labels.ensures

pub returns-clause-parts : goal.returns-clause-parts
returns-clause-parts c =
    split_is c.args.config.now c.args.counts c.args.bundle.now c.args.id c.args.new_id c.args.start c.last-last.result c.attribute_count.result c.in_ok-s.s c.in_ok-labels.labels
    c.requires c.item_count-count.ensures.rules c.in_ok-s.ensures.segment c.in_ok-room_passes.ensures c.in_ok-id_passes.ensures c.in_ok-cut_passes.ensures c.last-last.ensures
    c.attribute_count.ensures c.in_ok-labels.ensures
