use Rattle.std.proofs.Common.{◌≡◌, [], Some, get_or, slice_get, arith}
use Rattle.std.proofs.lemmas.Option.{slice_get-get_or}
use Rattle.emu_names.specs.declared.kinds.LevelKind.TheVariants as kinds
use Rattle.level_items.specs.Levels.{Level, level_of}
use Rattle.bundle_index.proofs.Asked.{but_stay, changed_more, all_filled}
use Rattle.bundle_index.proofs.indexed.changed_columns.Goals as goal

pub changed_level-requires-clause-same : goal.changed_level-requires-clause-same
changed_level-requires-clause-same c =
    but_stay c.args.labels.now c.loop-level.labels c.args.bundle.now.levels c.args.marked.now c.args.old.now c.loop-level.invariant.grown c.requires

pub loop-level-preserved : goal.loop-level-preserved
loop-level-preserved c =
    let levels = c.args.bundle.now.levels in
    let other : Level = level_of kinds.Item 0 [] in
    let own : Level = get_or levels c.loop-level.level other in
    let there : slice_get levels c.loop-level.level ≡ Some own = slice_get-get_or levels c.loop-level.level other (omega arith) in
    rw c.in_ok-push.ensures.ok (changed_more c.args.labels.now c.loop-level.labels c.changed_level.new.labels
    levels c.loop-level.level c.loop-level.all own c.in_ok-columns.columns
    c.loop-level.invariant c.in_ok-columns.ensures.grown there (c.in_ok-columns.ensures.columns own there))

pub returns : goal.returns
returns c =
    all_filled c.loop-level.labels c.args.bundle.now.levels c.loop-level.level c.loop-level.all
    c.loop-level.invariant.filled (omega arith)
