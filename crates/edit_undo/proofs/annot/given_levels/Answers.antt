use Rattle.std.proofs.Common.{rules, ◌≡◌, ◌<◌, length, get_or}
use Rattle.edit_undo.proofs.Joins.{level_more}
use Rattle.edit_undo.proofs.annot.given_levels.Goals as goal

pub loop-place-preserved : goal.loop-place-preserved
loop-place-preserved c =
    let within : c.loop-place.place < length c.args.config.now.levels = search rules in
    let def : c.index-defs-place.result ≡ get_or c.args.config.now.levels c.loop-place.place c.index-defs-place.result = search rules in
    level_more c.args.config.now.levels c.args.bundle.now.levels c.loop-place.place c.index-defs-place.result c.level.result.now c.loop-place.made c.push.new.self
    c.in_ok-given_level.field-0 c.loop-place.invariant within def c.level.ensures.level c.in_ok-given_level.ensures c.in_ok-push.ensures.ok
