use Rattle.std.proofs.Common.{rules, ◌≡◌, ◌<◌, length, get_or, arith, refl}
use Rattle.std.proofs.lemmas.Option.{slice_get_read}
use Rattle.grid_writing.specs.Levels.{time_levels}
use Rattle.grid_writing.proofs.Places.{kind_there, levels_more, reach_low}
use Rattle.grid_writing.proofs.levels.time_levels.Goals as goal

pub put_level-requires-clause-kind : goal.put_level-requires-clause-kind
put_level-requires-clause-kind c =
    let defs = c.args.config.now.levels in
    let within : c.loop-place.place < length defs = search rules in
    let is : c.index-defs-place.result ≡ get_or defs c.loop-place.place c.index-defs-place.result = search rules in
    kind_there c.args.config.now c.args.bundle.now c.loop-place.place c.level.result.now c.index-defs-place.result c.requires.fits c.level.ensures.level
    (slice_get_read defs (length defs) c.loop-place.place c.index-defs-place.result refl within is)

pub put_level-requires-clause-reach : goal.put_level-requires-clause-reach
put_level-requires-clause-reach c =
    let low = reach_low c.args.bundle.now.levels c.loop-place.place c.level.result.now c.level.ensures.level in
    omega (arith, low, c.requires.end)

pub loop-place-preserved : goal.loop-place-preserved
loop-place-preserved c =
    let defs = c.args.config.now.levels in
    let within : c.loop-place.place < length defs = search rules in
    let is : c.index-defs-place.result ≡ get_or defs c.loop-place.place c.index-defs-place.result = search rules in
    levels_more c.args.end c.loop-place.place defs c.args.bundle.now.levels c.index-defs-place.result c.level.result.now c.loop-place.made.items c.put_level.new.made.items
    (time_levels c.args.end defs c.args.bundle.now.levels)
    (slice_get_read defs (length defs) c.loop-place.place c.index-defs-place.result refl within is) c.level.ensures.level c.in_ok-put_level.ensures c.loop-place.invariant
