use Rattle.std.proofs.Common.{◌≡◌, arith}
use Rattle.std.specs.Prelude.{max}
use Rattle.grid_writing.specs.Levels.{reach_of, end_of}
use Rattle.grid_writing.proofs.Places.{end_begins, end_more, kind_asked}
use Rattle.grid_writing.proofs.levels.end_of.Goals as goal

pub loop-level-init : goal.loop-level-init
loop-level-init c = record { same = end_begins c.args.bundle.now.levels; some = omega arith; within = omega arith }

pub loop-level-preserved : goal.loop-level-preserved
loop-level-preserved c =
    let level = c.level.result.now in
    let kind = kind_asked c.args.config.now c.args.bundle.now c.loop-level.level level c.kind.result c.requires c.level.ensures.level c.kind.ensures in
    let grown : c.max-end.result ≡ max (reach_of c.kind.result level.items) c.loop-level.end = omega (arith, c.max-end.ensures, c.reach_of.ensures.value) in
    record {
      same = end_more c.loop-level.level c.args.bundle.now.levels level c.kind.result c.loop-level.end c.max-end.result (end_of c.args.bundle.now.levels) c.level.ensures.level kind grown c.loop-level.invariant.same;
      some = omega (arith, c.max-end.ensures, c.loop-level.invariant.some);
      within = omega (arith, c.max-end.ensures, c.reach_of.ensures.within, c.loop-level.invariant.within);
    }
