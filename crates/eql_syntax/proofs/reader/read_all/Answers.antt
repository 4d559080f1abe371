use Rattle.std.proofs.Common.{sym, ◌∙◌, arith}
use Rattle.eql_syntax.specs.Inner.View.{reading_view}
use Rattle.eql_syntax.proofs.Public.{reads_stop}
use Rattle.eql_syntax.proofs.reader.read_all.Goals as goal

pub returns-in-Err : goal.returns-in-Err
returns-in-Err c =
    λ named. sym c.loop-placed.invariant.same
    ∙ reads_stop (reading_view c.loop-placed.reading) c.args.tokens.now c.loop-placed.placed-index c.args.length c.placed-item.result c.in-Err.fault (omega arith) c.placed-item.is (c.in-Err.ensures.value named)
