use Rattle.hier_closure.specs.Dominance.{closure_of}
use Rattle.eql_match.proofs.Clear.{none_left, none_right}
use Rattle.eql_match.proofs.found.dominating.Goals.{then-is_clear-via-then-is_clear, then-is_clear-via-else-is_clear+then-is_clear-2}
use Rattle.eql_match.proofs.found.dominating.Goals as goal

pub returns-then-is_clear : goal.returns-then-is_clear
returns-then-is_clear c =
    let b = c.args.indexed.now.bundle in
    let down = closure_of b c.args.levels.1 c.args.levels.0 in
    let up = closure_of b c.args.levels.0 c.args.levels.1 in
    elim c.then-is_clear.branch [
      | then-is_clear-via-then-is_clear w ↦
          none_left down up c.args.lefts.now c.args.rights.now c.len.result c.none_set.result c.len.ensures
          (c.is_clear.ensures w.if-is_clear.true) c.none_set.ensures
      | then-is_clear-via-else-is_clear+then-is_clear-2 w ↦
          none_right down up c.args.lefts.now c.args.rights.now c.len.result c.none_set.result c.len.ensures
          (w.is_clear-else-is_clear.ensures w.if-is_clear-2.true) c.none_set.ensures
    ]
