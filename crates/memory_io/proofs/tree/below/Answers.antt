use Rattle.std.proofs.Common.{arith, ◌++◌, ◌∙◌, ap, sym}
use Rattle.std.proofs.lemmas.Str.Pattern.{strip_prefix_char}
use Rattle.memory_io.proofs.PathLemmas.{behind_none, behind_slash}
use Rattle.memory_io.proofs.tree.below.Goals as goal

pub returns-in_err-rest : goal.returns-in_err-rest
returns-in_err-rest c =
    rw c.from_residual.ensures (behind_none c.args.folder.now c.args.path.now c.in_err-rest.ensures.cases)

pub returns : goal.returns
returns c =
    let cut = c.in_ok-rest.ensures.cases in
    behind_slash c.args.folder.now c.args.path.now c.in_ok-rest.rest.now c.strip_prefix-2.result
    (cut.1.1 ∙ ap (λ rest. c.args.folder.now ++ rest) (sym cut.2))
    (strip_prefix_char 47 c.in_ok-rest.rest.now c.strip_prefix-2.result c.strip_prefix-2.ensures.cases (omega arith))
