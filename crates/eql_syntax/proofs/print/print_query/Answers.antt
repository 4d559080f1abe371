use Rattle.std.proofs.Common.{◌≡◌, IfOk, rules}
use Rattle.eql_syntax.specs.Inner.Tree.{tree_of}
use Rattle.eql_syntax.specs.Inner.Print.{query_text}
use Rattle.eql_syntax.proofs.Printed.{spells_found, reads_found}
use Rattle.eql_syntax.proofs.print.print_query.Goals as goal

pub returns-clause-spells : goal.returns-clause-spells
returns-clause-spells c =
    let is : IfOk c.new.result (λ print. print ≡ query_text (tree_of c.args.query.now)) = search rules in
    spells_found c.new.result (tree_of c.args.query.now) is

pub returns-clause-back : goal.returns-clause-back
returns-clause-back c =
    let is : IfOk c.new.result (λ print. print ≡ query_text (tree_of c.args.query.now)) = search rules in
    reads_found c.new.result (tree_of c.args.query.now) is
