use Rattle.std.proofs.Common.{arith}
use Rattle.eql_syntax.proofs.Public.{query_found, query_only, fault_found}
use Rattle.eql_syntax.proofs.Faults.{short_told}
use Rattle.eql_syntax.proofs.reader.read_query.Goals as goal

pub returns-clause-found : goal.returns-clause-found
returns-clause-found c = query_found c.args.text.now c.read_short.result (omega arith) c.read_short.ensures

pub returns-clause-only : goal.returns-clause-only
returns-clause-only c = query_only c.args.text.now c.read_short.result c.read_short.ensures

pub returns-clause-fault : goal.returns-clause-fault
returns-clause-fault c = fault_found c.args.text.now c.read_short.result (omega arith) c.read_short.ensures

pub returns-clause-told : goal.returns-clause-told
returns-clause-told c = short_told c.args.text.now c.read_short.result (omega arith) c.read_short.ensures
