-- Words of contracts and loops beside `specs/Made.antt`; no promise of the program rests on them.
use Rattle.std.specs.Prelude.{Err}
use Rattle.eql_syntax.specs.declared.query.QueryFault.TheVariants as queries
use Rattle.eql_resolve.specs.declared.faults.PrepareFault.TheVariants.{Query}
use Rattle.eql_resolve.specs.Made.{Made}

-- for lines that ask nothing
abbrev pub no_question : Made
no_question = Err (Query queries.TextTooLong)
