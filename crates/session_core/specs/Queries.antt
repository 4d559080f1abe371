-- Want of memory when the text of a query was read.
use Rattle.std.specs.Prelude.{Bool, true, false, Result, Ok, Err}
use Rattle.eql_syntax.specs.declared.query.QueryFault.{QueryFault}
use Rattle.eql_syntax.specs.declared.query.QueryFault.TheVariants as text
use Rattle.eql_resolve.specs.declared.faults.PrepareFault.{PrepareFault}
use Rattle.eql_resolve.specs.declared.faults.PrepareFault.TheVariants as prepare
use Rattle.eql_resolve.specs.Prepared.{PreparedParts}
use Rattle.session_core.specs.declared.line.Ask.{Ask}

-- whether the fault of a text is want of memory
abbrev pub is_memory_of_text : QueryFault → Bool
is_memory_of_text text.Memory = true
is_memory_of_text fault = false

-- whether the fault of a text, or of one of its patterns, is want of memory
abbrev pub is_memory_of : PrepareFault → Bool
is_memory_of (prepare.Query fault) = is_memory_of_text fault
is_memory_of prepare.Memory = true
is_memory_of fault = false

-- whether what a text was prepared to is want of memory
abbrev pub is_memory_in : Result PreparedParts PrepareFault → Bool
is_memory_in (Ok prepared) = false
is_memory_in (Err fault) = is_memory_of fault

-- whether memory ran out when the query was read
abbrev pub lacks_memory : Ask → Bool
lacks_memory ask = is_memory_in ask.prepared
