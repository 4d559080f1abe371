-- What a query may be answered whose reading did not want memory: rows, the fault of its text or patterns, a
-- fault of its names, or that it has too many tuples.
use Rattle.std.proofs.Common.{◌≡◌, ℕ, Bool, true, false, List, Option, Some, None, Result, Ok, Err, sym}
use Rattle.std.proofs.lemmas.Bool.{false≢true}
use Rattle.edit_undo.specs.edit_rules.Database.{DatabaseParts}
use Rattle.eql_resolve.specs.declared.faults.AskFault.{AskFault}
use Rattle.eql_resolve.specs.declared.faults.PrepareFault.{PrepareFault}
use Rattle.eql_resolve.specs.Prepared.{PreparedParts}
use Rattle.eql_resolve.specs.Asked.{AskedParts}
use Rattle.eql_resolve.specs.Resolve.{asked}
use Rattle.requery.specs.eql_rows.declared.row.Row.{Row}
use Rattle.requery.specs.eql_model.Rows.{segment_list, any_has_too_many}
use Rattle.requery.specs.declared.target.Requery.{Requery}
use Rattle.requery.specs.Target.{ReachedParts}
use Rattle.requery.specs.Asks.{reached}
use Rattle.requery.specs.Carried.{carried_list}
use Rattle.session_core.specs.declared.line.Ask.{Ask}
use Rattle.session_core.specs.declared.line.Answer.{Answer}
use Rattle.session_core.specs.declared.line.Answer.TheVariants.{Segments, Refused}
use Rattle.session_core.specs.declared.line.Refusal.TheVariants as refusals
use Rattle.session_core.specs.Queries.{is_memory_of, is_memory_in, lacks_memory}
use Rattle.session_core.specs.Answers.{prepare_answer, listed_answer, resolved_answer, reached_answer, asked_answer, prepared_answer, answer_over}

module _ (P : Answer → Type 0) (database : DatabaseParts) (rows : (found : List Row) → P (Segments found))
    (prepare : (fault : PrepareFault) → P (Refused (refusals.Prepare fault)))
    (resolve : (fault : AskFault) → P (Refused (refusals.Resolve fault)))
    (too_many : P (Refused refusals.TooManyTuples)) where
  listed : (found : List Row) (many : Bool) → P (listed_answer found many)
  listed found true = too_many
  listed found false = rows found

  resolved : (found : Result AskedParts AskFault) → P (resolved_answer database found)
  resolved (Ok a) =
      listed (segment_list database.config database.bundles a) (any_has_too_many database.config database.bundles a)
  resolved (Err fault) = resolve fault

  reaching : (found : Result ReachedParts AskFault) → P (reached_answer database found)
  reaching (Ok r) =
      listed (carried_list database.config database.bundles r) (any_has_too_many database.config database.bundles r.asked)
  reaching (Err fault) = resolve fault

  asking : (query : PreparedParts) (time : Option (List ℕ)) (requery : Option Requery) → P (asked_answer database query time requery)
  asking query time None = resolved (asked database.config query.query time)
  asking query time (Some requery) = reaching (reached database.config query.query requery time)

  text : (fault : PrepareFault) (short : Bool) → short ≡ false → P (prepare_answer fault short)
  text fault true is = absurd (false≢true (sym is))
  text fault false is = prepare fault

  prepared : (made : Result PreparedParts PrepareFault) (time : Option (List ℕ)) (requery : Option Requery) → is_memory_in made ≡ false →
      P (prepared_answer database made time requery)
  prepared (Ok query) time requery is = asking query time requery
  prepared (Err fault) time requery is = text fault (is_memory_of fault) is

  -- a fact of all these answers holds of a query's answer
  pub answers : (ask : Ask) → lacks_memory ask ≡ false → P (answer_over database ask)
  answers ask is = prepared ask.prepared ask.time ask.requery is
