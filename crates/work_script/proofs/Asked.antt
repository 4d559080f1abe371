-- The rows that a query was answered.
use Rattle.std.proofs.Common.{◌≡◌, ℕ, Bool, true, false, List, length, Option, None, Result, Ok, Err, refl, ◌∙◌, ap}
use Rattle.eql_resolve.specs.declared.faults.AskFault.{AskFault}
use Rattle.eql_resolve.specs.declared.faults.PrepareFault.{PrepareFault}
use Rattle.eql_resolve.specs.Asked.{AskedParts}
use Rattle.eql_resolve.specs.Made.{IsPreparedFrom}
use Rattle.eql_resolve.specs.Prepared.{PreparedParts}
use Rattle.eql_resolve.specs.Resolve.{asked}
use Rattle.requery.specs.eql_rows.declared.row.Row.{Row}
use Rattle.requery.specs.eql_model.Rows.{any_has_too_many, segment_list}
use Rattle.edit_rules.specs.Database.{DatabaseParts}
use Rattle.requery.specs.declared.target.Requery.{Requery}
use Rattle.live_run.specs.session_core.declared.line.Answer.TheVariants.{Segments}
use Rattle.live_run.specs.session_core.declared.line.Ask.{Ask}
use Rattle.live_run.specs.session_core.Answers.{answer_over, asked_answer, listed_answer, prepared_answer, resolved_answer}
use Rattle.work_script.specs.Summary.{HasRowsFor}

listed : (rows there : List Row) (many : Bool) → Segments rows ≡ listed_answer there many → rows ≡ there
listed rows there true same = absurd cc
listed rows there false same = cc

-- the rows of an answer are those of the segment list
pub rows_asked : (state : DatabaseParts) (text : List ℕ) (ask : Ask) (p : PreparedParts) (rows : List Row) → ask.prepared ≡ Ok p → IsPreparedFrom text p → ask.time ≡ None → ask.requery ≡ None
    → Segments rows ≡ answer_over state ask → HasRowsFor state text (length rows)
rows_asked state text ask p rows prepared of untimed own same =
    by (asked state.config p.query None) refl
    (same ∙ ap (λ (made : Result PreparedParts PrepareFault). prepared_answer state made ask.time ask.requery) prepared
    ∙ ap (λ (time : Option (List ℕ)). asked_answer state p time ask.requery) untimed
    ∙ ap (λ (requery : Option Requery). asked_answer state p None requery) own)
  where
    by : (r : Result AskedParts AskFault) → asked state.config p.query None ≡ r → Segments rows ≡ resolved_answer state r → HasRowsFor state text (length rows)
    by (Err fault) is told = absurd cc
    by (Ok a) is told = record {
      query = p.query;
      spelled = of.query;
      asks = a;
      resolved = is;
      counted = ap length (listed rows (segment_list state.config state.bundles a) (any_has_too_many state.config state.bundles a) told);
    }
