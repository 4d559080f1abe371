-- What a query of a store is answered.
use Rattle.std.specs.Prelude.{ℕ, List, [], Result, Ok, Err}
use Rattle.reply_texts.specs.session_core.declared.line.Answer.{Answer}
use Rattle.reply_texts.specs.session_core.declared.line.Answer.TheVariants as answers
use Rattle.store_texts.specs.declared.faults.Refused.{Refused}
use Rattle.store_texts.specs.declared.faults.Refused.TheVariants.{Request}
use Rattle.store_texts.specs.Texts.{segments_text}

-- the rows of a segment list over a state with this number of edits, or the refusal; no query is answered
-- that something was done
abbrev pub asked_text : ℕ → Answer → Result (List ℕ) Refused
asked_text n (answers.Segments rows) = Ok (segments_text n rows)
asked_text n (answers.Refused refusal) = Err (Request refusal)
asked_text n (answers.Done command) = Ok []
