-- The answer of what was listed.
use Rattle.std.proofs.Common.{◌≡◌, Bool, true, false, List, ap, refl}
use Rattle.requery.specs.eql_rows.declared.row.Row.{Row}
use Rattle.session_core.specs.declared.line.Answer.TheVariants.{Segments, Refused}
use Rattle.session_core.specs.declared.line.Refusal.TheVariants as refusals
use Rattle.session_core.specs.Answers.{listed_answer}

pub answer_of_rows : (list rows : List Row) (too_many : Bool) → list ≡ rows → too_many ≡ false → Segments list ≡ listed_answer rows too_many
answer_of_rows list rows too_many are few = rw few (ap (λ rs. Segments rs) are)

pub answer_of_too_many : (rows : List Row) (too_many : Bool) → too_many ≡ true → Refused refusals.TooManyTuples ≡ listed_answer rows too_many
answer_of_too_many rows too_many many = rw many refl
