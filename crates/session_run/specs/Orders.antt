-- A run in order over a book, as the core's laws see it, and what the answer to one line says.
use Rattle.std.specs.Prelude.{◌≡◌, Some}
use Rattle.edit_rules.specs.declared.acts.Act.{Act}
use Rattle.edit_rules.specs.declared.acts.Entry.{Entry}
use Rattle.query_workers.specs.session_core.declared.line.Answer.TheVariants.{Refused}
use Rattle.query_workers.specs.session_core.declared.line.Line.{Line}
use Rattle.query_workers.specs.session_core.declared.line.Refusal.TheVariants as refusals
use Rattle.query_workers.specs.session_core.declared.line.Reply.{Reply}
use Rattle.query_workers.specs.session_core.Answers.{entry_of}
use Rattle.query_workers.specs.session_core.Steps.{State}
use Rattle.query_workers.specs.session_core.Worlds.{act_wanted}

-- the disk refused the act that the line wants over a state, which would be this entry
pub record IsDiskRefused (st : State) (l : Line) (reply : Reply) (next : Entry) : Type 0 where
  pub act : Act
  pub asks : act_wanted st l.session.0 l.request ≡ Some act
  pub entry : next ≡ entry_of l act
  pub refused : reply.answer ≡ Refused refusals.Disk
