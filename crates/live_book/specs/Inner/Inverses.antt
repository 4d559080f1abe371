-- What is kept of accepted acts, and the acts whose edits may stand in one list; no promise of the program rests on these
-- words.
use Rattle.std.specs.Prelude.{◌≡◌, ℕ, List, Result, Ok, Err}
use Rattle.db_config.specs.declared.parts.ConfigParts.{ConfigParts}
use Rattle.version_steps.specs.edit_rules.declared.acts.Act.{Act}
use Rattle.version_steps.specs.edit_rules.declared.acts.Act.TheVariants as acts
use Rattle.version_steps.specs.edit_rules.declared.acts.Entry.{Entry}
use Rattle.version_steps.specs.edit_rules.Effects.{database_after}
use Rattle.version_steps.specs.edit_rules.Inner.Acts.{AreTogether}
use Rattle.edit_undo.specs.Inverse.{inverse_at}
use Rattle.version_steps.specs.edit_rules.declared.commit_fault.EditFault.{EditFault}
use Rattle.live_book.specs.declared.kept.Kept.{Kept}

-- the answer of a commit that keeps what takes its act back, with the number alone
abbrev pub numbered : Result Kept EditFault → Result ℕ EditFault
numbered (Ok kept) = Ok kept.n
numbered (Err fault) = Err fault

-- what is kept of an accepted act takes it back: it is the act's inverse over the state after the entries that stood
-- before
abbrev pub KeepsInverse : ConfigParts → List Entry → Act → Result Kept EditFault → Type 0
KeepsInverse config history act (Ok kept) = kept.inverse ≡ inverse_at (database_after config history) act
KeepsInverse config history act (Err fault) = Unit {0}

-- the edits of an act, where it is a list of edits, may stand in one list
abbrev pub IsTogether : Act → Type 0
IsTogether (acts.Edits es) = AreTogether es
IsTogether (acts.Config edit) = Unit {0}
