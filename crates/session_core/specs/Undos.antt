-- What takes back the accepted changes of a run. An entry's line is taken back by the inverse of its act over the
-- state before it.
use Rattle.std.specs.Prelude.{ℕ, Bool, ◌&&◌, List, [], ◌∷◌, ◌++◌, Option, Some, None, Result, nat_eq, if◌then◌else◌}
use Rattle.emu_names.specs.declared.kinds.SessionNo.{SessionNo}
use Rattle.db_config.specs.declared.parts.ConfigParts.{ConfigParts}
use Rattle.edit_undo.specs.edit_rules.declared.acts.Act.{Act}
use Rattle.edit_undo.specs.edit_rules.declared.acts.Entry.{Entry}
use Rattle.edit_undo.specs.edit_rules.Effects.{database_after}
use Rattle.edit_undo.specs.declared.faults.NoUndo.{NoUndo}
use Rattle.edit_undo.specs.declared.faults.NoUndo.TheVariants as reasons
use Rattle.edit_undo.specs.Inverse.{inverse_at}
use Rattle.session_core.specs.declared.kept_acts.KeptAct.{KeptAct}
use Rattle.session_core.specs.declared.line.Refusal.{Refusal}
use Rattle.session_core.specs.declared.line.Refusal.TheVariants as refusals

-- what is kept of a line: what takes it back, or why nothing does
abbrev pub kept_act : SessionNo → ℕ → Result Act NoUndo → KeptAct
kept_act session line inverse = record { session = session; line = line; inverse = inverse }

-- what is kept of an entry, behind these: the inverse of its act over the state before it
abbrev pub kept_of : ConfigParts → List Entry → Entry → KeptAct
kept_of c before e = kept_act e.session e.line (inverse_at (database_after c before) e.act)

-- what is kept of entries that came one after another, behind these
abbrev pub kept_behind : ConfigParts → List Entry → List Entry → List KeptAct
kept_behind c before [] = []
kept_behind c before (e ∷ es) = kept_of c before e ∷ kept_behind c (before ++ e ∷ []) es

-- whether it is of this line of this session
abbrev pub is_kept_of : ℕ → ℕ → KeptAct → Bool
is_kept_of session line kept = nat_eq kept.session.0 session && nat_eq kept.line line

-- what was found later, or else this
abbrev pub found_later : {A : Type 0} → Option A → Option A → Option A
found_later None here = here
found_later (Some later) here = Some later

-- what takes back a line of a session, where something is kept of it: the last that is
abbrev pub latest_of : ℕ → ℕ → List KeptAct → Option (Result Act NoUndo)
latest_of session line [] = None
latest_of session line (kept ∷ rest) =
    found_later (latest_of session line rest) (if is_kept_of session line kept then Some kept.inverse else None)

-- the refusal of an `undo` of a line that nothing takes back
abbrev pub undo_refusal : NoUndo → Refusal
undo_refusal reasons.NoInverse = refusals.NoInverse
undo_refusal reasons.TooManyEdits = refusals.TooManyEdits
