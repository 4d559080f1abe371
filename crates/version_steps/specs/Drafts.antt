-- What a commit makes before it asks the book: what depends on the configuration and the act alone.
use Rattle.std.specs.Prelude.{ℕ}
use Rattle.emu_names.specs.declared.kinds.SessionNo.{SessionNo}
use Rattle.edit_rules.specs.declared.acts.Act.{Act}
use Rattle.edit_rules.specs.declared.acts.Entry.{Entry}

-- an entry of a session and a line
abbrev pub entry_of : SessionNo → ℕ → Act → Entry
entry_of session line act = record { session = session; line = line; act = act }
