-- A snapshot as an entry of the published list.
use Rattle.std.specs.Arc.{arc_value}
use Rattle.version_gate.specs.declared.entry.Entry.{Entry}
use Rattle.version_gate.specs.declared.entry.Snapshot.{Snapshot}
use Rattle.version_gate.specs.Lists.{entry}

-- the version and the number of a snapshot
abbrev pub entry_of : {T : Type 0} → Snapshot T → Entry T
entry_of s = entry s.number (arc_value s.version)
