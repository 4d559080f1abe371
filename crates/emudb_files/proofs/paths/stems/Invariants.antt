use Rattle.std.proofs.Common.{◌≡◌, take, filter_map}
use Rattle.emudb_files.specs.Names.{folder_stem}
use Rattle.emudb_files.proofs.paths.stems.Given as goal

-- the names are those of the entries so far
abbrev pub invariant-entries : goal.invariant-entries
invariant-entries l = l.names.items ≡ filter_map (folder_stem l.ending) (take l.entry-index l.entries)
