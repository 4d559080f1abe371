use Rattle.std.proofs.Common.{◌≡◌, drop}
use Rattle.emu_io.specs.Folders.{file_at}
use Rattle.memory_io.proofs.tree.read_of.Given as goal

-- no file was at the path so far
abbrev pub invariant-stored : goal.invariant-stored
invariant-stored l = file_at (drop l.stored-index l.content) l.path ≡ file_at l.content l.path
