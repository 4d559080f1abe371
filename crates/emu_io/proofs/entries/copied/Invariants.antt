use Rattle.std.proofs.Common.{◌≡◌, take}
use Rattle.emu_io.proofs.entries.copied.Given as goal

-- the entries so far are copied
abbrev pub invariant-entries : goal.invariant-entries
invariant-entries l = l.made.items ≡ take l.entry-index l.entries
