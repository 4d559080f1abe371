use Rattle.std.proofs.Common.{◌≡◌, ◌≤◌, drop, Ok}
use Rattle.emu_names.specs.declared.limits.TheConstants.{OPEN_BRACKETS}
use Rattle.eql_syntax.specs.Inner.Reading.{read, reads}
use Rattle.eql_syntax.specs.Inner.View.{reading_view}
use Rattle.eql_syntax.proofs.reader.read_all.Given as goal

abbrev pub invariant-loop-placed : goal.invariant-loop-placed
invariant-loop-placed l = record {
  depth : l.reading.depth ≤ OPEN_BRACKETS;
  same : reads (Ok (reading_view l.reading)) (drop l.placed-index l.tokens) l.length ≡ read l.tokens l.length;
}
