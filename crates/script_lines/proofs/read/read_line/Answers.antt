use Rattle.std.proofs.Common.{sym}
use Rattle.script_lines.proofs.Making.{blank_wanted, blank_passed}
use Rattle.script_lines.proofs.read.read_line.Goals as goal

pub returns-then-wants_config : goal.returns-then-wants_config
returns-then-wants_config g c = record { read = blank_wanted _ _ _ _ _ (sym c.if-is_blank.ensures) c.if-wants_config.true }

pub returns-then-is_blank : goal.returns-then-is_blank
returns-then-is_blank g c = record { read = blank_passed _ _ _ _ _ (sym c.if-is_blank.ensures) c.if-wants_config.false }
