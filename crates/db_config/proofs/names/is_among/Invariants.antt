use Rattle.std.proofs.Common.{◌≡◌, drop}
use Rattle.std.specs.List.{list_any}
use Rattle.emu_names.specs.Texts.{same_text}
use Rattle.db_config.proofs.names.is_among.Given as goal

-- the text is among all where it is among the rest
abbrev pub invariant-loop-other : goal.invariant-loop-other
invariant-loop-other l = list_any (same_text l.text) (drop l.other-index l.texts) ≡ list_any (same_text l.text) l.texts
