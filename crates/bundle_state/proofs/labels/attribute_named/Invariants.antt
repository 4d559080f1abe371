use Rattle.std.proofs.Common.{◌≡◌, drop}
use Rattle.std.specs.List.{find}
use Rattle.db_config.specs.declared.attributes.AttributeDef.{AttributeDef}
use Rattle.emu_names.specs.Texts.{same_text}
use Rattle.bundle_state.proofs.labels.attribute_named.Given as goal

abbrev pub invariant-loop-def : goal.invariant-loop-def
invariant-loop-def l = find (λ (d : AttributeDef). same_text d.name l.name) (drop l.def-index l.defs) ≡ find (λ (d : AttributeDef). same_text d.name l.name) l.fn.defs
