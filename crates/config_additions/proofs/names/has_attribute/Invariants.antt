use Rattle.std.proofs.Common.{◌≡◌, drop}
use Rattle.std.specs.List.{list_any}
use Rattle.emu_names.specs.Texts.{same_text}
use Rattle.config_additions.proofs.names.has_attribute.Given as goal

-- an attribute of all has the name where one of the rest has
abbrev pub invariant-loop-def : goal.invariant-loop-def
invariant-loop-def l = list_any (λ a. same_text a.name l.name) (drop l.def-index l.defs) ≡ list_any (λ a. same_text a.name l.name) l.fn.defs
