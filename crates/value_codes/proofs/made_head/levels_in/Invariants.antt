-- The first ones are there, and whether all pass is whether those that are left do.
use Rattle.std.proofs.Common.{◌≡◌, take, drop}
use Rattle.std.specs.List.{list_all}
use Rattle.db_config.specs.Made.{is_level}
use Rattle.value_codes.proofs.made_head.levels_in.Given as goal

abbrev pub invariant-loop-part : goal.invariant-loop-part
invariant-loop-part l =
    (l.levels ≡ take l.part-index l.raw) × (list_all is_level (drop l.part-index l.raw) ≡ list_all is_level l.fn.raw)
