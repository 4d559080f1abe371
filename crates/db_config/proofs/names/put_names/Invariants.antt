use Rattle.std.proofs.Common.{◌≡◌, ◌++◌, cond, drop}
use Rattle.db_config.specs.Names.{attribute_names, without_first, names_of}
use Rattle.db_config.proofs.names.put_names.Given as goal

-- the names so far, and those that are still to come
abbrev pub invariant-loop-attribute : goal.invariant-loop-attribute
invariant-loop-attribute l =
    let rest = attribute_names (drop l.attribute-index l.attribute-items) in
    l.names ++ cond l.own rest (without_first l.def.name rest) ≡ l.fn.names ++ names_of l.def
