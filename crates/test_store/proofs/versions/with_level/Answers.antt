use Rattle.std.proofs.Common.{subst}
use Rattle.db_config.specs.declared.parts.ConfigParts.{ConfigParts}
use Rattle.db_config.specs.Extends.{Extends}
use Rattle.config_additions.proofs.Grown.{level_extends}
use Rattle.test_store.proofs.versions.with_level.Goals as goal

pub with_config-requires : goal.with_config-requires
with_config-requires c =
    subst (λ (config : ConfigParts). Extends config c.in_ok-config.config) c.config.ensures
    (level_extends c.args.def.now c.config.result.now c.in_ok-config.config c.in_ok-config.ensures)
