-- The version behind an edit of its configuration.
use Rattle.std.proofs.Common.{◌≡◌, ℕ, Result, Ok, Err, refl, sym, ◌∙◌, ap, subst}
use Rattle.emu_names.specs.Inner.Gives.{GivesOrBroken}
use Rattle.emu_names.specs.declared.rules.Fault.{Fault}
use Rattle.emu_names.specs.declared.rules.Fault.TheVariants as faults
use Rattle.db_config.specs.declared.parts.ConfigParts.{ConfigParts}
use Rattle.db_config.specs.Extends.{Extends}
use Rattle.edit_rules.specs.declared.acts.ChangeFault.{ChangeFault}
use Rattle.edit_rules.specs.declared.acts.ConfigEdit.{ConfigEdit}
use Rattle.edit_rules.specs.Acts.{config_changed}
use Rattle.edit_rules.specs.Effects.{config_effect, fitted_database}
use Rattle.edit_rules.specs.Inner.Effects.{IsFirstBreach, is_placed}
use Rattle.edit_rules.proofs.Fits.{done_by, extends_by, refused_by}
use Rattle.version_tree.specs.Version.{VersionParts, state_of}
use Rattle.version_tree.specs.Inner.Version.{IsUnder, next_number}

module _ (v : VersionParts) (edit : ConfigEdit) (own : ConfigParts) (same : own ≡ v.config) where
  pub wider : (config : ConfigParts) → config_changed edit own ≡ Ok config → Extends v.config config
  wider config is = extends_by edit (state_of v) own same config is

  pub configured : (config : ConfigParts) (next : VersionParts) → config_changed edit own ≡ Ok config → state_of next ≡ fitted_database (state_of v) config → config_effect (state_of v) edit ≡ Ok (state_of next)
  configured config next is made = done_by edit (state_of v) own same config (state_of next) is made

  broken_at : (fault : Fault) → GivesOrBroken {A = ConfigParts} (Err fault) (config_changed edit own) → IsFirstBreach (is_placed 1 fault) (config_effect (state_of v) edit)
  broken_at (faults.Broken rule) is = refused_by edit (state_of v) own same rule is
  broken_at faults.Memory is = tt

  pub not_configured : (fault : Fault) (placed : ChangeFault) → placed ≡ is_placed 1 fault → GivesOrBroken {A = ConfigParts} (Err fault) (config_changed edit own) → IsFirstBreach placed (config_effect (state_of v) edit)
  not_configured fault placed at is = subst (λ (p : ChangeFault). IsFirstBreach p (config_effect (state_of v) edit)) (sym at) (broken_at fault is)

pub counted_on : (config : ConfigParts) (v next : VersionParts) → IsUnder config v next → next.number ≡ next_number v.number
counted_on config v next under = under.number
