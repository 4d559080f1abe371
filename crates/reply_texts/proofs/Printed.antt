-- What the values of refusals are: they have no float.
use Rattle.std.proofs.Common.{◌≡◌, ℕ, List, Option, None, Some, false, codes, refl, ap, ◌∙◌}
use Rattle.serde_json.specs.Data.{Data}
use Rattle.serde_json.specs.Written.{compact_text, has_float}
use Rattle.emu_names.specs.declared.rules.Broken.{Broken}
use Rattle.emu_names.specs.declared.rules.Broken.TheVariants as rules
use Rattle.eql_syntax.specs.declared.query.QueryFault.{QueryFault}
use Rattle.eql_syntax.specs.declared.query.QueryFault.TheVariants as queries
use Rattle.eql_resolve.specs.declared.faults.PrepareFault.{PrepareFault}
use Rattle.eql_resolve.specs.declared.faults.PrepareFault.TheVariants as prepares
use Rattle.eql_resolve.specs.declared.faults.AskFault.{AskFault}
use Rattle.eql_resolve.specs.declared.faults.AskFault.TheVariants as asks
use Rattle.session_core.specs.declared.line.Refusal.{Refusal}
use Rattle.session_core.specs.declared.line.Refusal.TheVariants as refusals
use Rattle.textgrid.specs.declared.fault.GridFault.{GridFault}
use Rattle.textgrid.specs.declared.fault.GridFault.TheVariants as grid_faults
use Rattle.config_json.specs.declared.faults.ConfigFault.{ConfigFault}
use Rattle.config_json.specs.declared.faults.ConfigFault.TheVariants as config_faults
use Rattle.reply_texts.specs.Refusals.{ask_members, config_members, grid_members, placed, prepare_members, query_members, refusal_members, rule_members}
use Rattle.reply_texts.specs.Texts.{refusal_data}
use Rattle.reply_texts.proofs.Plain.{any_float, object_plain}

rule_plain : (key : List ℕ) (place : Option ℕ) (b : Broken) → any_float (placed place (rule_members key b)) ≡ false
rule_plain key None rules.BundleTaken = refl
rule_plain key None _ = refl
rule_plain key (Some place) rules.BundleTaken = refl
rule_plain key (Some place) _ = refl

pub grid_plain : (key : List ℕ) (f : GridFault) → any_float (grid_members key f) ≡ false
grid_plain key (grid_faults.BadText at) = refl
grid_plain key _ = refl

query_plain : (key : List ℕ) (f : QueryFault) → any_float (query_members key f) ≡ false
query_plain key queries.TextTooLong = refl
query_plain key _ = refl

prepare_plain : (key : List ℕ) (f : PrepareFault) → any_float (prepare_members key f) ≡ false
prepare_plain key (prepares.Query f) = query_plain key f
prepare_plain key _ = refl

ask_plain : (key : List ℕ) (f : AskFault) → any_float (ask_members key f) ≡ false
ask_plain key asks.MixedLevels = refl
ask_plain key _ = refl

pub refusal_plain : (key : List ℕ) (r : Refusal) → any_float (refusal_members key r) ≡ false
refusal_plain key (refusals.Rule b place) = rule_plain key place b
refusal_plain key (refusals.Grid f) = grid_plain key f
refusal_plain key (refusals.Prepare f) = prepare_plain key f
refusal_plain key (refusals.Resolve f) = ask_plain key f
refusal_plain key _ = refl

pub config_plain : (key : List ℕ) (fault : ConfigFault) → any_float (config_members key fault) ≡ false
config_plain key config_faults.DoubleLink = refl
config_plain key _ = refl

-- the text of a refusal's value
pub refusal_text : (text : List ℕ) (d : Data) (r : Refusal) → d ≡ refusal_data r → (has_float d ≡ false
    → text ≡ compact_text d) → text ≡ compact_text (refusal_data r)
refusal_text text d r same is =
    is (ap has_float same ∙ object_plain (refusal_members (codes "rule") r) (refusal_plain (codes "rule") r))
    ∙ ap compact_text same
