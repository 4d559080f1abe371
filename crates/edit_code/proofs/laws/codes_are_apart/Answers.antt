use Rattle.byte_forms.proofs.Stops.{prefix_free}
use Rattle.edit_code.specs.Edits.{entry_form}
use Rattle.value_codes.specs.Heads.{head_form}
use Rattle.edit_code.proofs.EditLaws.{entry_law}
use Rattle.value_codes.proofs.HeadLaws.{head_law}
use Rattle.edit_code.proofs.laws.codes_are_apart.Goals as goal

pub returns : goal.returns
returns c = record { entries = prefix_free entry_form entry_law; heads = prefix_free head_form head_law }
