use Rattle.edit_code.proofs.EditLaws.{entry_law}
use Rattle.value_codes.proofs.HeadLaws.{head_law}
use Rattle.edit_code.proofs.laws.codes_are_read.Goals as goal

pub returns : goal.returns
returns c = record { entries = entry_law; heads = head_law }
