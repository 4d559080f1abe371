use Rattle.std.proofs.Common.{refl}
use Rattle.byte_forms.specs.Lists.{times}
use Rattle.byte_forms.specs.Parts.{byte_in, led, just, pair, shaped, imaged, u32_form}
use Rattle.byte_forms.specs.Utf8.{text_form, utf8_form}
use Rattle.value_codes.specs.Annots.{id_form, key_form, session_form}
use Rattle.value_codes.specs.Heads.{link_kind_form}
use Rattle.edit_code.specs.Additions.{addition_form}
use Rattle.edit_code.specs.Codes.{entry_code}
use Rattle.value_codes.specs.Counts.{count_form}
use Rattle.edit_code.specs.Edits.{body_form, edit_form, entry_form, inner_form, keyed_form, several_form, told_form}
use Rattle.edit_code.specs.Tags.{tag_form}
use Rattle.edit_code.proofs.laws.an_entry_in_bytes.Goals as goal

pub returns : goal.returns
unfolding entry_code entry_form body_form session_form edit_form keyed_form key_form id_form text_form utf8_form byte_in led just pair shaped imaged u32_form tag_form several_form told_form inner_form count_form times addition_form link_kind_form
returns c = record { one = refl; several = refl; config = refl }
