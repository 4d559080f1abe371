-- The example's run, worked out.
use Rattle.std.proofs.Common.{[], refl, arith}
use Rattle.byte_forms.specs.Lists.{list_of, times}
use Rattle.byte_forms.specs.Parts.{byte_in, imaged, just, led, option_of, pair, shaped, u32_form, u64_form}
use Rattle.byte_forms.specs.Utf8.{text_form, utf8_form}
use Rattle.value_codes.specs.Annots.{annot_form, id_form, item_form, key_form, label_form, level_form, level_kind_form, session_form, time_form}
use Rattle.value_codes.specs.Heads.{attribute_form, head_form, level_def_form, parts_form}
use Rattle.edit_code.specs.Codes.{entry_code, head_code}
use Rattle.edit_code.specs.Edits.{body_form, edit_form, entry_form, keyed_form}
use Rattle.edit_code.specs.Tags.{tag_form}
use Rattle.edit_undo.specs.edit_rules.Database.{empty_database}
use Rattle.eql_resolve.specs.Resolve.{asked}
use Rattle.session_core.specs.Example.{example_config, example_events}
use Rattle.session_core.specs.Laws.{ExampleFits, ExampleReplies, ExampleHistory, ExampleIsLegal, ExampleSizes}
use Rattle.session_core.proofs.Runs.{core_run_legal}

pub example_replies_are : ExampleReplies
unfolding asked
example_replies_are = refl

pub example_history_is : ExampleHistory
example_history_is = refl

pub example_fits : ExampleFits
example_fits = (
  record { event = record { next = record { place = omega arith; idle = refl; behind = tt }; kind = refl; command = refl; names = tt }; trouble = tt },
  (
    record {
      event = record { next = record { place = omega arith; idle = refl; behind = (record { own = λ same. omega arith; others = λ ne same. ne refl }, tt) }; kind = refl; command = refl; answered = tt };
      trouble = tt;
    },
    (
      record { event = omega arith; trouble = tt },
      (record { event = record { place = omega arith; held = refl }; trouble = tt }, tt),
    ),
  ),
)

pub example_legal : ExampleIsLegal
unfolding asked
example_legal = core_run_legal example_config [] example_events (empty_database example_config, refl) (omega arith) example_fits

pub example_sizes : ExampleSizes
unfolding head_code head_form parts_form level_def_form attribute_form entry_code entry_form body_form session_form edit_form keyed_form tag_form key_form id_form annot_form level_form level_kind_form item_form time_form label_form text_form utf8_form list_of times option_of byte_in led pair shaped imaged just u32_form u64_form
example_sizes = (refl, refl, refl)
