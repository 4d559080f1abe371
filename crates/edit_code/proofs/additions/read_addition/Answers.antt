use Rattle.edit_code.specs.Additions.{addition_at, addition_form, addition_of}
use Rattle.edit_code.specs.Kinds.{all_additions, addition_number}
use Rattle.edit_code.specs.Names.{is_addition}
use Rattle.edit_code.specs.Tags.{tag_form}
use Rattle.edit_code.proofs.EntrySteps.{led_if}
use Rattle.edit_code.proofs.additions.read_addition.Goals as goal

pub returns : goal.returns
unfolding addition_form
returns c =
    led_if (tag_form all_additions addition_number) addition_of addition_at is_addition c.read_parts.result c.args.from.now
    c.read_tag.new.from c.read_parts.new.from c.in_ok-addition.addition c.in_ok-addition.ensures c.read_parts.ensures
