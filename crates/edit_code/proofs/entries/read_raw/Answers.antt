use Rattle.edit_rules.specs.declared.acts.Entry.{Entry}
use Rattle.edit_code.specs.Edits.{body_form, body_of, entry_form}
use Rattle.edit_code.specs.Kinds.{all_bodies, body_number}
use Rattle.edit_code.specs.Names.{is_entry}
use Rattle.edit_code.specs.Tags.{tag_form}
use Rattle.edit_code.proofs.EntrySteps.{led_if}
use Rattle.edit_code.proofs.entries.read_raw.Goals as goal

pub returns : goal.returns
unfolding entry_form
returns c =
    led_if (tag_form all_bodies body_number) (λ (e : Entry). body_of e.act) body_form is_entry c.read_body.result c.args.from.now
    c.read_tag.new.from c.read_body.new.from c.in_ok-body.body c.in_ok-body.ensures c.read_body.ensures
