use Rattle.edit_code.proofs.ListSteps.{inner_made}
use Rattle.edit_code.proofs.edits.read_inner.Goals as goal

pub returns : goal.returns
returns c =
    let made = inner_made c.args.key.now c.in_ok-key.key c.args.from.now c.read_told.new.from c.in_ok-fields.fields c.edit_of.result
    c.in_ok-fields.ensures c.in_ok-key.ensures c.edit_of.ensures in
    record { edit = made.edit; inner = made.inner }
