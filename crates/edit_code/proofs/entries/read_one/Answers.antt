use Rattle.edit_code.proofs.Exits.{exit_if, kind_stops, one_key_stops, fields_stop}
use Rattle.edit_code.proofs.ReadSteps.{one_given}
use Rattle.edit_code.proofs.entries.read_one.Goals as goal

pub returns-in_err-kind : goal.returns-in_err-kind
returns-in_err-kind c = exit_if _ _ _ _ _ _ _ c.from_residual.ensures.1 c.in_err-kind.ensures (λ n e. kind_stops c.args.from.now n e)

pub returns-in_err-raw : goal.returns-in_err-raw
returns-in_err-raw c =
    exit_if _ _ _ _ _ _ _ c.from_residual-in_err-raw.ensures.1 c.in_err-raw.ensures
    (λ n e. one_key_stops c.args.from.now c.read_tag.new.from c.in_ok-kind.kind n c.in_ok-kind.ensures e)

pub returns-in_err-fields : goal.returns-in_err-fields
returns-in_err-fields c =
    exit_if _ _ _ _ _ _ _ c.from_residual-in_err-fields.ensures.1 c.in_err-fields.ensures
    (λ n e. fields_stop c.args.from.now c.read_tag.new.from c.read.new.from c.in_ok-kind.kind c.in_ok-raw.raw n c.in_ok-kind.ensures c.in_ok-raw.ensures e)

pub returns : goal.returns
returns c =
    one_given c.args.from.now c.read_tag.new.from c.read.new.from c.read_fields.new.from c.in_ok-kind.kind c.in_ok-raw.raw c.in_ok-fields.fields
    c.in_ok-made.made c.in_ok-kind.ensures c.in_ok-raw.ensures c.in_ok-fields.ensures c.in_ok-made.ensures
