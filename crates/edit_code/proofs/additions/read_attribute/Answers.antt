use Rattle.edit_code.proofs.Exits.{exit_if, name_stops, attribute_stops}
use Rattle.edit_code.proofs.ReadSteps.{attribute_given}
use Rattle.edit_code.proofs.additions.read_attribute.Goals as goal

pub returns-in_err-level : goal.returns-in_err-level
returns-in_err-level c = exit_if _ _ _ _ _ _ _ c.from_residual.ensures.1 c.in_err-level.ensures (λ n e. name_stops c.args.from.now n e)

pub returns-in_err-raw : goal.returns-in_err-raw
returns-in_err-raw c =
    exit_if _ _ _ _ _ _ _ c.from_residual-in_err-raw.ensures.1 c.in_err-raw.ensures
    (λ n e. attribute_stops c.args.from.now c.read.new.from c.in_ok-level.level n c.in_ok-level.ensures e)

pub returns : goal.returns
returns c =
    attribute_given c.args.from.now c.read.new.from c.read-2.new.from c.in_ok-level.level c.in_ok-raw.raw c.in_ok-made.made
    c.in_ok-level.ensures c.in_ok-raw.ensures c.in_ok-made.ensures
