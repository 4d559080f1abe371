use Rattle.std.proofs.Common.{arith}
use Rattle.std.specs.Prelude.{◌==◌}
use Rattle.byte_forms.specs.Parts.{byte_in}
use Rattle.value_codes.specs.Counts.{count_form}
use Rattle.value_codes.proofs.CountLaws.{step_gives, stop_gives, zero_first}
use Rattle.value_codes.proofs.counts.read_first.Goals as goal

pub returns-in-Ok : goal.returns-in-Ok
unfolding byte_in count_form
returns-in-Ok c =
    step_gives 3 0 (λ b. b == 0) zero_first c.args.from.now c.read_byte_is.new.self c.read_second.new.from c.in-Ok._zero 0 c.read_second.result
    c.in-Ok.ensures.byte (omega (arith, c.in-Ok.ensures.same)) c.read_second.ensures

pub returns-in-Err : goal.returns-in-Err
unfolding byte_in count_form
returns-in-Err c = stop_gives 3 0 (λ b. b == 0) zero_first c.args.from.now c.read_byte_is.new.self c.in-Err.fault c.in-Err.ensures.byte
