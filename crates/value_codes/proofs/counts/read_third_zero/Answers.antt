use Rattle.std.proofs.Common.{arith}
use Rattle.std.specs.Prelude.{◌==◌}
use Rattle.byte_forms.specs.Parts.{byte_in}
use Rattle.value_codes.proofs.CountLaws.{step_gives, stop_gives, zero_third}
use Rattle.value_codes.proofs.counts.read_third_zero.Goals as goal

pub returns-in-Ok : goal.returns-in-Ok
unfolding byte_in
returns-in-Ok c =
    step_gives 1 1 (λ b. b == 0) zero_third c.args.from.now c.read_byte_is.new.self c.read_last_zero.new.from c.in-Ok._zero 256 c.read_last_zero.result
    c.in-Ok.ensures.byte (omega (arith, c.in-Ok.ensures.same)) c.read_last_zero.ensures

pub returns-in-Err : goal.returns-in-Err
unfolding byte_in
returns-in-Err c = stop_gives 1 1 (λ b. b == 0) zero_third c.args.from.now c.read_byte_is.new.self c.in-Err.fault c.in-Err.ensures.byte
