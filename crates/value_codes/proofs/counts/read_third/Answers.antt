use Rattle.std.proofs.Common.{arith}
use Rattle.std.specs.Prelude.{◌&&◌, nat_le}
use Rattle.byte_forms.specs.Parts.{byte_in}
use Rattle.value_codes.proofs.CountLaws.{step_gives, stop_gives, any_third}
use Rattle.value_codes.proofs.counts.read_third.Goals as goal

pub returns-in-Ok : goal.returns-in-Ok
unfolding byte_in
returns-in-Ok c =
    step_gives 1 0 (λ b. nat_le 0 b && nat_le b 255) any_third c.args.from.now c.read_byte_from_to.new.self c.read_last.new.from c.in-Ok.front c.in-Ok.front c.read_last.result
    c.in-Ok.ensures.byte (omega (arith)) c.read_last.ensures

pub returns-in-Err : goal.returns-in-Err
unfolding byte_in
returns-in-Err c = stop_gives 1 0 (λ b. nat_le 0 b && nat_le b 255) any_third c.args.from.now c.read_byte_from_to.new.self c.in-Err.fault c.in-Err.ensures.byte
