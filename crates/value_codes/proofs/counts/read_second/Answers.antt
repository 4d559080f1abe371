use Rattle.std.proofs.Common.{arith}
use Rattle.std.specs.Prelude.{nat_lt}
use Rattle.byte_forms.specs.Parts.{byte_in}
use Rattle.value_codes.proofs.CountLaws.{step_gives, stop_gives, below_two}
use Rattle.value_codes.proofs.counts.read_second.Goals as goal

pub returns-in-Ok : goal.returns-in-Ok
unfolding byte_in
returns-in-Ok c =
    step_gives 2 0 (λ b. nat_lt b 2) below_two c.args.from.now c.read_byte_below.new.self c.read_behind.new.from c.in-Ok.second c.in-Ok.second c.read_behind.result
    c.in-Ok.ensures.byte (omega (arith)) c.read_behind.ensures

pub returns-in-Err : goal.returns-in-Err
unfolding byte_in
returns-in-Err c = stop_gives 2 0 (λ b. nat_lt b 2) below_two c.args.from.now c.read_byte_below.new.self c.in-Err.fault c.in-Err.ensures.byte
