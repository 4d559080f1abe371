use Rattle.std.proofs.Common.{arith}
use Rattle.std.specs.Prelude.{◌&&◌, nat_le}
use Rattle.byte_forms.specs.Parts.{byte_in}
use Rattle.value_codes.proofs.CountLaws.{count_step, stop_gives, from_least}
use Rattle.value_codes.proofs.counts.read_last.Goals as goal

pub returns-in-Ok : goal.returns-in-Ok
unfolding byte_in
returns-in-Ok c =
    count_step 0 c.args.front (λ b. nat_le c.least_behind.result b && nat_le b 255)
    (from_least c.args.front c.least_behind.result (omega arith) c.least_behind.ensures.none c.least_behind.ensures.some)
    c.args.from.now c.read_byte_from_to.new.self c.in-Ok.last c.in-Ok.ensures.byte

pub returns-in-Err : goal.returns-in-Err
unfolding byte_in
returns-in-Err c =
    stop_gives 0 c.args.front (λ b. nat_le c.least_behind.result b && nat_le b 255)
    (from_least c.args.front c.least_behind.result (omega arith) c.least_behind.ensures.none c.least_behind.ensures.some)
    c.args.from.now c.read_byte_from_to.new.self c.in-Err.fault c.in-Err.ensures.byte
