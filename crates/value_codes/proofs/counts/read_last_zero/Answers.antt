use Rattle.std.specs.Prelude.{◌==◌}
use Rattle.std.proofs.Common.{◌≡◌, ℕ, ◌+◌, ◌*◌, ◌∙◌, ap, arith}
use Rattle.std.specs.Prelude.{Ok}
use Rattle.byte_forms.specs.Parts.{byte_in}
use Rattle.value_codes.proofs.CountLaws.{count_step, stop_gives, zero_last}
use Rattle.value_codes.proofs.counts.read_last_zero.Goals as goal

pub returns-in-Ok : goal.returns-in-Ok
unfolding byte_in
returns-in-Ok c =
    let most : 256 * 256 + c.in-Ok._zero ≡ 65536 = omega (arith, c.in-Ok.ensures.same) in
    count_step 0 256 (λ b. b == 0) zero_last c.args.from.now c.read_byte_is.new.self c.in-Ok._zero c.in-Ok.ensures.byte
    ∙ ap (λ (n : ℕ). Ok (n, c.read_byte_is.new.self)) most

pub returns-in-Err : goal.returns-in-Err
unfolding byte_in
returns-in-Err c =
    stop_gives 0 256 (λ b. b == 0) zero_last c.args.from.now c.read_byte_is.new.self c.in-Err.fault c.in-Err.ensures.byte
