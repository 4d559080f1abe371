use Rattle.std.proofs.Common.{rules, ◌≡◌, ◌<◌, true, length, nat_eq, arith}
use Rattle.level_items.proofs.Found.{found_at}
use Rattle.level_items.proofs.moves.position_within.Goals as goal

pub returns-then-eq : goal.returns-then-eq
returns-then-eq c =
    let low = c.loop-place-test.true in
    let within : c.loop-place.place < length c.args.items.now = omega (arith, low) in
    let same : true ≡ nat_eq c.index-items-place.result.id.0 c.args.id.0 = search rules in
    found_at c.args.items.now c.loop-place.place c.args.id.0 c.index-items-place.result c.requires within c.index-items-place.is same
