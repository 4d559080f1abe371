use Rattle.value_codes.proofs.CountLaws.{count_ranged}
use Rattle.value_codes.proofs.counts.read_count.Goals as goal

pub returns : goal.returns
returns c =
    let ranged = count_ranged c.args.from.now c.read_first.new.from c.read_first.result c.read_first.ensures in
    record { count = c.read_first.ensures; some = ranged.0; few = ranged.1 }
