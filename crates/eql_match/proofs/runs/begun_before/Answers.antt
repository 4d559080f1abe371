use Rattle.std.proofs.Common.{◌∙◌, rules}
use Rattle.std.specs.Prelude.{nat_lt}
use Rattle.std.proofs.lemmas.List.Sorted.{IsPartitionPoint-from_clause, IsPartitionedBy-ltb}
use Rattle.eql_tuples.specs.declared.tuple.Tuple.{Tuple}
use Rattle.eql_match.proofs.Near.{begun_front}
use Rattle.eql_match.proofs.runs.begun_before.Goals as goal

pub returns : goal.returns
returns c =
    let parted = IsPartitionedBy-ltb (λ (t : Tuple). t.first) c.args.tuples.now c.args.high c.requires in
    let point = IsPartitionPoint-from_clause (λ (t : Tuple). nat_lt t.first c.args.high) c.args.tuples.now c.partition_point-count.result c.partition_point-count.ensures.partitioned parted (λ a r q k. search rules) in
    c.split_at.ensures.front ∙ begun_front c.args.tuples.now c.partition_point-count.result c.args.high c.partition_point-count.ensures.bound point
