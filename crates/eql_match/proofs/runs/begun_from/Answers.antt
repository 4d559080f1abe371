use Rattle.std.proofs.Common.{◌∙◌, rules}
use Rattle.std.specs.Prelude.{nat_lt}
use Rattle.std.proofs.lemmas.List.Sorted.{IsPartitionPoint-from_clause, IsPartitionedBy-ltb}
use Rattle.eql_tuples.specs.declared.tuple.Tuple.{Tuple}
use Rattle.eql_match.proofs.Near.{begun_back}
use Rattle.eql_match.proofs.runs.begun_from.Goals as goal

pub returns-clause-filter : goal.returns-clause-filter
returns-clause-filter c =
    let parted = IsPartitionedBy-ltb (λ (t : Tuple). t.first) c.args.tuples.now c.args.low c.requires in
    let point = IsPartitionPoint-from_clause (λ (t : Tuple). nat_lt t.first c.args.low) c.args.tuples.now c.partition_point-count.result c.partition_point-count.ensures.partitioned parted (λ a r q k. search rules) in
    c.split_at.ensures.back ∙ begun_back c.args.tuples.now c.partition_point-count.result c.args.low c.partition_point-count.ensures.bound point
