use Rattle.std.proofs.Common.{rules, sym}
use Rattle.std.proofs.lemmas.List.Sorted.{IsPartitionPoint-from_clause, IsPartitionedBy-ltb}
use Rattle.level_items.specs.declared.items.Item.{Item}
use Rattle.level_items.specs.Times.{first_sample, starts_before}
use Rattle.level_items.proofs.Lists.{count_is}
use Rattle.level_items.proofs.Apart.{starts_rise}
use Rattle.level_items.proofs.places.place_in_time.Goals as goal

pub returns : goal.returns
returns c =
    let items = c.args.items.now in
    let test = λ (i : Item). starts_before i.time c.args.time in
    let parted = IsPartitionedBy-ltb (λ (i : Item). first_sample i.time) items (first_sample c.args.time) (λ i j d order within. starts_rise items i j d c.requires order within) in
    let point = IsPartitionPoint-from_clause test items c.partition_point.result c.partition_point.ensures.partitioned parted (λ a r q k. search rules) in
    sym (count_is test items c.partition_point.result c.partition_point.ensures.bound point.0 point.1)
