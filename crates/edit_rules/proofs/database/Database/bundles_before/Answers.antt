use Rattle.std.proofs.Common.{rules, ◌∙◌, ap}
use Rattle.std.proofs.lemmas.List.Sorted.{IsPartitionPoint-from_clause}
use Rattle.edit_rules.specs.Database.{DatabaseParts, is_before}
use Rattle.edit_rules.proofs.KeyPlaces.{halved_as, split_of}
use Rattle.edit_rules.proofs.database.Database.bundles_before.Goals as goal

pub returns-clause-splits : goal.returns-clause-splits
returns-clause-splits c =
    split_of c.args.key.now c.as_slice-bundles.result.now c.args.self.now.bundles c.partition_point.result
    (c.as_slice-bundles.ensures ∙ c.as_ref.ensures ∙ ap (λ (d : DatabaseParts). d.bundles) c.self.view_is)
    (IsPartitionPoint-from_clause (λ b. is_before b.key c.args.key.now) _ _ c.partition_point.ensures.partitioned
    (halved_as c.args.key.now c.self.inside.list c.as_slice-bundles.result.now (c.as_slice-bundles.ensures ∙ c.as_ref.ensures) c.self.invariant.rules.rising)
    (λ a r q k. search rules))
