use Rattle.bundle_state.proofs.ChangedKept.{added_item_rules, removed_item_rules, label_rules, time_rules, added_link_rules, removed_link_rules}
use Rattle.bundle_state.proofs.LinkPlaces.{placed_link_rules}
use Rattle.bundle_state.proofs.laws.changed_bundles_keep_rules.Goals as goal

pub returns : goal.returns
returns c = record {
  added = added_item_rules;
  removed = removed_item_rules;
  labelled = label_rules;
  retimed = time_rules;
  linked = added_link_rules;
  placed = placed_link_rules;
  unlinked = removed_link_rules;
}
