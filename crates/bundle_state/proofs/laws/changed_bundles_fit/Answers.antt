use Rattle.bundle_state.proofs.ChangedKept.{added_item_fits, removed_item_fits, label_fits, time_fits, added_link_fits, removed_link_fits}
use Rattle.bundle_state.proofs.LinkPlaces.{placed_link_fits}
use Rattle.bundle_state.proofs.laws.changed_bundles_fit.Goals as goal

pub returns : goal.returns
returns c = record {
  added = added_item_fits;
  removed = removed_item_fits;
  labelled = label_fits;
  retimed = time_fits;
  linked = added_link_fits;
  placed = placed_link_fits;
  unlinked = removed_link_fits;
}
