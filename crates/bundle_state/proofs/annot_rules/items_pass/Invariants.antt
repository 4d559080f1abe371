use Rattle.std.proofs.Common.{◌≡◌, ℕ, ◌++◌, take, drop, None, nat_eq}
use Rattle.std.specs.List.{list_any}
use Rattle.std.specs.Option.{option_copied}
use Rattle.bundle_state.specs.Faults.{items_fault, given_ids}
use Rattle.bundle_state.proofs.annot_rules.items_pass.Given as goal

abbrev pub invariant-loop-item : goal.invariant-loop-item
invariant-loop-item l = record {
  fault : items_fault l.def l.taken (option_copied l.before) (drop l.item-index l.items) ≡ items_fault l.def l.fn.taken None l.fn.items;
  same : (q : ℕ) → list_any (nat_eq q) l.taken ≡ list_any (nat_eq q) (l.fn.taken ++ given_ids (take l.item-index l.items));
}
