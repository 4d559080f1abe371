use Rattle.std.proofs.Common.{◌≡◌, drop}
use Rattle.bundle_state.specs.Built.{FitsConfig}
use Rattle.bundle_edits.specs.Changes.{pairs_linked}
use Rattle.bundle_edits.proofs.timed_links.link_pairs.Given as goal

-- the pairs that are left make of the bundle so far what all make of the first one
abbrev pub invariant-loop-pair : goal.invariant-loop-pair
invariant-loop-pair l = record {
  turn : pairs_linked (drop l.pair-index l.pairs) l.next ≡ pairs_linked l.pairs l.fn.bundle;
  fits : FitsConfig l.config l.next;
}
