use Rattle.std.proofs.Common.{◌≡◌, drop}
use Rattle.std.specs.List.{list_all}
use Rattle.bundle_edits.specs.Changes.{is_linked}
use Rattle.bundle_edits.proofs.timed_links.pairs_pass.Given as goal

-- the pairs that are left are all linked where all pairs are
abbrev pub invariant-loop-pair : goal.invariant-loop-pair
invariant-loop-pair l = list_all (is_linked l.links) (drop l.pair-index l.pairs) ≡ list_all (is_linked l.links) l.pairs
