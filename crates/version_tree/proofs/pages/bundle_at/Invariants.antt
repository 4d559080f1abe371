use Rattle.version_tree.proofs.Leaves.{IsLeft}
use Rattle.version_tree.proofs.pages.bundle_at.Given as goal

-- the bundle stands on the pages that are left
abbrev pub invariant-loop-page : goal.invariant-loop-page
invariant-loop-page l = IsLeft l.pages l.place l.page-index l.left
