use Rattle.std.proofs.Common.{◌≡◌, take}
use Rattle.version_tree.proofs.Fitting.{plain, plain_under}
use Rattle.version_tree.proofs.pages.pages_under.Given as goal

-- the bundles of the pages so far are made to fit
abbrev pub invariant-pages : goal.invariant-pages
invariant-pages l = plain l.made ≡ plain_under l.config (take l.page-index l.pages)
