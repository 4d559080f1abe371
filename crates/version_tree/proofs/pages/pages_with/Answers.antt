use Rattle.std.proofs.Common.{◌≡◌, List}
use Rattle.bundle_index.specs.Index.{IndexParts}
use Rattle.version_tree.specs.Inner.Version.{put_indexed}
use Rattle.version_tree.specs.Inner.Pages.{KeepPages, bundles_on, pages_behind}
use Rattle.version_tree.proofs.Elements.{if_ok}
use Rattle.version_tree.proofs.Orders.{rising_put}
use Rattle.version_tree.proofs.Changes.{made_keeps, made_holds}
use Rattle.version_tree.proofs.pages.pages_with.Goals as goal

pub returns-clause-bundles : goal.returns-clause-bundles
returns-clause-bundles c =
    if_ok
    (λ (made : List (List IndexParts)). made ≡ pages_behind c.args.pages.now c.in_ok-change.change)
    (λ (made : List (List IndexParts)). bundles_on made ≡ put_indexed c.args.new (bundles_on c.args.pages.now))
    (λ made is. made_holds c.args.pages.now c.in_ok-change.change made (put_indexed c.args.new (bundles_on c.args.pages.now)) is c.in_ok-change.ensures.bundles)
    c.changed.result c.changed.ensures

pub returns-clause-keeps : goal.returns-clause-keeps
returns-clause-keeps c =
    if_ok
    (λ (made : List (List IndexParts)). made ≡ pages_behind c.args.pages.now c.in_ok-change.change)
    (λ (made : List (List IndexParts)). KeepPages made)
    (λ made is. made_keeps c.args.pages.now c.in_ok-change.change made (put_indexed c.args.new (bundles_on c.args.pages.now))
    c.requires c.in_ok-change.ensures.change is c.in_ok-change.ensures.bundles (rising_put c.args.new (bundles_on c.args.pages.now) c.requires.rising))
    c.changed.result c.changed.ensures
