use Rattle.std.proofs.Common.{◌≡◌, ℕ, ◌+◌, ◌-◌, ◌∙◌, ap, arith}
use Rattle.bundle_state.specs.Bundle.{BundleParts, item_count}
use Rattle.version_tree.proofs.Versions.{AreCountsWith, counts_as, counts_told}
use Rattle.version_tree.proofs.version.Version.counts_with.Goals as goal

pub overflow_sub-result : goal.overflow_sub-result
overflow_sub-result c =
    let told : AreCountsWith c.args.self.now c.args.new.now c.self.inside.counts c.counts_at-old.result =
    counts_told c.args.self.now _ c.args.new.now c.self.inside.counts c.counts_at-old.result c.key.result.now c.self.view_is c.self.invariant c.counts_at-old.ensures.rising
    (c.key.ensures ∙ ap (λ (b : BundleParts). b.key) c.bundle.ensures) c.counts_at-old.ensures.counts
    c.bundle-2.result.now c.bundle-2.ensures c.item_count-more.ensures.rules c.requires.room in
    let more : c.item_count-more.result ≡ item_count c.args.new.now.bundle.levels = c.item_count-more.ensures.count ∙ ap (λ (b : BundleParts). item_count b.levels) c.bundle-2.ensures in
    told.low_bundles

pub overflow_add-result : goal.overflow_add-result
overflow_add-result c =
    let told : AreCountsWith c.args.self.now c.args.new.now c.self.inside.counts c.counts_at-old.result =
    counts_told c.args.self.now _ c.args.new.now c.self.inside.counts c.counts_at-old.result c.key.result.now c.self.view_is c.self.invariant c.counts_at-old.ensures.rising
    (c.key.ensures ∙ ap (λ (b : BundleParts). b.key) c.bundle.ensures) c.counts_at-old.ensures.counts
    c.bundle-2.result.now c.bundle-2.ensures c.item_count-more.ensures.rules c.requires.room in
    let more : c.item_count-more.result ≡ item_count c.args.new.now.bundle.levels = c.item_count-more.ensures.count ∙ ap (λ (b : BundleParts). item_count b.levels) c.bundle-2.ensures in
    let few = told.few_bundles in omega (arith, few)

pub overflow_sub-result-2 : goal.overflow_sub-result-2
overflow_sub-result-2 c =
    let told : AreCountsWith c.args.self.now c.args.new.now c.self.inside.counts c.counts_at-old.result =
    counts_told c.args.self.now _ c.args.new.now c.self.inside.counts c.counts_at-old.result c.key.result.now c.self.view_is c.self.invariant c.counts_at-old.ensures.rising
    (c.key.ensures ∙ ap (λ (b : BundleParts). b.key) c.bundle.ensures) c.counts_at-old.ensures.counts
    c.bundle-2.result.now c.bundle-2.ensures c.item_count-more.ensures.rules c.requires.room in
    let more : c.item_count-more.result ≡ item_count c.args.new.now.bundle.levels = c.item_count-more.ensures.count ∙ ap (λ (b : BundleParts). item_count b.levels) c.bundle-2.ensures in
    told.low_items

pub overflow_add-result-2 : goal.overflow_add-result-2
overflow_add-result-2 c =
    let told : AreCountsWith c.args.self.now c.args.new.now c.self.inside.counts c.counts_at-old.result =
    counts_told c.args.self.now _ c.args.new.now c.self.inside.counts c.counts_at-old.result c.key.result.now c.self.view_is c.self.invariant c.counts_at-old.ensures.rising
    (c.key.ensures ∙ ap (λ (b : BundleParts). b.key) c.bundle.ensures) c.counts_at-old.ensures.counts
    c.bundle-2.result.now c.bundle-2.ensures c.item_count-more.ensures.rules c.requires.room in
    let more : c.item_count-more.result ≡ item_count c.args.new.now.bundle.levels = c.item_count-more.ensures.count ∙ ap (λ (b : BundleParts). item_count b.levels) c.bundle-2.ensures in
    let few = told.few_items in omega (arith, few, more)

pub returns-clause-counts : goal.returns-clause-counts
returns-clause-counts c =
    let told : AreCountsWith c.args.self.now c.args.new.now c.self.inside.counts c.counts_at-old.result =
    counts_told c.args.self.now _ c.args.new.now c.self.inside.counts c.counts_at-old.result c.key.result.now c.self.view_is c.self.invariant c.counts_at-old.ensures.rising
    (c.key.ensures ∙ ap (λ (b : BundleParts). b.key) c.bundle.ensures) c.counts_at-old.ensures.counts
    c.bundle-2.result.now c.bundle-2.ensures c.item_count-more.ensures.rules c.requires.room in
    let more : c.item_count-more.result ≡ item_count c.args.new.now.bundle.levels = c.item_count-more.ensures.count ∙ ap (λ (b : BundleParts). item_count b.levels) c.bundle-2.ensures in
    ap (λ (n : ℕ). counts_as (c.self.inside.counts.bundles - c.counts_at-old.result.bundles + 1) (c.self.inside.counts.items - c.counts_at-old.result.items + n)) more
    ∙ told.made
