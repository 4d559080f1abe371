use Rattle.std.proofs.Common.{◌≡◌, ◌∙◌, ◌<◌, length, Ok, true, is_some, IfSome, IsTrue, OnOk, sym, ap, subst, rules}
use Rattle.std.specs.List.{slice_get}
use Rattle.emu_names.specs.declared.limits.TheConstants.{BUNDLE_ITEMS}
use Rattle.level_items.specs.Levels.{are_labels_for}
use Rattle.bundle_state.specs.Changed.{item_added, with_levels}
use Rattle.bundle_state.specs.Bundle.{BundleParts, item_count, level_of_id}
use Rattle.bundle_state.proofs.ChangedKept.{taken_breaks, id_free, add_gives, add_breaks, add_kept}
use Rattle.bundle_state.proofs.FewLevels.{fitting_low}
use Rattle.bundle_state.proofs.bundle.Bundle.add_item.Goals as goal

pub put_item-requires-clause-number : goal.put_item-requires-clause-number
put_item-requires-clause-number c =
    fitting_low c.args._config.now c.args.self.now c.args.level c.parts-parts.ensures.valid c.requires.fits c.requires.level

pub returns-then-is_some-clause-broken : goal.returns-then-is_some-clause-broken
returns-then-is_some-clause-broken c =
    let is : c.level_with.result ≡ level_of_id c.args.self.now.levels c.args.item.id.0 = search rules in
    let there : is_some c.level_with.result ≡ true = search rules in
    taken_breaks c.args.level c.args.position c.args.item c.args.self.now c.level_with.result is there

pub invariant_of-self : goal.invariant_of-self
invariant_of-self c =
    let number = c.args.level in
    let item = c.args.item in
    let now = c.args.self.now in
    let own = c.self.inside in
    let b : BundleParts = record {
      key = own.key;
      annotates = own.annotates;
      rate = own.rate;
      levels = own.levels;
      definitions = own.definitions;
      links = own.links;
    } in
    let view : b ≡ now = c.self.view_is in
    let found = c.level_with.ensures.level ∙ ap (λ (s : BundleParts). level_of_id s.levels item.id.0) (sym view) in
    let fresh = id_free item.id.0 own.levels c.level_with.result found (sym c.is_some.ensures ∙ c.if-is_some.false) in
    let low = subst (λ (s : BundleParts). number < length s.levels) (sym view) c.requires.level in
    let labels = subst (λ (s : BundleParts). IfSome (slice_get s.levels number) (λ l. IsTrue (are_labels_for l.attributes item.labels))) (sym view) c.requires.labels in
    let room = subst (λ (s : BundleParts). item_count s.levels < BUNDLE_ITEMS) (sym view) c.requires.room in
    add_kept number c.args.position item b fresh c.put_item.result c.put_item.new.levels c.put_item.new.places c.self.invariant.rules low labels room
    c.put_item.ensures.fault c.put_item.ensures.inserted c.put_item.ensures.placed c.put_item.ensures.kept c.put_item.ensures.places

pub returns-clause-ok : goal.returns-clause-ok
returns-clause-ok c =
    let number = c.args.level in
    let item = c.args.item in
    let now = c.args.self.now in
    let own = c.self.inside in
    let b : BundleParts = record {
      key = own.key;
      annotates = own.annotates;
      rate = own.rate;
      levels = own.levels;
      definitions = own.definitions;
      links = own.links;
    } in
    let view : b ≡ now = c.self.view_is in
    let found = c.level_with.ensures.level ∙ ap (λ (s : BundleParts). level_of_id s.levels item.id.0) (sym view) in
    let fresh = id_free item.id.0 own.levels c.level_with.result found (sym c.is_some.ensures ∙ c.if-is_some.false) in
    subst (λ (s : BundleParts). OnOk c.put_item.result (item_added number c.args.position item s ≡ Ok (with_levels b c.put_item.new.levels))) view
    (add_gives number c.args.position item b fresh c.put_item.result c.put_item.new.levels c.put_item.ensures.fault c.put_item.ensures.inserted)

pub returns-clause-broken : goal.returns-clause-broken
returns-clause-broken c = λ rule is.
    let number = c.args.level in
    let item = c.args.item in
    let now = c.args.self.now in
    let own = c.self.inside in
    let b : BundleParts = record {
      key = own.key;
      annotates = own.annotates;
      rate = own.rate;
      levels = own.levels;
      definitions = own.definitions;
      links = own.links;
    } in
    let view : b ≡ now = c.self.view_is in
    let found = c.level_with.ensures.level ∙ ap (λ (s : BundleParts). level_of_id s.levels item.id.0) (sym view) in
    let fresh = id_free item.id.0 own.levels c.level_with.result found (sym c.is_some.ensures ∙ c.if-is_some.false) in
    ap (λ (s : BundleParts). item_added number c.args.position item s) (sym view)
    ∙ add_breaks number c.args.position item b fresh c.put_item.result c.put_item.ensures.fault rule is
