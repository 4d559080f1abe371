-- A link that is put at a place of the list of links.
use Rattle.std.proofs.Common.{◌≡◌, ℕ, zero, suc, Bool, true, false, cond, List, [], ◌∷◌, length, insert, Option, Some, None, Result, Ok, Err, OnOk, OnErr, nat_eq, refl, sym, subst, arith, eqb-true}
use Rattle.std.specs.Prelude.{All, nat_le}
use Rattle.std.specs.List.{list_any}
use Rattle.std.specs.Option.{option_or}
use Rattle.std.proofs.lemmas.Bool.{eqb-false, leb-false}
use Rattle.std.proofs.lemmas.List.Elements.{All-cons, All-head, All-tail}
use Rattle.emu_names.specs.declared.kinds.ItemId.{ItemId}
use Rattle.emu_names.specs.declared.limits.TheConstants.{BUNDLE_LINKS}
use Rattle.emu_names.specs.declared.rules.Broken.TheVariants as rules
use Rattle.emu_names.specs.declared.rules.What.TheVariants as counted
use Rattle.emu_names.specs.declared.rules.Fault.{Fault}
use Rattle.emu_names.specs.Inner.Gives.{FindsFault}
use Rattle.link_graph.specs.declared.link.Link.{Link}
use Rattle.link_graph.specs.Kind.{KeepKind}
use Rattle.link_graph.specs.Link.{joins, link_of, add_fault, kind_fault}
use Rattle.link_graph.proofs.Inserted.{keep_inserted, keep_other_inserted, pairs_inserted, length_insert}
use Rattle.db_config.specs.declared.parts.LinkDef.{LinkDef}
use Rattle.bundle_state.specs.declared.places.Places.{Places}
use Rattle.bundle_state.specs.Bundle.{BundleParts, level_of_id}
use Rattle.bundle_state.specs.Built.{FitsConfig}
use Rattle.bundle_state.specs.Linked.{kind_of, definition_for, IsBetween}
use Rattle.bundle_state.specs.Valid.{KeepsBundleRules}
use Rattle.bundle_state.specs.Inner.Kept.{IsKept}
use Rattle.bundle_state.specs.Changed.{with_links, place_fault, link_put_at, link_inserted}
use Rattle.bundle_state.specs.ChangedLaws.{KeepsForm, KeepsRules}
use Rattle.bundle_state.proofs.Tests.{cond_none, or_none}
use Rattle.bundle_state.proofs.LinksKept.{AreFineLinks, goes_on, level_parts}
use Rattle.bundle_state.proofs.BuiltKept.{unbroken}
use Rattle.bundle_state.proofs.ChangedKept.{links_of}

all_insert : {A : Type 0} (P : A → Type 0) (xs : List A) (i : ℕ) (y : A) → All P xs → P y → All P (insert xs i y)
all_insert P [] zero y all own = All-cons P y [] own all
all_insert P [] (suc i) y all own = All-cons P y [] own all
all_insert P (x ∷ xs) zero y all own = All-cons P y (x ∷ xs) own all
all_insert P (x ∷ xs) (suc i) y all own = All-cons P x (insert xs i y) (All-head P x xs all) (all_insert P xs i y (All-tail P x xs all) own)

kinds_placed : (defs : List LinkDef) (link : Link) (place : ℕ) (links : List Link) → add_fault (kind_of defs link.definition) link.definition link.from link.to links ≡ None →
    ((number : ℕ) → KeepKind (kind_of defs number) number links) → (number : ℕ) → KeepKind (kind_of defs number) number (insert links place link)
kinds_placed defs link place links free kinds number = by (nat_eq link.definition number) refl
  where
    by : (b : Bool) → nat_eq link.definition number ≡ b → KeepKind (kind_of defs number) number (insert links place link)
    by true same =
        subst (λ n. KeepKind (kind_of defs n) n (insert links place link)) (eqb-true link.definition number same)
        (keep_inserted (kind_of defs link.definition) link place links free (kinds link.definition))
    by false apart = keep_other_inserted (kind_of defs number) number link place links (eqb-false link.definition number apart) (kinds number)

pub placed_fine : (defs : List LinkDef) (level : ℕ → Option ℕ) (link : Link) (place : ℕ) (links : List Link) → list_any (joins link.from link.to) links ≡ false →
    add_fault (kind_of defs link.definition) link.definition link.from link.to links ≡ None → IsBetween defs level link →
    AreFineLinks defs level links → AreFineLinks defs level (insert links place link)
placed_fine defs level link place links apart free between fine =
    let first = cond_none (list_any (joins link.from link.to) links) rules.LinkExists
    (cond (nat_le BUNDLE_LINKS (length links)) (Some (rules.TooMany counted.BundleLinks)) (kind_fault (kind_of defs link.definition) link.definition link.from link.to links)) free in
    let room : nat_le BUNDLE_LINKS (length links) ≡ false = (cond_none (nat_le BUNDLE_LINKS (length links)) (rules.TooMany counted.BundleLinks)
    (kind_fault (kind_of defs link.definition) link.definition link.from link.to links) first.1).0 in
    let size = length_insert links place link in
    let low = leb-false BUNDLE_LINKS (length links) room in
    record {
      few = omega (arith, size, low);
      pairs = pairs_inserted link place links apart fine.pairs;
      linked = record {
        between = all_insert (IsBetween defs level) links place link fine.linked.between between;
        kinds = kinds_placed defs link place links free fine.linked.kinds;
      };
    }

-- the rule of a place and of a link, one by one
pub record IsFreeAt (b : BundleParts) (place number : ℕ) (from to : ItemId) : Type 0 where
  pub free : add_fault (kind_of b.definitions number) number from to b.links ≡ None
  pub apart : list_any (joins from to) b.links ≡ false

free_at : (b : BundleParts) (place number : ℕ) (from to : ItemId) →
    option_or (add_fault (kind_of b.definitions number) number from to b.links) (place_fault place b.links) ≡ None → IsFreeAt b place number from to
free_at b place number from to none =
    let parts = or_none (add_fault (kind_of b.definitions number) number from to b.links) (place_fault place b.links) none in
    record { free = parts.0; apart = (cond_none (list_any (joins from to) b.links) rules.LinkExists _ parts.0).0 }

placed_rules : (b : BundleParts) (place : ℕ) (from to : ItemId) (number : ℕ) →
    definition_for b.definitions (record { from = from; to = to }) (level_of_id b.levels from.0) (level_of_id b.levels to.0) ≡ Ok number →
    IsFreeAt b place number from to → KeepsBundleRules b → KeepsBundleRules (with_links b (insert b.links place (link_of number from to)))
placed_rules b place from to number found free keeps =
    let between = level_parts b.definitions (level_of_id b.levels) (record { from = from; to = to }) (level_of_id b.levels from.0) (level_of_id b.levels to.0) number refl refl found in
    let fine = placed_fine b.definitions (level_of_id b.levels) (link_of number from to) place b.links free.apart free.free between (links_of b keeps) in
    record {
      rate = keeps.rate;
      few_items = keeps.few_items;
      apart = keeps.apart;
      levels = keeps.levels;
      few_links = fine.few;
      pairs = fine.pairs;
      linked = fine.linked;
    }

pub placed_link_rules : (place : ℕ) (from to : ItemId) → KeepsRules (link_inserted place from to)
placed_link_rules place from to b after keeps is =
    let on = goes_on (definition_for b.definitions (record { from = from; to = to }) (level_of_id b.levels from.0) (level_of_id b.levels to.0)) (link_put_at place from to b) after is in
    let fault = option_or (add_fault (kind_of b.definitions on.middle) on.middle from to b.links) (place_fault place b.links) in
    let new : BundleParts = with_links b (insert b.links place (link_of on.middle from to)) in
    let parts : (fault ≡ None) × (new ≡ after) = unbroken fault new after on.second in
    subst KeepsBundleRules parts.1 (placed_rules b place from to on.middle on.first (free_at b place on.middle from to parts.0) keeps)

pub placed_link_fits : (place : ℕ) (from to : ItemId) → KeepsForm (link_inserted place from to)
placed_link_fits place from to config b after fits is =
    let on = goes_on (definition_for b.definitions (record { from = from; to = to }) (level_of_id b.levels from.0) (level_of_id b.levels to.0)) (link_put_at place from to b) after is in
    let fault = option_or (add_fault (kind_of b.definitions on.middle) on.middle from to b.links) (place_fault place b.links) in
    let new : BundleParts = with_links b (insert b.links place (link_of on.middle from to)) in
    subst (FitsConfig config) (unbroken fault new after on.second).1 (record { levels = fits.levels; definitions = fits.definitions })

-- ---- the bundle with its kept levels

pub placed_kept : (b : BundleParts) (place : ℕ) (from to : ItemId) (number : ℕ) (links : List Link) (places : Places) (r : Result (Unit {0}) Fault) →
    definition_for b.definitions (record { from = from; to = to }) (level_of_id b.levels from.0) (level_of_id b.levels to.0) ≡ Ok number → IsKept b places →
    FindsFault r (option_or (add_fault (kind_of b.definitions number) number from to b.links) (place_fault place b.links)) →
    OnOk r (links ≡ insert b.links place (link_of number from to)) → OnErr r (links ≡ b.links) → IsKept (with_links b links) places
placed_kept b place from to number links places (Ok x) found kept finds links_is same =
    subst (λ ls. IsKept (with_links b ls) places) (sym links_is)
    (record { rules = placed_rules b place from to number found (free_at b place number from to finds) kept.rules; placed = kept.placed })
placed_kept b place from to number links places (Err e) found kept finds links_is same = subst (λ ls. IsKept (with_links b ls) places) (sym same) kept
