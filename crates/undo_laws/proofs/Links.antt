-- Links are put back.
use Rattle.std.proofs.Common.{◌≡◌, ℕ, zero, suc, ◌≤◌, Bool, true, false, not, ◌&&◌, ◌||◌, ◌==◌, cond, List, [], ◌∷◌, ◌++◌, length, take, drop, refl, sym, ap, subst, ◌∙◌, All, Option, Some, None, Ok, ok_or, eq-eqb}
use Rattle.std.specs.List.{list_any, slice_get, insert}
use Rattle.std.proofs.lemmas.Bool.{and_parts, and_from, or_parts, or_from, not-true}
use Rattle.std.proofs.lemmas.List.{append-nil, take-append-drop}
use Rattle.std.proofs.lemmas.List.Elements.{recursion_from_All}
use Rattle.emu_names.specs.declared.limits.TheConstants.{BUNDLE_LINKS}
use Rattle.emu_names.specs.declared.kinds.ItemId.{ItemId}
use Rattle.emu_names.specs.declared.kinds.LinkKind.{LinkKind}
use Rattle.emu_names.specs.declared.rules.Broken.{Broken}
use Rattle.emu_names.specs.declared.rules.Broken.TheVariants as rules
use Rattle.level_items.specs.declared.annot.AnnotLink.{AnnotLink}
use Rattle.std.specs.Option.{option_or}
use Rattle.level_items.proofs.Lists.{any_parts, position_is}
use Rattle.link_graph.specs.declared.link.Link.{Link}
use Rattle.link_graph.specs.Link.{joins, link_of, add_fault, ArePairsApart}
use Rattle.link_graph.specs.Kind.{KeepKind}
use Rattle.db_config.specs.declared.parts.LinkDef.{LinkDef}
use Rattle.db_config.specs.Lookups.{leads}
use Rattle.db_config.specs.Valid.{same_levels, are_apart}
use Rattle.bundle_state.specs.Bundle.{BundleParts, level_of_id}
use Rattle.bundle_state.specs.Linked.{unless_broken, kind_of, definition_for, IsBetween}
use Rattle.emu_names.specs.Steps.{onward}
use Rattle.bundle_state.specs.Valid.{KeepsBundleRules}
use Rattle.bundle_state.specs.Changed.{with_links, link_put, missing_fault, link_removed, place_fault, link_put_at}
use Rattle.bundle_state.proofs.Tests.{cond_none, or_none}
use Rattle.bundle_state.proofs.LinksKept.{goes_on, ok_same, fine_value}
use Rattle.undo_laws.proofs.Steps.{left, CanPutBack, insert_at, all_put_back}
use Rattle.undo_laws.proofs.LinkPlaces.{no_add_fault, place_free}
use Rattle.undo_laws.proofs.Back.{link_back, links_back, LinksAreBack, UnlinkedIsBack, LinkedIsBack, LinkedAtIsBack}
use Rattle.undo_laws.proofs.Alike.{any_at, all_middle, all_left}

first_apart : (defs : List LinkDef) (i : ℕ) (def : LinkDef) → are_apart defs ≡ true → slice_get defs i ≡ Some def → list_any (leads def.upper def.lower) (take i defs) ≡ false
first_apart [] i def apart at = absurd cc
first_apart (d ∷ ds) zero def apart at = refl
first_apart (d ∷ ds) (suc i) def apart at =
    let parts = and_parts (not (list_any (same_levels d) ds)) (are_apart ds) apart in
    or_from (leads def.upper def.lower d) (list_any (leads def.upper def.lower) (take i ds))
    (any_at (same_levels d) ds i def (not-true (list_any (same_levels d) ds) parts.0) at) (first_apart ds i def parts.1 at)

-- the pair of a link
abbrev pair : Link → AnnotLink
pair x = record { from = x.from; to = x.to }

definition_again : (defs : List LinkDef) (level : ℕ → Option ℕ) (x : Link) → are_apart defs ≡ true → IsBetween defs level x →
    definition_for defs (pair x) (level x.from.0) (level x.to.0) ≡ Ok x.definition
definition_again defs level x apart between =
    let def = between.def in
    let own : leads def.upper def.lower def ≡ true = and_from (def.upper == def.upper) (def.lower == def.lower) (eq-eqb def.upper def.upper refl) (eq-eqb def.lower def.lower refl) in
    ap (λ o. definition_for defs (pair x) o (level x.to.0)) between.from
    ∙ ap (λ o. definition_for defs (pair x) (Some def.upper) o) between.to
    ∙ ap (λ o. ok_or o rules.NoLinkDefinition) (position_is (leads def.upper def.lower) defs x.definition def between.defined own (first_apart defs x.definition def apart between.defined))

-- ---- links put back

module _ (b : BundleParts) (test : Link → Bool) (keeps : KeepsBundleRules b) (apart : are_apart b.definitions ≡ true) where
  one_back : CanPutBack test link_back (λ ls. with_links b ls) b.links
  one_back front x back e is =
      let ls = front ++ left test back in
      let between : IsBetween b.definitions (level_of_id b.levels) x =
      all_middle (IsBetween b.definitions (level_of_id b.levels)) front x back
      (recursion_from_All (IsBetween b.definitions (level_of_id b.levels)) (front ++ x ∷ back) (subst (All (IsBetween b.definitions (level_of_id b.levels))) e keeps.linked.between)) in
      let kind = kind_of b.definitions x.definition in
      let free : add_fault kind x.definition x.from x.to ls ≡ None =
      no_add_fault test front x back kind (subst ArePairsApart e keeps.pairs) (subst (λ zs. length zs ≤ BUNDLE_LINKS) e keeps.few_links)
      (subst (KeepKind kind x.definition) e (keeps.linked.kinds x.definition)) in
      ap (λ r. onward r (link_put_at (length front) x.from x.to (with_links b ls))) (definition_again b.definitions (level_of_id b.levels) x apart between)
      ∙ ap (λ o. unless_broken (option_or o (place_fault (length front) ls)) (with_links b (insert ls (length front) x))) free
      ∙ ap (λ o. unless_broken o (with_links b (insert ls (length front) x))) (place_free test front x back)
      ∙ ap (λ zs. fine_value (with_links b zs)) (insert_at front x (left test back))

pub links_are_back : LinksAreBack
links_are_back b test keeps apart = all_put_back test link_back (λ ls. with_links b ls) b.links (one_back b test keeps apart)

-- ---- a link taken out, and a link put in

pub record IsPassed {A : Type 0} (o : Option Broken) (value made : A) : Type 0 where
  pub free : o ≡ None
  pub same : value ≡ made

pub passed : {A : Type 0} (o : Option Broken) (value made : A) → unless_broken o value ≡ Ok made → IsPassed o value made
passed None value made is = record { free = refl; same = ok_same value made is }
passed (Some rule) value made is = absurd cc

pub unlinked_back : UnlinkedIsBack
unlinked_back b c from to keeps apart is =
    let p = passed (missing_fault from to b.links) (with_links b (left (joins from to) b.links)) c is in
    ap (links_back (joins from to) b) (sym p.same) ∙ links_are_back b (joins from to) keeps apart

left_without : (q : Link → Bool) (front : List Link) (x : Link) (back : List Link) → q x ≡ true → list_any q (front ++ back) ≡ false → left q (front ++ x ∷ back) ≡ front ++ back
left_without q [] x back passes none = ap (λ b. cond (not b) (x ∷ left q back) (left q back)) passes ∙ all_left q back none
left_without q (y ∷ front) x back passes none =
    let parts = or_parts (q y) (list_any q (front ++ back)) none in
    ap (λ b. cond (not b) (y ∷ left q (front ++ x ∷ back)) (left q (front ++ x ∷ back))) parts.0 ∙ ap (λ ys. y ∷ ys) (left_without q front x back passes parts.1)

joins_own : (number : ℕ) (from to : ItemId) → joins from to (link_of number from to) ≡ true
joins_own number from to = and_from (from.0 == from.0) (to.0 == to.0) (eq-eqb from.0 from.0 refl) (eq-eqb to.0 to.0 refl)

module _ (b : BundleParts) (from to : ItemId) (number : ℕ) (front back : List Link) (none : list_any (joins from to) (front ++ back) ≡ false) where
  abbrev x : Link
  x = link_of number from to

  unlinked_goes : link_removed from to (with_links b (front ++ x ∷ back)) ≡ Ok (with_links b (front ++ back))
  unlinked_goes =
      let there : list_any (joins from to) (front ++ x ∷ back) ≡ true =
      any_parts (joins from to) front x back ∙ ap (λ t. t || list_any (joins from to) (front ++ back)) (joins_own number from to) in
      ap (λ t. unless_broken (cond t None (Some rules.NoLink)) (with_links b (left (joins from to) (front ++ x ∷ back)))) there
      ∙ ap (λ ls. fine_value (with_links b ls)) (left_without (joins from to) front x back (joins_own number from to) none)

pair_free : (kind : LinkKind) (number : ℕ) (from to : ItemId) (links : List Link) → add_fault kind number from to links ≡ None → list_any (joins from to) links ≡ false
pair_free kind number from to links free = (cond_none (list_any (joins from to) links) rules.LinkExists _ free).0

pub linked_back : LinkedIsBack
linked_back b c from to is =
    let on = goes_on (definition_for b.definitions (record { from = from; to = to }) (level_of_id b.levels from.0) (level_of_id b.levels to.0)) (link_put from to b) c is in
    let number = on.middle in
    let p = passed (add_fault (kind_of b.definitions number) number from to b.links) (with_links b (b.links ++ link_of number from to ∷ [])) c on.second in
    let none = pair_free (kind_of b.definitions number) number from to b.links p.free in
    ap (link_removed from to) (sym p.same)
    ∙ unlinked_goes b from to number b.links [] (ap (list_any (joins from to)) (append-nil b.links) ∙ none)
    ∙ ap (λ ls. fine_value (with_links b ls)) (append-nil b.links)

pub linked_at_back : LinkedAtIsBack
linked_at_back b c place from to is =
    let on = goes_on (definition_for b.definitions (record { from = from; to = to }) (level_of_id b.levels from.0) (level_of_id b.levels to.0)) (link_put_at place from to b) c is in
    let number = on.middle in
    let p = passed (option_or (add_fault (kind_of b.definitions number) number from to b.links) (place_fault place b.links)) (with_links b (insert b.links place (link_of number from to))) c on.second in
    let none = pair_free (kind_of b.definitions number) number from to b.links (or_none _ _ p.free).0 in
    let whole = take-append-drop place b.links in
    ap (link_removed from to) (sym p.same)
    ∙ unlinked_goes b from to number (take place b.links) (drop place b.links) (ap (list_any (joins from to)) whole ∙ none)
    ∙ ap (λ ls. fine_value (with_links b ls)) whole
