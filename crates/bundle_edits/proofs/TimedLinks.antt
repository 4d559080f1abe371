-- What links from times add to the links of a bundle.
use Rattle.std.proofs.Common.{◌≡◌, ℕ, zero, suc, ◌+◌, Bool, true, false, cond, not, ◌&&◌, ◌||◌, List, [], ◌∷◌, ◌++◌, map, Option, Some, None, is_some, ok_or, option_map, Ok, nat_eq, refl, sym, ◌∙◌, ap, subst, append_assoc, append-nil, eq-eqb, eqb-true, arith}
use Rattle.std.specs.List.{filter, list_any, position, slice_get, AllByRecursion, IsDistinct}
use Rattle.std.specs.Option.{option_and_then, option_map_or, option_or}
use Rattle.std.proofs.lemmas.Bool.{and_parts, or_from, not-true}
use Rattle.std.proofs.lemmas.List.Folds.{list_any-append}
use Rattle.std.proofs.lemmas.Map.Keys.{IsDistinct-head, IsDistinct-tail}
use Rattle.emu_names.specs.declared.kinds.ItemId.{ItemId}
use Rattle.emu_names.specs.declared.kinds.LevelKind.{LevelKind}
use Rattle.emu_names.specs.declared.kinds.LevelKind.TheVariants as kinds
use Rattle.emu_names.specs.declared.rules.Broken.TheVariants as rules
use Rattle.emu_names.specs.Steps.{onward}
use Rattle.level_items.specs.declared.annot.AnnotLink.{AnnotLink}
use Rattle.level_items.specs.declared.items.Item.{Item}
use Rattle.level_items.specs.Levels.{Level, KeepsLevelRule, are_different, are_apart, ids_of, items_at}
use Rattle.link_builder.specs.Timed.{pair_with, timed_pairs}
use Rattle.link_builder.proofs.Single.{have_one_lower, one_segment, in_order_apart}
use Rattle.link_graph.specs.declared.link.Link.{Link}
use Rattle.link_graph.specs.Link.{joins, link_of}
use Rattle.db_config.specs.declared.parts.ConfigParts.{ConfigParts}
use Rattle.db_config.specs.declared.parts.LevelDef.{LevelDef}
use Rattle.db_config.specs.declared.parts.LinkDef.{LinkDef}
use Rattle.db_config.specs.Lookups.{level_named, leads}
use Rattle.bundle_state.specs.Bundle.{BundleParts, all_ids, has_id, level_from, level_of_id}
use Rattle.bundle_state.specs.Built.{FitsConfig}
use Rattle.bundle_state.specs.Linked.{unless_broken, definition_for}
use Rattle.bundle_state.specs.Changed.{with_links, link_added, link_put}
use Rattle.bundle_state.specs.Valid.{KeepsBundleRules}
use Rattle.bundle_state.proofs.Tests.{any_append, or_none}
use Rattle.bundle_state.proofs.LinksKept.{goes_on, ok_same, fine_value}
use Rattle.bundle_state.proofs.BuiltKept.{unbroken}
use Rattle.bundle_state.proofs.ChangedLevels.{rule_at}
use Rattle.bundle_edits.specs.Changes.{NumberedLevel, numbered, level_found, timed_kinds_fault, definition_fault, linked_fault, timed_fault, is_linked, pair_linked, pairs_linked, levels_linked}
use Rattle.bundle_edits.specs.Laws.{link_for, HasTimedLinks, TimesLinkExactly}
use Rattle.bundle_edits.proofs.Next.{IsLevelFor, level_fitting, level_there}
use Rattle.bundle_edits.proofs.Spans.{some_same}

-- ---- ids and their levels

-- of numbers that differ, one that stands behind some is none of them
none_before : (q : ℕ) (xs ys : List ℕ) → are_different (xs ++ ys) ≡ true → list_any (nat_eq q) ys ≡ true → list_any (nat_eq q) xs ≡ false
none_before q [] ys apart there = refl
none_before q (x ∷ xs) ys apart there =
    let parts = and_parts (not (list_any (nat_eq x) (xs ++ ys))) (are_different (xs ++ ys)) apart in
    or_from (nat_eq q x) (list_any (nat_eq q) xs) (own (nat_eq q x) refl (any_append (nat_eq x) xs ys (not-true _ parts.0)).1) (none_before q xs ys parts.1 there)
  where
    own : (t : Bool) → nat_eq q x ≡ t → list_any (nat_eq x) ys ≡ false → nat_eq q x ≡ false
    own false is none = is
    own true is none =
        let same : list_any (nat_eq q) ys ≡ list_any (nat_eq x) ys = ap (λ (n : ℕ). list_any (nat_eq n) ys) (eqb-true q x is) in
        let clash : true ≡ false = sym there ∙ same ∙ none in
        absurd cc

behind_differ : (xs ys : List ℕ) → are_different (xs ++ ys) ≡ true → are_different ys ≡ true
behind_differ [] ys apart = apart
behind_differ (x ∷ xs) ys apart = behind_differ xs ys (and_parts (not (list_any (nat_eq x) (xs ++ ys))) (are_different (xs ++ ys)) apart).1

id_there : (q k : ℕ) (levels : List Level) (l : Level) → slice_get levels k ≡ Some l → list_any (nat_eq q) (ids_of l.items) ≡ true → list_any (nat_eq q) (all_ids levels) ≡ true
id_there q k [] l at own = absurd cc
id_there q zero (x ∷ levels) l at own =
    let same : x ≡ l = some_same x l at in
    list_any-append (nat_eq q) (ids_of x.items) (all_ids levels)
    ∙ ap (λ (t : Bool). t || list_any (nat_eq q) (all_ids levels)) (ap (λ (m : Level). list_any (nat_eq q) (ids_of m.items)) same ∙ own)
id_there q (suc k) (x ∷ levels) l at own =
    list_any-append (nat_eq q) (ids_of x.items) (all_ids levels)
    ∙ ap (λ (t : Bool). list_any (nat_eq q) (ids_of x.items) || t) (id_there q k levels l at own) ∙ or_true (list_any (nat_eq q) (ids_of x.items))
  where
    or_true : (t : Bool) → (t || true) ≡ true
    or_true true = refl
    or_true false = refl

level_here : (n q k : ℕ) (levels : List Level) (l : Level) → slice_get levels k ≡ Some l → list_any (nat_eq q) (ids_of l.items) ≡ true → are_different (all_ids levels) ≡ true →
    level_from n q levels ≡ Some (n + k)
level_here n q k [] l at own apart = absurd cc
level_here n q zero (x ∷ levels) l at own apart =
    let same : x ≡ l = some_same x l at in
    let none : n ≡ n + 0 = omega arith in
    ap (λ (t : Bool). cond t (Some n) (level_from (suc n) q levels)) (ap (λ (m : Level). has_id q m) same ∙ own) ∙ ap (λ (m : ℕ). Some m) none
level_here n q (suc k) (x ∷ levels) l at own apart =
    let front = none_before q (ids_of x.items) (all_ids levels) apart (id_there q k levels l at own) in
    let more : suc n + k ≡ n + suc k = omega arith in
    ap (λ (t : Bool). cond t (Some n) (level_from (suc n) q levels)) front
    ∙ level_here (suc n) q k levels l at own (behind_differ (ids_of x.items) (all_ids levels) apart) ∙ ap (λ (m : ℕ). Some m) more

-- each item of a level is found there
items_found : (levels : List Level) (k : ℕ) (l : Level) → slice_get levels k ≡ Some l → are_different (all_ids levels) ≡ true → (items : List Item) →
    ((q : ℕ) → list_any (nat_eq q) (ids_of items) ≡ true → list_any (nat_eq q) (ids_of l.items) ≡ true) →
    AllByRecursion (λ i. level_of_id levels i.id.0 ≡ Some k) items
items_found levels k l at apart [] among = tt
items_found levels k l at apart (i ∷ items) among =
    let itself : nat_eq i.id.0 i.id.0 ≡ true = eq-eqb i.id.0 i.id.0 refl in
    let none : 0 + k ≡ k = omega arith in (
      level_here 0 i.id.0 k levels l at (among i.id.0 (ap (λ (t : Bool). t || list_any (nat_eq i.id.0) (ids_of items)) itself)) apart ∙ ap (λ (m : ℕ). Some m) none,
      items_found levels k l at apart items (λ q there. among q (ap (λ (t : Bool). nat_eq q i.id.0 || t) there ∙ or_true (nat_eq q i.id.0))),
    )
  where
    or_true : (t : Bool) → (t || true) ≡ true
    or_true true = refl
    or_true false = refl

-- ---- pairs and their levels

all_joined : {X : Type 0} (P : X → Type 0) (xs ys : List X) → AllByRecursion P xs → AllByRecursion P ys → AllByRecursion P (xs ++ ys)
all_joined P [] ys one other = other
all_joined P (x ∷ xs) ys one other = (one.0, all_joined P xs ys one.1 other)

module _ (P Q : ℕ → Type 0) where
  abbrev are_so : AnnotLink → Type 0
  are_so pair = P pair.from.0 × Q pair.to.0

  pairs_of_one : (upper : ItemId) → P upper.0 → (test : Item → Bool) (lower : List Item) → AllByRecursion (λ i. Q i.id.0) lower → AllByRecursion are_so (map (pair_with upper) (filter test lower))
  pairs_of_one upper own test [] all = tt
  pairs_of_one upper own test (i ∷ lower) all = by (test i) (pairs_of_one upper own test lower all.1)
    where
      by : (t : Bool) → AllByRecursion are_so (map (pair_with upper) (filter test lower)) → AllByRecursion are_so (map (pair_with upper) (cond t (i ∷ filter test lower) (filter test lower)))
      by true rest = ((own, all.0), rest)
      by false rest = rest

  pairs_of_all : (upper lower : List Item) → AllByRecursion (λ i. P i.id.0) upper → AllByRecursion (λ i. Q i.id.0) lower → AllByRecursion are_so (timed_pairs upper lower)
  pairs_of_all [] lower above below = tt
  pairs_of_all (x ∷ upper) lower above below = all_joined are_so _ _ (pairs_of_one x.id above.0 _ lower below) (pairs_of_all upper lower above.1 below)

-- both items of a pair stand on these levels
abbrev AreOn : List Level → ℕ → ℕ → AnnotLink → Type 0
AreOn levels upper lower pair = (level_of_id levels pair.from.0 ≡ Some upper) × (level_of_id levels pair.to.0 ≡ Some lower)

-- ---- pairs that are linked

and_false : (a b : Bool) → b ≡ false → (a && b) ≡ false
and_false true b is = is
and_false false b is = refl

-- a pair of another lower item is not linked by a link more
same_linked : (definition : ℕ) (pair other : AnnotLink) (links : List Link) → have_one_lower pair other ≡ false → is_linked (links ++ link_for definition pair ∷ []) other ≡ is_linked links other
same_linked definition pair other links apart =
    let away : joins other.from other.to (link_for definition pair) ≡ false = and_false (nat_eq pair.from.0 other.from.0) (nat_eq pair.to.0 other.to.0) apart in
    list_any-append (joins other.from other.to) links (link_for definition pair ∷ [])
    ∙ ap (λ (t : Bool). is_linked links other || (t || false)) away ∙ or_false (is_linked links other)
  where
    or_false : (t : Bool) → (t || false) ≡ t
    or_false true = refl
    or_false false = refl

-- which of these pairs are no links
abbrev unlinked : List Link → List AnnotLink → List AnnotLink
unlinked links pairs = filter (λ pair. not (is_linked links pair)) pairs

same_unlinked : (definition : ℕ) (pair : AnnotLink) (links : List Link) (pairs : List AnnotLink) → AllByRecursion (λ other. have_one_lower pair other ≡ false) pairs →
    unlinked (links ++ link_for definition pair ∷ []) pairs ≡ unlinked links pairs
same_unlinked definition pair links [] apart = refl
same_unlinked definition pair links (other ∷ pairs) apart =
    ap (λ (t : Bool). cond (not t) (other ∷ unlinked (links ++ link_for definition pair ∷ []) pairs) (unlinked (links ++ link_for definition pair ∷ []) pairs))
    (same_linked definition pair other links apart.0)
    ∙ ap (λ (ps : List AnnotLink). cond (not (is_linked links other)) (other ∷ ps) ps) (same_unlinked definition pair links pairs apart.1)

module _ (upper lower definition : ℕ) (next : BundleParts) where
  -- the links that these pairs make of those of a bundle
  abbrev MakesLinks : List AnnotLink → BundleParts → Type 0
  MakesLinks pairs b =
      position (leads upper lower) b.definitions ≡ Some definition → AllByRecursion (AreOn b.levels upper lower) pairs → pairs_linked pairs b ≡ Ok next →
      next.links ≡ b.links ++ map (link_for definition) (unlinked b.links pairs)

  pair_step : (pair : AnnotLink) (pairs : List AnnotLink) (b : BundleParts) → AllByRecursion (λ other. have_one_lower pair other ≡ false) pairs → ((c : BundleParts) → MakesLinks pairs c) →
      MakesLinks (pair ∷ pairs) b
  pair_step pair pairs b apart rest leads_so on is =
      let step = goes_on (pair_linked pair b) (pairs_linked pairs) next is in
      by step.middle (is_linked b.links pair) refl step.first step.second
    where
      whole : (t : Bool) → is_linked b.links pair ≡ t →
          b.links ++ map (link_for definition) (cond (not t) (pair ∷ unlinked b.links pairs) (unlinked b.links pairs)) ≡ b.links ++ map (link_for definition) (unlinked b.links (pair ∷ pairs))
      whole t same = ap (λ (s : Bool). b.links ++ map (link_for definition) (cond (not s) (pair ∷ unlinked b.links pairs) (unlinked b.links pairs))) (sym same)

      by : (mid : BundleParts) (t : Bool) → is_linked b.links pair ≡ t → cond t (fine_value b) (link_added pair.from pair.to b) ≡ Ok mid → pairs_linked pairs mid ≡ Ok next →
          next.links ≡ b.links ++ map (link_for definition) (unlinked b.links (pair ∷ pairs))
      by mid true linked same more = rest b leads_so on.1 (ap (λ (c : BundleParts). pairs_linked pairs c) (ok_same b mid same) ∙ more) ∙ whole true linked
      by mid false none added more =
          let given : AnnotLink = record { from = pair.from; to = pair.to } in
          let found = goes_on (definition_for b.definitions given (level_of_id b.levels pair.from.0) (level_of_id b.levels pair.to.0)) (link_put pair.from pair.to b) mid added in
          let own : definition_for b.definitions given (level_of_id b.levels pair.from.0) (level_of_id b.levels pair.to.0) ≡ Ok definition =
          ap (λ (o : Option ℕ). definition_for b.definitions given o (level_of_id b.levels pair.to.0)) on.0.0
          ∙ ap (λ (o : Option ℕ). definition_for b.definitions given (Some upper) o) on.0.1
          ∙ ap (λ (o : Option ℕ). ok_or o rules.NoLinkDefinition) leads_so in
          let number : definition ≡ found.middle = ok_same definition found.middle (sym own ∙ found.first) in
          let put = (unbroken _ (with_links b (b.links ++ link_of found.middle pair.from pair.to ∷ [])) mid found.second).1 in
          let new : BundleParts = with_links b (b.links ++ link_for definition pair ∷ []) in
          let here : new ≡ mid = ap (λ (n : ℕ). with_links b (b.links ++ link_of n pair.from pair.to ∷ [])) number ∙ put in
          rest new leads_so on.1 (ap (λ (c : BundleParts). pairs_linked pairs c) here ∙ more)
          ∙ append_assoc b.links (link_for definition pair ∷ []) (map (link_for definition) (unlinked (b.links ++ link_for definition pair ∷ []) pairs))
          ∙ ap (λ (ps : List AnnotLink). b.links ++ link_for definition pair ∷ map (link_for definition) ps) (same_unlinked definition pair b.links pairs apart)
          ∙ whole false none

  pairs_make : (pairs : List AnnotLink) → IsDistinct have_one_lower pairs → (b : BundleParts) → MakesLinks pairs b
  pairs_make [] apart b = λ leads_so on is. ap (λ (c : BundleParts). c.links) (sym (ok_same b next is)) ∙ sym (append-nil b.links)
  pairs_make (pair ∷ pairs) apart b =
      pair_step pair pairs b (IsDistinct-head have_one_lower pair pairs apart) (pairs_make pairs (IsDistinct-tail have_one_lower pair pairs apart))

-- ---- the levels of two names

number_of : (name : List ℕ) (defs : List LevelDef) (m : NumberedLevel) → level_found name defs ≡ Ok m → level_named name defs ≡ Some m.0
number_of name defs m is = by (level_named name defs) refl is
  where
    at : (k : ℕ) (o : Option LevelDef) → level_named name defs ≡ Some k → ok_or (option_map (λ (d : LevelDef). (k, d)) o) (rules.NoLevel name) ≡ Ok m → level_named name defs ≡ Some m.0
    at k None here h = absurd cc
    at k (Some d) here h = here ∙ ap (λ (p : NumberedLevel). Some p.0) (ok_same (k, d) m h)

    by : (o : Option ℕ) → level_named name defs ≡ o → ok_or (option_and_then (numbered defs) o) (rules.NoLevel name) ≡ Ok m → level_named name defs ≡ Some m.0
    by None here h = absurd cc
    by (Some k) here h = at k (slice_get defs k) here h

-- links from the times of levels of such kinds lead from segments
pub from_segments : (upper lower : LevelKind) → timed_kinds_fault upper lower ≡ None → upper ≡ kinds.Segment
from_segments kinds.Item lower is = absurd cc
from_segments kinds.Event lower is = absurd cc
from_segments kinds.Segment lower is = refl

definition_there : (defs : List LinkDef) (upper lower : ℕ) → definition_fault defs upper lower ≡ None → (number : ℕ) × (position (leads upper lower) defs ≡ Some number)
definition_there defs upper lower is = by (position (leads upper lower) defs) refl is
  where
    by : (o : Option ℕ) → position (leads upper lower) defs ≡ o → cond (is_some o) None (Some rules.NoLinkDefinition) ≡ None → (number : ℕ) × (position (leads upper lower) defs ≡ Some number)
    by None here h = absurd cc
    by (Some number) here h = (number, here)

pub items_there : (levels : List Level) (k : ℕ) (l : Level) → slice_get levels k ≡ Some l → items_at levels k ≡ l.items
items_there levels k l at = ap (λ (o : Option Level). option_map_or (λ (m : Level). m.items) o []) at

module _ (config : ConfigParts) (b next : BundleParts) (keeps : KeepsBundleRules b) (fits : FitsConfig config b) where
  found_on : (k : ℕ) (l : Level) → slice_get b.levels k ≡ Some l → AllByRecursion (λ i. level_of_id b.levels i.id.0 ≡ Some k) (items_at b.levels k)
  found_on k l at =
      subst (AllByRecursion (λ (i : Item). level_of_id b.levels i.id.0 ≡ Some k)) (sym (items_there b.levels k l at)) (items_found b.levels k l at keeps.apart l.items (λ q there. there))

  levels_make : (upper lower : List ℕ) (m n : NumberedLevel) → level_found upper config.levels ≡ Ok m → level_found lower config.levels ≡ Ok n → levels_linked b m n ≡ Ok next →
      HasTimedLinks config upper lower b next.links
  levels_make upper lower (k, d) (j, e) first second is =
      let pairs = timed_pairs (items_at b.levels k) (items_at b.levels j) in
      let step = goes_on (unless_broken (timed_fault b (k, d) (j, e)) b) (pairs_linked pairs) next is in
      let passed = unbroken (timed_fault b (k, d) (j, e)) b step.middle step.first in
      let all = or_none (timed_kinds_fault d.kind e.kind) (option_or (definition_fault b.definitions k j) (linked_fault pairs b.links)) passed.0 in
      let leads_so = definition_there b.definitions k j (or_none (definition_fault b.definitions k j) (linked_fault pairs b.links) all.1).0 in
      let one : IsLevelFor d b.levels k = level_fitting config.levels b.levels k d fits.levels (level_there upper config.levels (k, d) first) in
      let other : IsLevelFor e b.levels j = level_fitting config.levels b.levels j e fits.levels (level_there lower config.levels (j, e) second) in
      let rule : KeepsLevelRule one.level = rule_at k b.levels one.level one.there keeps.levels in
      let other_rule : KeepsLevelRule other.level = rule_at j b.levels other.level other.there keeps.levels in
      let order : are_apart (items_at b.levels k) ≡ true =
      ap are_apart (items_there b.levels k one.level one.there) ∙ in_order_apart one.level.kind one.level.items (one.kind ∙ from_segments d.kind e.kind all.0) rule.ordered in
      let differ : are_different (ids_of (items_at b.levels j)) ≡ true =
      ap (λ (is : List Item). are_different (ids_of is)) (items_there b.levels j other.level other.there) ∙ other_rule.distinct in
      record {
        upper_level = k;
        lower_level = j;
        definition = leads_so.0;
        upper_is = number_of upper config.levels (k, d) first;
        lower_is = number_of lower config.levels (j, e) second;
        definition_is = leads_so.1;
        links_are =
            pairs_make k j leads_so.0 next pairs (one_segment (items_at b.levels k) (items_at b.levels j) order differ) b leads_so.1
            (pairs_of_all (λ q. level_of_id b.levels q ≡ Some k) (λ q. level_of_id b.levels q ≡ Some j) (items_at b.levels k) (items_at b.levels j) (found_on k one.level one.there) (found_on j other.level other.there))
            (ap (λ (c : BundleParts). pairs_linked pairs c) passed.1 ∙ step.second);
      }

pub times_link_exactly : TimesLinkExactly
times_link_exactly config upper lower b next keeps fits is =
    let one = goes_on (level_found upper config.levels) (λ k. onward (level_found lower config.levels) (levels_linked b k)) next is in
    let two = goes_on (level_found lower config.levels) (levels_linked b one.middle) next one.second in
    levels_make config b next keeps fits upper lower one.middle two.middle one.first two.first two.second
