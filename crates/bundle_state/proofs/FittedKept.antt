-- A bundle that is made to fit a configuration with more parts: it fits it, keeps the rules, and has the same ids and links.
use Rattle.std.proofs.Common.{Bor, ◌≡◌, ℕ, zero, suc, ◌+◌, ◌<◌, ◌≤◌, Bool, true, false, cond, List, [], ◌∷◌, ◌++◌, length, map, take, Option, Some, None, IfSome, nat_eq, refl, sym, ◌∙◌, ap, subst, arith, eqb-true, add-one, zero-add, get_or}
use Rattle.std.specs.Prelude.{All}
use Rattle.std.specs.List.{list_any, slice_get, HoldsAt, IsDistinct}
use Rattle.std.specs.Option.{option_copied, MatchOption, option_map_or}
use Rattle.std.proofs.lemmas.List.{length-append, take_all}
use Rattle.std.proofs.lemmas.List.Sums.{sum_by-cons}
use Rattle.std.proofs.lemmas.List.Elements.{All-nil, All-cons, All-head, All-tail}
use Rattle.std.proofs.lemmas.Option.{slice_get_read, slice_get_past, slice_get-get_or}
use Rattle.emu_names.specs.declared.kinds.LevelKind.{LevelKind}
use Rattle.emu_names.specs.declared.names.BundleKey.{BundleKey}
use Rattle.emu_names.specs.declared.kinds.LevelKind.TheVariants as kinds
use Rattle.emu_names.specs.declared.kinds.LinkKind.{LinkKind}
use Rattle.emu_names.specs.declared.kinds.LinkKind.TheVariants.{OneToOne, OneToMany, ManyToMany}
use Rattle.level_items.specs.Levels.{Level, level_of, ids_of, KeepsLevelRule, are_different}
use Rattle.level_items.proofs.Wider.{ids_widened, rule_widened, length_widened}
use Rattle.link_graph.specs.declared.link.Link.{Link}
use Rattle.link_graph.specs.Kind.{of_definition, KeepKind}
use Rattle.db_config.specs.declared.parts.LevelDef.{LevelDef}
use Rattle.db_config.specs.declared.parts.LinkDef.{LinkDef}
use Rattle.db_config.specs.declared.parts.ConfigParts.{ConfigParts}
use Rattle.db_config.specs.Extends.{Begins, ExtendLevels}
use Rattle.bundle_state.specs.declared.places.Places.{Places}
use Rattle.bundle_state.specs.Inner.Placed.{ArePlaced}
use Rattle.bundle_state.specs.Inner.Kept.{IsKept}
use Rattle.bundle_state.specs.Bundle.{BundleParts, all_ids, item_count, has_id, level_from, level_of_id}
use Rattle.bundle_state.specs.Built.{form_of, form_asked, FitsConfig}
use Rattle.bundle_state.specs.Linked.{kind_of, IsBetween, KeepLinkRule}
use Rattle.bundle_state.specs.Valid.{KeepsBundleRules}
use Rattle.bundle_state.proofs.ChangedKept.{carried}
use Rattle.bundle_state.specs.Fitted.{fitted_level, fitted_levels, fitted, CanFitLevel, CanFitLevels, CanFit, ExtensionsCanFit}

-- ---- form

form_fitted : (defs : List LevelDef) (levels : List Level) → CanFitLevels defs levels → map form_of (fitted_levels defs levels) ≡ map form_asked defs
form_fitted [] [] can = refl
form_fitted [] (l ∷ levels) can = absurd can
form_fitted (d ∷ defs) [] can = ap (λ fs. form_asked d ∷ fs) (form_fitted defs [] tt)
form_fitted (d ∷ defs) (l ∷ levels) can =
    ap (λ k. (k, length d.attributes) ∷ map form_of (fitted_levels defs levels)) can.0.kind
    ∙ ap (λ fs. form_asked d ∷ fs) (form_fitted defs levels can.1)

pub fitted_fits : (config : ConfigParts) (b : BundleParts) → CanFit config b → FitsConfig config (fitted config b)
fitted_fits config b can = record { levels = form_fitted config.levels b.levels can.levels; definitions = refl }

-- ---- ids

ids_fitted : (defs : List LevelDef) (levels : List Level) → CanFitLevels defs levels → all_ids (fitted_levels defs levels) ≡ all_ids levels
ids_fitted [] [] can = refl
ids_fitted [] (l ∷ levels) can = absurd can
ids_fitted (d ∷ defs) [] can = ids_fitted defs [] tt
ids_fitted (d ∷ defs) (l ∷ levels) can =
    ap (λ ns. ns ++ all_ids (fitted_levels defs levels)) (ids_widened (length d.attributes) l.items)
    ∙ ap (λ ns. ids_of l.items ++ ns) (ids_fitted defs levels can.1)

pub same_ids : (config : ConfigParts) (b : BundleParts) → CanFit config b → all_ids (fitted config b).levels ≡ all_ids b.levels
same_ids config b can = ids_fitted config.levels b.levels can.levels

level_fitted : (n q : ℕ) (defs : List LevelDef) (levels : List Level) → CanFitLevels defs levels → level_from n q (fitted_levels defs levels) ≡ level_from n q levels
level_fitted n q [] [] can = refl
level_fitted n q [] (l ∷ levels) can = absurd can
level_fitted n q (d ∷ defs) [] can = level_fitted (suc n) q defs [] tt
level_fitted n q (d ∷ defs) (l ∷ levels) can =
    ap (λ ns. cond (list_any (nat_eq q) ns) (Some n) (level_from (suc n) q (fitted_levels defs levels))) (ids_widened (length d.attributes) l.items)
    ∙ ap (λ o. cond (has_id q l) (Some n) o) (level_fitted (suc n) q defs levels can.1)

pub same_level : (config : ConfigParts) (b : BundleParts) → CanFit config b → (q : ℕ) → level_of_id (fitted config b).levels q ≡ level_of_id b.levels q
same_level config b can q = level_fitted 0 q config.levels b.levels can.levels

-- ---- items

count_fitted : (defs : List LevelDef) (levels : List Level) → CanFitLevels defs levels → item_count (fitted_levels defs levels) ≡ item_count levels
count_fitted [] [] can = refl
count_fitted [] (l ∷ levels) can = absurd can
count_fitted (d ∷ defs) [] can =
    sum_by-cons (λ (l : Level). length l.items) (fitted_level d None) (fitted_levels defs []) ∙ zero-add (item_count (fitted_levels defs []))
    ∙ count_fitted defs [] tt
count_fitted (d ∷ defs) (l ∷ levels) can =
    sum_by-cons (λ (k : Level). length k.items) (fitted_level d (Some l)) (fitted_levels defs levels)
    ∙ ap (λ n. n + item_count (fitted_levels defs levels)) (length_widened (length d.attributes) l.items)
    ∙ ap (λ n. length l.items + n) (count_fitted defs levels can.1)
    ∙ sym (sum_by-cons (λ (k : Level). length k.items) l levels)

pub same_count : (config : ConfigParts) (b : BundleParts) → CanFit config b → item_count (fitted config b).levels ≡ item_count b.levels
same_count config b can = count_fitted config.levels b.levels can.levels

empty_rule : (kind : LevelKind) (attributes : ℕ) → KeepsLevelRule (level_of kind attributes [])
empty_rule kinds.Item attributes = record { distinct = refl; fitting = refl; ordered = refl }
empty_rule kinds.Segment attributes = record { distinct = refl; fitting = refl; ordered = refl }
empty_rule kinds.Event attributes = record { distinct = refl; fitting = refl; ordered = refl }

rules_fitted : (defs : List LevelDef) (levels : List Level) → CanFitLevels defs levels → All KeepsLevelRule levels → All KeepsLevelRule (fitted_levels defs levels)
rules_fitted [] [] can all = all
rules_fitted [] (l ∷ levels) can all = absurd can
rules_fitted (d ∷ defs) [] can all =
    All-cons KeepsLevelRule (fitted_level d None) (fitted_levels defs []) (empty_rule d.kind (length d.attributes)) (rules_fitted defs [] tt all)
rules_fitted (d ∷ defs) (l ∷ levels) can all =
    All-cons KeepsLevelRule (fitted_level d (Some l)) (fitted_levels defs levels)
    (rule_widened l.kind l.attributes (length d.attributes) l.items can.0.attributes (All-head KeepsLevelRule l levels all))
    (rules_fitted defs levels can.1 (All-tail KeepsLevelRule l levels all))

-- ---- links

get_more : {A : Type 0} (xs more : List A) (i : ℕ) (x : A) → slice_get xs i ≡ Some x → slice_get (xs ++ more) i ≡ Some x
get_more [] more i x is = absurd cc
get_more (y ∷ ys) more zero x is = is
get_more (y ∷ ys) more (suc i) x is = get_more ys more i x is

between_more : (defs more : List LinkDef) (old new : ℕ → Option ℕ) → ((q : ℕ) → new q ≡ old q) → (links : List Link) →
    All (IsBetween defs old) links → All (IsBetween (defs ++ more) new) links
between_more defs more old new same [] all = All-nil (IsBetween (defs ++ more) new)
between_more defs more old new same (l ∷ links) all =
    let here = All-head (IsBetween defs old) l links all in
    All-cons (IsBetween (defs ++ more) new) l links
    (record {
      def = here.def;
      defined = get_more defs more l.definition here.def here.defined;
      from = same l.from.0 ∙ here.from;
      to = same l.to.0 ∙ here.to;
    })
    (between_more defs more old new same links (All-tail (IsBetween defs old) l links all))

-- a number of no definition has no links
none_of : (defs : List LinkDef) (level : ℕ → Option ℕ) (number : ℕ) → slice_get defs number ≡ None → (links : List Link) → All (IsBetween defs level) links → of_definition number links ≡ []
none_of defs level number absent [] all = refl
none_of defs level number absent (l ∷ links) all =
    by (nat_eq l.definition number) refl (none_of defs level number absent links (All-tail (IsBetween defs level) l links all))
  where
    here : IsBetween defs level l
    here = All-head (IsBetween defs level) l links all

    by : (b : Bool) → nat_eq l.definition number ≡ b → of_definition number links ≡ [] → cond b (l ∷ of_definition number links) (of_definition number links) ≡ []
    by true same rest =
        let both : Some here.def ≡ None = sym here.defined ∙ ap (slice_get defs) (eqb-true l.definition number same) ∙ absent in
        absurd cc
    by false apart rest = rest

keeps_none : (kind : LinkKind) (number : ℕ) (links : List Link) → of_definition number links ≡ [] → KeepKind kind number links
unfolding IsDistinct
keeps_none OneToOne number links none =
    (subst (IsDistinct (λ (a b : Link). nat_eq a.to.0 b.to.0)) (sym none) tt, subst (IsDistinct (λ (a b : Link). nat_eq a.from.0 b.from.0)) (sym none) tt)
keeps_none OneToMany number links none = subst (IsDistinct (λ (a b : Link). nat_eq a.to.0 b.to.0)) (sym none) tt
keeps_none ManyToMany number links none = tt

kinds_more : (defs more : List LinkDef) (level : ℕ → Option ℕ) (links : List Link) → KeepLinkRule defs level links → (number : ℕ) → KeepKind (kind_of (defs ++ more) number) number links
kinds_more defs more level links rule number = by (slice_get defs number) refl
  where
    by : (o : Option LinkDef) → slice_get defs number ≡ o → KeepKind (kind_of (defs ++ more) number) number links
    by (Some def) is =
        subst (λ k. KeepKind k number links)
        (ap (λ o. option_map_or (λ (d : LinkDef). d.kind) o ManyToMany) (is ∙ sym (get_more defs more number def is)))
        (rule.kinds number)
    by None is = keeps_none (kind_of (defs ++ more) number) number links (none_of defs level number is links rule.between)

pub links_fitted : (defs new : List LinkDef) (old_level new_level : ℕ → Option ℕ) (links : List Link) → Begins defs new → ((q : ℕ) → new_level q ≡ old_level q) →
    KeepLinkRule defs old_level links → KeepLinkRule new new_level links
links_fitted defs new old_level new_level links begins same rule =
    subst (λ ds. KeepLinkRule ds new_level links) (sym begins.1)
    (record {
      between = between_more defs begins.0 old_level new_level same links rule.between;
      kinds = kinds_more defs begins.0 old_level links rule;
    })

-- ---- rules

pub fitted_rules : (config : ConfigParts) (b : BundleParts) → CanFit config b → KeepsBundleRules b → KeepsBundleRules (fitted config b)
fitted_rules config b can rules =
    let count = same_count config b can in
    let few = rules.few_items in
    record {
      rate = rules.rate;
      few_items = omega (arith, count, few);
      apart = ap are_different (same_ids config b can) ∙ rules.apart;
      levels = rules_fitted config.levels b.levels can.levels rules.levels;
      few_links = rules.few_links;
      pairs = rules.pairs;
      linked = links_fitted b.definitions config.links (level_of_id b.levels) (level_of_id (fitted config b).levels) b.links can.definitions (same_level config b can) rules.linked;
    }

-- ---- an extension can be fitted

can_levels : (old new : List LevelDef) (levels : List Level) → ExtendLevels old new → map form_of levels ≡ map form_asked old → CanFitLevels new levels
can_levels old new [] more same = tt
can_levels [] new (l ∷ levels) more same = absurd cc
can_levels (d ∷ old) [] (l ∷ levels) more same = absurd more
can_levels (d ∷ old) (e ∷ new) (l ∷ levels) more same =
    let own : ◌≡◌ {A = LevelKind × ℕ} (form_of l) (form_asked d) = cc in
    let tail : map form_of levels ≡ map form_asked old = cc in
    let count : l.attributes ≡ length d.attributes = ap (λ (p : LevelKind × ℕ). p.1) own in
    let longer : length e.attributes ≡ length d.attributes + length more.0.attributes.0 =
    ap length more.0.attributes.1 ∙ length-append d.attributes more.0.attributes.0 in (
      record {
        kind = ap (λ (p : LevelKind × ℕ). p.0) own ∙ sym more.0.kind;
        attributes = omega (arith, count, longer);
      },
      can_levels old new levels more.1 tail,
    )

pub extensions_can_fit : ExtensionsCanFit
extensions_can_fit old new b more fits = record {
  levels = can_levels old.levels new.levels b.levels more.levels fits.levels;
  definitions = (more.links.0, more.links.1 ∙ ap (λ ds. ds ++ more.links.0) (sym fits.definitions));
}

-- ---- steps of the loop that makes the levels

abbrev level_at : List Level → ℕ → Option Level
level_at levels n = slice_get levels n

fitted_more : (defs : List LevelDef) (levels : List Level) (n : ℕ) (d : LevelDef) → slice_get defs n ≡ Some d →
    fitted_levels (take (suc n) defs) levels ≡ fitted_levels (take n defs) levels ++ fitted_level d (level_at levels n) ∷ []
fitted_more [] levels n d at = absurd cc
fitted_more (x ∷ defs) [] zero d at = let same : x ≡ d = cc in ap (λ y. fitted_level y None ∷ []) same
fitted_more (x ∷ defs) (l ∷ levels) zero d at = let same : x ≡ d = cc in ap (λ y. fitted_level y (Some l) ∷ []) same
fitted_more (x ∷ defs) [] (suc n) d at = ap (λ ls. fitted_level x None ∷ ls) (fitted_more defs [] n d at ∙ ap (λ o. fitted_levels (take n defs) [] ++ fitted_level d o ∷ []) (nothing n))
  where
    nothing : (k : ℕ) → level_at [] k ≡ level_at [] (suc k)
    nothing zero = refl
    nothing (suc k) = refl
fitted_more (x ∷ defs) (l ∷ levels) (suc n) d at = ap (λ ls. fitted_level x (Some l) ∷ ls) (fitted_more defs levels n d at)

pub fitted_step : (defs : List LevelDef) (levels : List Level) (n : ℕ) (d : LevelDef) (o : Option Level) (made next : List Level) (new : Level) → slice_get defs n ≡ Some d → o ≡ slice_get levels n →
    made ≡ fitted_levels (take n defs) levels → new ≡ fitted_level d o → next ≡ made ++ new ∷ [] → next ≡ fitted_levels (take (n + 1) defs) levels
fitted_step defs levels n d o made next new at is so_far own push =
    push ∙ ap (λ ls. ls ++ new ∷ []) so_far
    ∙ ap (λ l. fitted_levels (take n defs) levels ++ l ∷ []) (own ∙ ap (fitted_level d) is)
    ∙ sym (fitted_more defs levels n d at) ∙ ap (λ k. fitted_levels (take k defs) levels) (sym (add-one n))

-- the level of a number can fit its definition
pub can_fit_at : (defs : List LevelDef) (levels : List Level) (n : ℕ) (d : LevelDef) (l : Level) → CanFitLevels defs levels → slice_get defs n ≡ Some d → slice_get levels n ≡ Some l → CanFitLevel d l
can_fit_at defs [] n d l can at is = absurd cc
can_fit_at [] (x ∷ levels) n d l can at is = absurd can
can_fit_at (e ∷ defs) (x ∷ levels) zero d l can at is =
    let one : e ≡ d = cc in
    let two : x ≡ l = cc in
    subst (λ y. CanFitLevel y l) one (subst (CanFitLevel e) two can.0)
can_fit_at (e ∷ defs) (x ∷ levels) (suc n) d l can at is = can_fit_at defs levels n d l can.1 at is

pub can_fit_here : (defs : List LevelDef) (levels : List Level) (n : ℕ) (d : LevelDef) (o : Option Level) → CanFitLevels defs levels → slice_get defs n ≡ Some d → o ≡ slice_get levels n →
    IfSome o (CanFitLevel d)
can_fit_here defs levels n d None can at is = tt
can_fit_here defs levels n d (Some l) can at is = can_fit_at defs levels n d l can at (sym is)

-- the element of a number, by what `get` gives of it
pub copied_at : {A : Type 0} (xs : List A) (i : ℕ) (o : Option (Bor A)) → MatchOption o (length xs ≤ i) (λ x. (i < length xs) × HoldsAt (λ y. x.now ≡ y) xs i) → option_copied o ≡ slice_get xs i
copied_at xs i None past = sym (slice_get_past xs i past)
copied_at xs i (Some x) here = sym (slice_get-get_or xs i x.now here.0 ∙ ap Some (sym (here.1 x.now)))

-- the same by what a loop has of the definition
pub can_fit_next : (defs : List LevelDef) (levels : List Level) (n : ℕ) (d : LevelDef) (o : Option Level) → CanFitLevels defs levels → n < length defs → d ≡ get_or defs n d → o ≡ slice_get levels n →
    IfSome o (CanFitLevel d)
can_fit_next defs levels n d o can low is at = can_fit_here defs levels n d o can (slice_get_read defs (length defs) n d refl low is) at

pub fitted_next : (defs : List LevelDef) (levels : List Level) (n : ℕ) (d : LevelDef) (o : Option Level) (made next : List Level) (new : Level) → n < length defs → d ≡ get_or defs n d → o ≡ slice_get levels n →
    made ≡ fitted_levels (take n defs) levels → new ≡ fitted_level d o → next ≡ made ++ new ∷ [] → next ≡ fitted_levels (take (n + 1) defs) levels
fitted_next defs levels n d o made next new low is at so_far own push =
    fitted_step defs levels n d o made next new (slice_get_read defs (length defs) n d refl low is) at so_far own push

-- the levels of all definitions
pub fitted_whole : (defs : List LevelDef) (levels made : List Level) (n : ℕ) → length defs ≤ n → made ≡ fitted_levels (take n defs) levels → made ≡ fitted_levels defs levels
fitted_whole defs levels made n past is = is ∙ ap (λ ds. fitted_levels ds levels) (take_all n defs past)

-- the bundle with its kept levels, by its parts
pub fit_kept : (config : ConfigParts) (b old : BundleParts) (places own : Places) (key : BundleKey) (annotates : List ℕ) (rate : ℕ) (levels : List Level) (definitions : List LinkDef) (links : List Link) →
    old ≡ b → CanFit config b → IsKept old places → key ≡ b.key → annotates ≡ b.annotates → rate ≡ b.rate → levels ≡ fitted_levels config.levels b.levels → definitions ≡ config.links →
    links ≡ b.links → ((level : ℕ → Option ℕ) → ArePlaced level places → ArePlaced level own) →
    IsKept (record { key = key; annotates = annotates; rate = rate; levels = levels; definitions = definitions; links = links }) own
fit_kept config b old places own key annotates rate levels definitions links view can kept key_is annotates_is rate_is levels_are definitions_are links_are same =
    let new : BundleParts = record { key = key; annotates = annotates; rate = rate; levels = levels; definitions = definitions; links = links } in
    let whole : new ≡ fitted config b = cc in
    let before : IsKept b places = subst (λ x. IsKept x places) view kept in
    subst (λ x. IsKept x own) (sym whole)
    (record {
      rules = fitted_rules config b can before.rules;
      placed = carried (level_of_id b.levels) (level_of_id (fitted_levels config.levels b.levels)) own (λ q. sym (same_level config b can q))
          (same (level_of_id b.levels) before.placed);
    })
