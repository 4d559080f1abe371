-- Bundles, pages and versions under a configuration with more parts.
use Rattle.std.proofs.Common.{◌≡◌, ℕ, zero, suc, ◌+◌, ◌<◌, ◌≤◌, true, List, [], ◌∷◌, ◌++◌, length, map, take, get_or, slice_get, Some, IsTrue, refl, sym, ◌∙◌, ap, subst, arith}
use Rattle.std.specs.Prelude.{All}
use Rattle.std.proofs.lemmas.List.{length-map, map-append, take_more, take_all}
use Rattle.std.proofs.lemmas.List.Elements.{All-head, All-tail}
use Rattle.std.proofs.lemmas.Option.{slice_get-get_or}
use Rattle.emu_names.specs.declared.limits.TheConstants.{BUNDLES}
use Rattle.emu_names.specs.declared.names.BundleKey.{BundleKey}
use Rattle.db_config.specs.declared.parts.ConfigParts.{ConfigParts}
use Rattle.db_config.specs.Extends.{Extends}
use Rattle.bundle_state.specs.Bundle.{BundleParts}
use Rattle.bundle_state.specs.Fitted.{CanFit, fitted}
use Rattle.bundle_state.proofs.FittedKept.{extensions_can_fit}
use Rattle.bundle_index.specs.Index.{IndexParts}
use Rattle.edit_rules.specs.Database.{Counts, DatabaseParts, IsBundleOf, all_items, are_keys_rising, counts_of, is_before}
use Rattle.edit_rules.specs.Effects.{fitted_database}
use Rattle.edit_rules.proofs.Fits.{all_fitted, items_fitted, rising_fitted}
use Rattle.version_tree.specs.Version.{VersionParts, bundles_of, state_of}
use Rattle.version_tree.specs.Inner.Kept.{IsKept}
use Rattle.version_tree.specs.Inner.Pages.{AreBehind, AreFull, AreRising, Each, IsFullBeside, IsPage, KeepPages, bundles_on}
use Rattle.version_tree.specs.Inner.Under.{CanFitAll, fitted_of}
use Rattle.version_tree.specs.Inner.Version.{IsUnder, KeepsVersionRules, next_number}
use Rattle.version_tree.proofs.Elements.{each_at, each_parts}

-- Bundles.

abbrev can_fit : ConfigParts → IndexParts → Type 0
can_fit config x = CanFit config x.bundle

pub none_under : (config : ConfigParts) → bundles_of [] ≡ fitted_of config []
none_under config = refl

bundles_push : (xs : List IndexParts) (x : IndexParts) → bundles_of (xs ++ x ∷ []) ≡ bundles_of xs ++ x.bundle ∷ []
bundles_push xs x = map-append (λ (i : IndexParts). i.bundle) xs (x ∷ [])

fitted_push : (config : ConfigParts) (xs : List IndexParts) (x : IndexParts) → fitted_of config (xs ++ x ∷ []) ≡ fitted_of config xs ++ fitted config x.bundle ∷ []
fitted_push config xs x = ap (map (fitted config)) (bundles_push xs x) ∙ map-append (fitted config) (bundles_of xs) (x.bundle ∷ [])

-- one bundle more
pub one_under : (config : ConfigParts) (bs : List IndexParts) (i : ℕ) (x new : IndexParts) (made next : List IndexParts) → i < length bs → x ≡ get_or bs i x →
    bundles_of made ≡ fitted_of config (take i bs) → new.bundle ≡ fitted config x.bundle → next ≡ made ++ new ∷ [] → bundles_of next ≡ fitted_of config (take (i + 1) bs)
one_under config bs i x new made next within is so fits push =
    ap bundles_of push ∙ bundles_push made new
    ∙ ap (λ (ys : List BundleParts). ys ++ new.bundle ∷ []) so
    ∙ ap (λ (b : BundleParts). fitted_of config (take i bs) ++ b ∷ []) fits
    ∙ sym (fitted_push config (take i bs) x)
    ∙ ap (fitted_of config) (ap (λ (y : IndexParts). take i bs ++ y ∷ []) is ∙ sym (take_more bs i x within))

pub under_whole : (config : ConfigParts) (bs made : List IndexParts) (i : ℕ) → length bs ≤ i → bundles_of made ≡ fitted_of config (take i bs) → bundles_of made ≡ fitted_of config bs
under_whole config bs made i past so = so ∙ ap (fitted_of config) (take_all i bs past)

pub can_fit_at : (config : ConfigParts) (bs : List IndexParts) (i : ℕ) (x : IndexParts) → CanFitAll config bs → i < length bs → x ≡ get_or bs i x → CanFit config x.bundle
can_fit_at config bs i x all within is =
    each_at (can_fit config) bs i x (slice_get-get_or bs i x within ∙ ap Some (sym is)) all

-- Pages.

abbrev pub Pages : Type 0
Pages = List (List IndexParts)

-- the bundles of pages, page by page, without their columns
abbrev pub plain : Pages → List (List BundleParts)
plain pages = map bundles_of pages

-- the same, made to fit a configuration
abbrev pub plain_under : ConfigParts → Pages → List (List BundleParts)
plain_under config pages = map (fitted_of config) pages

pub none_made : (config : ConfigParts) → plain [] ≡ plain_under config []
none_made config = refl

-- one page more
pub page_more : (config : ConfigParts) (pages : Pages) (i : ℕ) (page new : List IndexParts) (made next : Pages) → i < length pages → page ≡ get_or pages i page →
    plain made ≡ plain_under config (take i pages) → bundles_of new ≡ fitted_of config page → next ≡ made ++ new ∷ [] → plain next ≡ plain_under config (take (i + 1) pages)
page_more config pages i page new made next within is so fits push =
    ap plain push ∙ map-append bundles_of made (new ∷ [])
    ∙ ap (λ (ys : List (List BundleParts)). ys ++ bundles_of new ∷ []) so
    ∙ ap (λ (b : List BundleParts). plain_under config (take i pages) ++ b ∷ []) fits
    ∙ sym (map-append (fitted_of config) (take i pages) (page ∷ []))
    ∙ ap (plain_under config) (ap (λ (y : List IndexParts). take i pages ++ y ∷ []) is ∙ sym (take_more pages i page within))

pub pages_whole : (config : ConfigParts) (pages made : Pages) (i : ℕ) → length pages ≤ i → plain made ≡ plain_under config (take i pages) → plain made ≡ plain_under config pages
pages_whole config pages made i past so = so ∙ ap (plain_under config) (take_all i pages past)

-- the bundles of one page can be made to fit
pub page_fits : (config : ConfigParts) (pages : Pages) (i : ℕ) (page : List IndexParts) → CanFitAll config (bundles_on pages) → slice_get pages i ≡ Some page → CanFitAll config page
page_fits config [] i page all at = absurd cc
page_fits config (p ∷ pages) zero page all at =
    let same : p ≡ page = cc in
    subst (CanFitAll config) same (each_parts (can_fit config) p (bundles_on pages) all).0
page_fits config (p ∷ pages) (suc i) page all at =
    page_fits config pages i page (each_parts (can_fit config) p (bundles_on pages) all).1 at

same_length : (config : ConfigParts) (new page : List IndexParts) → bundles_of new ≡ fitted_of config page → length new ≡ length page
same_length config new page is =
    sym (length-map new (λ (x : IndexParts). x.bundle)) ∙ ap length is
    ∙ length-map (bundles_of page) (fitted config) ∙ length-map page (λ (x : IndexParts). x.bundle)

-- a page has as many bundles
pub page_sized : (config : ConfigParts) (new page : List IndexParts) → IsPage page → bundles_of new ≡ fitted_of config page → IsPage new
page_sized config new page size is =
    let long = same_length config new page is in
    let some = size.some in
    let most = size.most in
    record { some = omega (arith, long, some); most = omega (arith, long, most) }

-- all bundles of all pages
pub pages_fitted : (config : ConfigParts) (made pages : Pages) → plain made ≡ plain_under config pages → bundles_of (bundles_on made) ≡ fitted_of config (bundles_on pages)
pages_fitted config [] [] is = refl
pages_fitted config [] (p ∷ pages) is = absurd cc
pages_fitted config (q ∷ made) [] is = absurd cc
pages_fitted config (q ∷ made) (p ∷ pages) is =
    let heads : bundles_of q ≡ fitted_of config p = cc in
    let tails : plain made ≡ plain_under config pages = cc in
    map-append (λ (x : IndexParts). x.bundle) q (bundles_on made)
    ∙ ap (λ (ys : List BundleParts). ys ++ bundles_of (bundles_on made)) heads
    ∙ ap (λ (ys : List BundleParts). fitted_of config p ++ ys) (pages_fitted config made pages tails)
    ∙ sym (map-append (fitted config) (bundles_of p) (bundles_of (bundles_on pages)))
    ∙ ap (map (fitted config)) (sym (map-append (λ (x : IndexParts). x.bundle) p (bundles_on pages)))

all_sized : (config : ConfigParts) (made pages : Pages) → plain made ≡ plain_under config pages → Each IsPage pages → Each IsPage made
all_sized config [] pages is sizes = tt
all_sized config (q ∷ made) [] is sizes = absurd cc
all_sized config (q ∷ made) (p ∷ pages) is sizes =
    let heads : bundles_of q ≡ fitted_of config p = cc in
    let tails : plain made ≡ plain_under config pages = cc in
    (page_sized config q p sizes.0 heads, all_sized config made pages tails sizes.1)

beside_full : (config : ConfigParts) (q p : List IndexParts) (made pages : Pages) → bundles_of q ≡ fitted_of config p → plain made ≡ plain_under config pages → IsFullBeside p pages → IsFullBeside q made
beside_full config q p [] pages heads is full = tt
beside_full config q p (r ∷ made) [] heads is full = absurd cc
beside_full config q p (r ∷ made) (s ∷ pages) heads is full =
    let next : bundles_of r ≡ fitted_of config s = cc in
    let one = same_length config q p heads in
    let two = same_length config r s next in
    omega (arith, one, two, full)

all_full : (config : ConfigParts) (made pages : Pages) → plain made ≡ plain_under config pages → AreFull pages → AreFull made
all_full config [] pages is full = tt
all_full config (q ∷ made) [] is full = absurd cc
all_full config (q ∷ made) (p ∷ pages) is full =
    let heads : bundles_of q ≡ fitted_of config p = cc in
    let tails : plain made ≡ plain_under config pages = cc in
    (beside_full config q p made pages heads tails full.0, all_full config made pages tails full.1)

-- keys stay
behind_fitted : (config : ConfigParts) (key : BundleKey) (xs ys : List IndexParts) → bundles_of xs ≡ fitted_of config ys → AreBehind key ys → AreBehind key xs
behind_fitted config key [] ys is behind = tt
behind_fitted config key (x ∷ xs) [] is behind = absurd cc
behind_fitted config key (x ∷ xs) (y ∷ ys) is behind =
    let heads : x.bundle ≡ fitted config y.bundle = cc in
    let tails : bundles_of xs ≡ fitted_of config ys = cc in
    (ap (λ (b : BundleParts). is_before key b.key) heads ∙ behind.0, behind_fitted config key xs ys tails behind.1)

rising_as : (config : ConfigParts) (xs ys : List IndexParts) → bundles_of xs ≡ fitted_of config ys → AreRising ys → AreRising xs
rising_as config [] ys is up = tt
rising_as config (x ∷ xs) [] is up = absurd cc
rising_as config (x ∷ xs) (y ∷ ys) is up =
    let heads : x.bundle ≡ fitted config y.bundle = cc in
    let tails : bundles_of xs ≡ fitted_of config ys = cc in
    let own : y.bundle.key ≡ x.bundle.key = ap (λ (b : BundleParts). b.key) (sym heads) in
    (subst (λ (k : BundleKey). AreBehind k xs) own (behind_fitted config y.bundle.key xs ys tails up.0), rising_as config xs ys tails up.1)

pub pages_kept : (config : ConfigParts) (made pages : Pages) → plain made ≡ plain_under config pages → KeepPages pages → KeepPages made
pages_kept config made pages is keeps = record {
  sizes = all_sized config made pages is keeps.sizes;
  full = all_full config made pages is keeps.full;
  rising = rising_as config (bundles_on made) (bundles_on pages) (pages_fitted config made pages is) keeps.rising;
}

-- Versions.

all_fit_under : (old new : ConfigParts) (xs : List IndexParts) → Extends old new → All (IsBundleOf old) (bundles_of xs) → CanFitAll new xs
all_fit_under old new [] more all = tt
all_fit_under old new (x ∷ xs) more all = (
  extensions_can_fit old new x.bundle more (All-head (IsBundleOf old) x.bundle (bundles_of xs) all).fits,
  all_fit_under old new xs more (All-tail (IsBundleOf old) x.bundle (bundles_of xs) all),
)

-- the bundles of a version can be made to fit
pub all_can_fit : (v seen : VersionParts) (config : ConfigParts) → seen ≡ v → KeepsVersionRules v → Extends v.config config → CanFitAll config seen.bundles
all_can_fit v seen config same rules more =
    subst (λ (w : VersionParts). CanFitAll config w.bundles) (sym same) (all_fit_under v.config config v.bundles more rules.bundles)

abbrev counts_as : ℕ → ℕ → Counts
counts_as bundles items = record { bundles = bundles; items = items }

-- a version under another configuration keeps the rules, and its bundles and items stay counted
pub kept_under : (v next : VersionParts) (counts : Counts) → IsKept v counts → Extends v.config next.config → bundles_of next.bundles ≡ fitted_of next.config v.bundles → IsKept next counts
kept_under v next counts kept more is =
    let config : ConfigParts = next.config in
    let bs : List BundleParts = bundles_of v.bundles in
    let long = same_length config next.bundles v.bundles is in
    let few = kept.rules.few in
    let count : length (bundles_of next.bundles) ≡ length bs = ap length is ∙ length-map bs (fitted config) in
    let items : all_items (bundles_of next.bundles) ≡ all_items bs = ap all_items is ∙ items_fitted v.config config bs more kept.rules.bundles in
    record {
      rules = record {
        few = omega (arith, long, few);
        rising = ap are_keys_rising is ∙ rising_fitted config bs ∙ kept.rules.rising;
        bundles = subst (All (IsBundleOf config)) (sym is) (all_fitted v.config config bs more kept.rules.bundles);
      };
      count = kept.count
          ∙ ap (λ (n : ℕ). counts_as n (all_items bs)) (sym count)
          ∙ ap (λ (n : ℕ). counts_as (length (bundles_of next.bundles)) n) (sym items);
    }

abbrev database_as : ConfigParts → List BundleParts → DatabaseParts
database_as config bundles = record { config = config; bundles = bundles }

pub state_under : (v next : VersionParts) (config : ConfigParts) → next.config ≡ config → bundles_of next.bundles ≡ fitted_of config v.bundles → state_of next ≡ fitted_database (state_of v) config
state_under v next config same is =
    ap (λ (c : ConfigParts). database_as c (bundles_of next.bundles)) same ∙ ap (database_as config) is

pub is_under : (v next : VersionParts) (config : ConfigParts) → next.config ≡ config → bundles_of next.bundles ≡ fitted_of config v.bundles → next.number ≡ next_number v.number → IsUnder config v next
is_under v next config same is number = record { config = same; bundles = is; number = number }
