-- An annotation that is compared with the one that a bundle gives.
use Rattle.std.proofs.Common.{◌≡◌, ◌≤◌, ◌<◌, ◌==◌, ◌&&◌, ℕ, zero, suc, ◌+◌, Bool, true, false, List, [], ◌∷◌, ◌++◌, map, take, length, get_or, slice_get, Option, None, Some, Result, Ok, Err, refl, ap, sym, ◌∙◌, subst, add-one, arith}
use Rattle.std.proofs.lemmas.Bool.{and_parts, eqb-true}
use Rattle.std.proofs.lemmas.List.{length-map, map-append, take_all}
use Rattle.std.proofs.lemmas.Option.{slice_get_read}
use Rattle.emu_names.specs.declared.kinds.ItemId.{ItemId}
use Rattle.emu_names.specs.declared.kinds.LevelKind.{LevelKind}
use Rattle.emu_names.specs.declared.kinds.LinkKind.{LinkKind}
use Rattle.emu_names.specs.declared.names.BundleKey.{BundleKey}
use Rattle.emu_names.specs.declared.rules.Broken.{Broken}
use Rattle.level_items.specs.declared.annot.Annot.{Annot}
use Rattle.level_items.specs.declared.annot.AnnotLabel.{AnnotLabel}
use Rattle.level_items.specs.declared.annot.AnnotLevel.{AnnotLevel}
use Rattle.level_items.specs.declared.annot.AnnotLink.{AnnotLink}
use Rattle.level_items.specs.declared.times.Time.{Time}
use Rattle.level_items.specs.declared.times.Time.TheVariants.{Span, Point}
use Rattle.level_items.specs.Levels.{Level}
use Rattle.link_graph.specs.declared.link.Link.{Link}
use Rattle.db_config.specs.declared.parts.LevelDef.{LevelDef}
use Rattle.db_config.specs.declared.parts.ConfigParts.{ConfigParts}
use Rattle.db_config.specs.Valid.{is_valid}
use Rattle.bundle_state.specs.Bundle.{BundleParts}
use Rattle.bundle_state.specs.Built.{built, form_of, form_asked, FitsConfig}
use Rattle.bundle_state.specs.Linked.{pair_of}
use Rattle.bundle_state.specs.Valid.{KeepsBundleRules}
use Rattle.bundle_state.proofs.Walks.{take_at}
use Rattle.bundle_index.specs.Inner.Columns.{AreSameBut}
use Rattle.annot_json.specs.Given.{given, given_level, given_levels}
use Rattle.annot_json.proofs.Built.{given_builds}
use Rattle.annot_json.proofs.Shown.{take_one}
use Rattle.version_steps.specs.Inner.Drafts.{AskAlike}

-- Lists that are compared place by place.

pub image_more : {A B : Type 0} (g : A → B) (xs : List A) (ys : List B) (place : ℕ) (x : A) (y : B) → take place ys ≡ map g (take place xs) → place < length xs → x ≡ get_or xs place x →
    place < length ys → y ≡ get_or ys place y → y ≡ g x → take (place + 1) ys ≡ map g (take (place + 1) xs)
image_more g xs ys place x y before within here within_y here_y is =
    take_at ys place y within_y here_y ∙ ap (λ zs. zs ++ y ∷ []) before ∙ ap (λ z. map g (take place xs) ++ z ∷ []) is
    ∙ sym (map-append g (take place xs) (x ∷ [])) ∙ ap (map g) (sym (take_at xs place x within here))

pub image_end : {A B : Type 0} (g : A → B) (xs : List A) (ys : List B) (place : ℕ) → take place ys ≡ map g (take place xs) → length xs ≤ place → length ys ≤ place → ys ≡ map g xs
image_end g xs ys place is past past_y = sym (take_all place ys past_y) ∙ is ∙ ap (map g) (take_all place xs past)

pub pair_more : (links : List Link) (ys : List AnnotLink) (place : ℕ) (link : Link) (y : AnnotLink) → take place ys ≡ map pair_of (take place links) → slice_get links place ≡ Some link →
    slice_get ys place ≡ Some y → y ≡ pair_of link → take (place + 1) ys ≡ map pair_of (take (place + 1) links)
pair_more links ys place link y before here here_y is =
    ap (λ n. take n ys) (add-one place) ∙ take_one ys place y here_y
    ∙ ap (λ zs. zs ++ y ∷ []) before ∙ ap (λ z. map pair_of (take place links) ++ z ∷ []) is
    ∙ sym (map-append pair_of (take place links) (link ∷ []))
    ∙ ap (map pair_of) (sym (take_one links place link here)) ∙ ap (λ n. map pair_of (take n links)) (sym (add-one place))

levels_at : (defs : List LevelDef) (levels : List Level) (place : ℕ) (def : LevelDef) (level : Level) → slice_get defs place ≡ Some def → slice_get levels place ≡ Some level →
    given_levels (take (suc place) defs) levels ≡ given_levels (take place defs) levels ++ given_level def level ∷ []
levels_at [] levels place def level d l = cc
levels_at (e ∷ defs) [] place def level d l = cc
levels_at (e ∷ defs) (m ∷ levels) zero def level d l = cc
levels_at (e ∷ defs) (m ∷ levels) (suc place) def level d l = ap (λ ys. given_level e m ∷ ys) (levels_at defs levels place def level d l)

pub level_more : (defs : List LevelDef) (levels : List Level) (ys : List AnnotLevel) (place : ℕ) (def : LevelDef) (level : Level) (y : AnnotLevel) →
    take place ys ≡ given_levels (take place defs) levels → place < length defs → def ≡ get_or defs place def → slice_get levels place ≡ Some level →
    place < length ys → y ≡ get_or ys place y → y ≡ given_level def level → take (place + 1) ys ≡ given_levels (take (place + 1) defs) levels
level_more defs levels ys place def level y before within d l within_y here_y is =
    let here = slice_get_read defs (length defs) place def refl within d in
    take_at ys place y within_y here_y ∙ ap (λ zs. zs ++ y ∷ []) before ∙ ap (λ z. given_levels (take place defs) levels ++ z ∷ []) is
    ∙ sym (levels_at defs levels place def level here l) ∙ ap (λ n. given_levels (take n defs) levels) (sym (add-one place))

pub levels_end : (defs : List LevelDef) (levels : List Level) (ys : List AnnotLevel) (place : ℕ) → take place ys ≡ given_levels (take place defs) levels → length defs ≤ place →
    length ys ≤ place → ys ≡ given_levels defs levels
levels_end defs levels ys place is past past_y =
    sym (take_all place ys past_y) ∙ is ∙ ap (λ ds. given_levels ds levels) (take_all place defs past)

-- A bundle under another configuration.

pub same_levels : (row : List Bool) (old new : List Level) → new ≡ old → AreSameBut row old new
same_levels row old new same k off = ap (λ (levels : List Level). slice_get levels k) same

pub level_count : (config : ConfigParts) (bundle : BundleParts) → FitsConfig config bundle → length bundle.levels ≡ length config.levels
level_count config bundle fits =
    sym (length-map bundle.levels form_of) ∙ ap length fits.levels ∙ length-map config.levels form_asked

pub fits_alike : (old new : ConfigParts) (bundle : BundleParts) → AskAlike old new → FitsConfig old bundle → FitsConfig new bundle
fits_alike old new bundle alike fits = record {
  levels = fits.levels ∙ sym alike.levels;
  definitions = fits.definitions ∙ sym alike.definitions;
}

pub made_again : (config : ConfigParts) (bundle : BundleParts) (key : BundleKey) (annot : Annot) → is_valid config ≡ true → FitsConfig config bundle → KeepsBundleRules bundle → key ≡ bundle.key →
    annot ≡ given config bundle → built config key annot ≡ Ok bundle
made_again config bundle key annot valid fits rules own same =
    ap (λ (k : BundleKey). built config k annot) own ∙ ap (built config bundle.key) same ∙ given_builds config bundle valid fits rules
