-- The levels of a bundle that is made to fit a configuration with more parts, and which of them are as they were.
use Rattle.std.proofs.Common.{◌≡◌, ◌⊎◌, inl, inr, ℕ, zero, suc, ◌+◌, ◌<◌, ◌≤◌, ◌==◌, Bool, true, false, not, true≢false, List, [], ◌∷◌, length, get_or, slice_get, slice_set, Option, Some, refl, sym, ap, ◌∙◌, arith}
use Rattle.std.specs.Prelude.{All}
use Rattle.std.specs.Option.{option_map_or}
use Rattle.std.proofs.lemmas.Bool.{cases_eq, cases_lt, eqb-true, not-false}
use Rattle.std.proofs.lemmas.List.{get_or-set_same, get_or-set_other}
use Rattle.std.proofs.lemmas.List.Elements.{All-nil, All-head, All-tail}
use Rattle.std.proofs.lemmas.Option.{slice_get_past}
use Rattle.db_config.specs.declared.parts.ConfigParts.{ConfigParts}
use Rattle.db_config.specs.declared.parts.LevelDef.{LevelDef}
use Rattle.level_items.specs.Levels.{Level, widened, KeepsLevelRule}
use Rattle.level_items.proofs.Wider.{widened_same}
use Rattle.bundle_state.specs.Bundle.{BundleParts}
use Rattle.bundle_state.specs.Fitted.{fitted, fitted_levels, CanFit, CanFitLevels}
use Rattle.bundle_state.specs.Valid.{KeepsBundleRules}
use Rattle.bundle_index.specs.Inner.Columns.{AreSameBut}
use Rattle.bundle_index.specs.Inner.Fitted.{AreWide, attributes_at}

-- ---- marks

abbrev count_in : Option Level → ℕ
count_in o = option_map_or (λ (l : Level). suc l.attributes) o 0

-- two levels with as many attributes
pub alike_at : (old new : List Level) (k : ℕ) (l m : Level) (a b : ℕ) → slice_get old k ≡ Some l → slice_get new k ≡ Some m → a ≡ l.attributes → b ≡ m.attributes →
    not (a == b) ≡ false → attributes_at new k ≡ attributes_at old k
alike_at old new k l m a b one two own other same =
    let alike : a ≡ b = eqb-true a b (not-false (a == b) same) in
    ap count_in two ∙ ap suc (sym other ∙ sym alike ∙ own) ∙ sym (ap count_in one)

pub none_wide : (old new : List Level) (row : List Bool) → AreWide old new row 0
none_wide old new row k low unmarked = absurd (omega (arith, low))

pub marked_before : (old new : List Level) (row : List Bool) (n : ℕ) → AreWide old new row n → attributes_at new n ≡ attributes_at old n → AreWide old new row (n + 1)
marked_before old new row n so here k low unmarked = by (cases_lt k n)
  where
    by : (k < n) ⊎ (n ≤ k) → attributes_at new k ≡ attributes_at old k
    by (inl under) = so k under unmarked
    by (inr over) =
        let same : k ≡ n = omega arith in
        ap (attributes_at new) same ∙ here ∙ ap (attributes_at old) (sym same)

pub marked_here : (old new : List Level) (row next : List Bool) (n : ℕ) → AreWide old new row n → n < length row → next ≡ slice_set row n true → AreWide old new next (n + 1)
marked_here old new row next n so within is k low unmarked = by (cases_eq k n) (cases_lt k n)
  where
    shown : get_or (slice_set row n true) k false ≡ false
    shown = ap (λ (r : List Bool). get_or r k false) (sym is) ∙ unmarked

    by : (k ≡ n) ⊎ (k ≡ n → ⊥) → (k < n) ⊎ (n ≤ k) → attributes_at new k ≡ attributes_at old k
    by (inl same) place =
        let marked : get_or (slice_set row n true) n false ≡ true = get_or-set_same row n true false within in
        absurd (true≢false (sym marked ∙ ap (λ (j : ℕ). get_or (slice_set row n true) j false) (sym same) ∙ shown))
    by (inr other) (inl under) = so k under (sym (get_or-set_other row n k true false other) ∙ shown)
    by (inr other) (inr over) = absurd (other (omega arith))

-- ---- levels

-- a level with as many attributes as before is as it was
levels_same : (defs : List LevelDef) (levels : List Level) (k : ℕ) → CanFitLevels defs levels → All KeepsLevelRule levels →
    attributes_at (fitted_levels defs levels) k ≡ attributes_at levels k → slice_get (fitted_levels defs levels) k ≡ slice_get levels k
levels_same [] [] k can all same = refl
levels_same [] (l ∷ levels) k can all same = absurd can
levels_same (d ∷ defs) [] zero can all same = absurd (omega (arith, same))
levels_same (d ∷ defs) [] (suc k) can all same = levels_same defs [] k tt (All-nil KeepsLevelRule) same
levels_same (d ∷ defs) (l ∷ levels) zero can all same =
    let count : length d.attributes ≡ l.attributes = omega (arith, same) in
    ap (λ (n : ℕ). Some (widened n l)) count ∙ ap Some (widened_same l (All-head KeepsLevelRule l levels all))
levels_same (d ∷ defs) (l ∷ levels) (suc k) can all same =
    levels_same defs levels k can.1 (All-tail KeepsLevelRule l levels all) same

levels_more : (defs : List LevelDef) (levels : List Level) → CanFitLevels defs levels → length levels ≤ length (fitted_levels defs levels)
levels_more defs [] can = omega arith
levels_more [] (l ∷ levels) can = absurd can
levels_more (d ∷ defs) (l ∷ levels) can = let rest = levels_more defs levels can.1 in omega (arith, rest)

-- each level that is not marked is as it was
pub same_but_wider : (config : ConfigParts) (b new : BundleParts) (row : List Bool) → KeepsBundleRules b → CanFit config b → new ≡ fitted config b →
    AreWide b.levels new.levels row (length new.levels) → AreSameBut row b.levels new.levels
same_but_wider config b new row rules can is wide k unmarked = by (cases_lt k (length new.levels))
  where
    made : new.levels ≡ fitted_levels config.levels b.levels
    made = ap (λ (x : BundleParts). x.levels) is

    by : (k < length new.levels) ⊎ (length new.levels ≤ k) → slice_get new.levels k ≡ slice_get b.levels k
    by (inl within) =
        let alike : attributes_at (fitted_levels config.levels b.levels) k ≡ attributes_at b.levels k =
        ap (λ (ls : List Level). attributes_at ls k) (sym made) ∙ wide k within unmarked in
        ap (λ (ls : List Level). slice_get ls k) made ∙ levels_same config.levels b.levels k can.levels rules.levels alike
    by (inr beyond) =
        let more = levels_more config.levels b.levels can.levels in
        let long : length new.levels ≡ length (fitted_levels config.levels b.levels) = ap length made in
        slice_get_past new.levels k beyond ∙ sym (slice_get_past b.levels k (omega (arith, more, long, beyond)))
