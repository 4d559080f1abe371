-- The levels of a query with its requery are there.
use Rattle.std.proofs.Common.{◌≡◌, ℕ, ◌<◌, ◌≤◌, Bool, List, length, Result, Ok, Err, sym, ap, subst, ◌∙◌, arith}
use Rattle.std.specs.Prelude.{All, IfOk, IsSome}
use Rattle.emu_names.specs.declared.limits.TheConstants.{BUNDLE_ITEMS}
use Rattle.emu_names.specs.declared.shortage.Memory.{Memory}
use Rattle.level_items.specs.Levels.{items_at}
use Rattle.db_config.specs.declared.parts.ConfigParts.{ConfigParts}
use Rattle.bundle_state.specs.Bundle.{BundleParts}
use Rattle.bundle_state.specs.Valid.{KeepsBundleRules}
use Rattle.hier_closure.specs.Dominance.{closure_of}
use Rattle.eql_resolve.specs.Asked.{AskedParts, result_level}
use Rattle.eql_resolve.specs.Inner.Sound.{IsResolvedBy}
use Rattle.eql_resolve.proofs.Kept.{level_there, result_within}
use Rattle.eql_model.proofs.Between.{rows_count, rows_wide}
use Rattle.eql_model.proofs.Conditions.{level_few}
use Rattle.requery.specs.declared.target.Target.{Target}
use Rattle.requery.specs.declared.target.Target.TheVariants.{Level, Along}
use Rattle.requery.specs.Target.{level_reached}
use Rattle.requery.specs.Inner.Sound.{IsTargetIn}

-- the level that is reached
pub reached_within : (c : ConfigParts) (a : AskedParts) (target : Target) → IsResolvedBy c a → IsTargetIn c target →
    level_reached (result_level a.query) target < length c.levels
reached_within c a (Level place) resolved there = level_there c place there
reached_within c a (Along shift) resolved there = result_within c a.query resolved.within

-- a level has few items
pub few_on : (b : BundleParts) (level n : ℕ) → KeepsBundleRules b → n ≡ length (items_at b.levels level) → n ≤ BUNDLE_ITEMS
few_on b level n rules long =
    let few = level_few b.levels level in
    let all = rules.few_items in
    omega arith

-- there is a row for each upper item, and a bit for each lower one
pub rows_long : (b : BundleParts) (upper lower n : ℕ) (rows : List (List Bool)) → rows ≡ closure_of b lower upper →
    n ≡ length (items_at b.levels upper) → n ≡ length rows
rows_long b upper lower n rows are long = long ∙ sym (ap length are ∙ rows_count b lower upper)

pub rows_broad : (b : BundleParts) (upper lower n : ℕ) (rows : List (List Bool)) → rows ≡ closure_of b lower upper →
    n ≡ length (items_at b.levels lower) → All (λ row. length row ≡ n) rows
rows_broad b upper lower n rows are long =
    subst (λ (m : ℕ). All (λ row. length row ≡ m) rows) (sym long)
    (subst (λ (rs : List (List Bool)). All (λ row. length row ≡ length (items_at b.levels lower)) rs) (sym are) (rows_wide b lower upper))

-- one answer in place of another
pub given_same : {A : Type 0} (r : Result A Memory) (one other : A) → one ≡ other → IfOk r (λ made. made ≡ one) → IfOk r (λ made. made ≡ other)
given_same (Ok made) one other same given = given ∙ same
given_same (Err e) one other same given = tt
