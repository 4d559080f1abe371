-- The row that all items of a level share.
use Rattle.std.proofs.Common.{◌≡◌, ℕ, Bool, false, List, length, map, replicate, sym, ap, ◌∙◌}
use Rattle.std.proofs.lemmas.Simd.{splat_is_map}
use Rattle.bundle_state.specs.Bundle.{BundleParts, level_of_id}
use Rattle.bundle_state.specs.Valid.{KeepsBundleRules}
use Rattle.db_config.specs.Above.{is_above}
use Rattle.hier_closure.specs.Dominance.{dominates, ids_at, closure_row, closure_of}
use Rattle.hier_closure.proofs.Heights.{none_below}
use Rattle.hier_closure.proofs.Ids.{level_is}
use Rattle.hier_closure.proofs.Joins.{same_row}

-- no bit is set where no path of definitions leads down
pub rows_aside : (bundle : BundleParts) (upper lower count width : ℕ) (row : List Bool) → KeepsBundleRules bundle →
    is_above bundle.definitions upper lower ≡ false → length (ids_at bundle.levels upper) ≡ count →
    length (ids_at bundle.levels lower) ≡ width → row ≡ replicate width false → replicate count row ≡ closure_of bundle lower upper
rows_aside bundle upper lower count width row rules aside long wide is =
    ap (replicate count) (is ∙ splat_is_map (ids_at bundle.levels lower) width false wide)
    ∙ splat_is_map (ids_at bundle.levels upper) count (map (λ _. false) (ids_at bundle.levels lower)) long
    ∙ same_row (λ _. map (λ _. false) (ids_at bundle.levels lower)) (closure_row bundle.links (ids_at bundle.levels lower)) (ids_at bundle.levels upper)
    (λ a above. same_row (λ _. false) (dominates bundle.links a) (ids_at bundle.levels lower)
    (λ b below. sym (none_below bundle.definitions (level_of_id bundle.levels) bundle.links a b upper lower rules.linked.between
    (level_is bundle.levels upper a rules.apart above) (level_is bundle.levels lower b rules.apart below) aside)))
