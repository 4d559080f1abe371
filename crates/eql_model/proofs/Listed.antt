-- One bundle more of a list of rows.
use Rattle.std.proofs.Common.{◌≡◌, ℕ, suc, ◌+◌, Bool, true, false, ◌||◌, List, ◌∷◌, ◌++◌, drop, slice_get, add-one, append_assoc, ap, ◌∙◌, sym, Some, Err}
use Rattle.std.specs.List.{flat_map, list_any}
use Rattle.std.proofs.Math.Seq.{drop-cons}
use Rattle.std.proofs.lemmas.Option.{get_or_from_slice_get, slice_get_within}
use Rattle.bundle_state.specs.Bundle.{BundleParts}
use Rattle.eql_tuples.specs.declared.faults.MatchFault.{MatchFault}
use Rattle.eql_tuples.specs.declared.faults.MatchFault.TheVariants.{TooManyTuples, Memory}
use Rattle.eql_rows.specs.declared.row.Row.{Row}
use Rattle.eql_model.specs.Inner.Rows.{AddsRows, GivesRows}

-- what is left from a place on begins with what stands there
pub from_here : {A : Type 0} (xs : List A) (i : ℕ) (x : A) → slice_get xs i ≡ Some x → drop i xs ≡ x ∷ drop (i + 1) xs
from_here xs i x here =
    drop-cons xs i x (slice_get_within xs i x here)
    ∙ ap (λ y. y ∷ drop (suc i) xs) (get_or_from_slice_get xs i x x here)
    ∙ ap (λ n. x ∷ drop n xs) (sym (add-one i))

module _ (bundles others : List BundleParts) (b : BundleParts) (split : bundles ≡ b ∷ others) where
  -- the rows of the bundle are behind those before it
  pub list_more : (f : BundleParts → List Row) (old new whole : List Row) → old ++ flat_map f bundles ≡ whole
      → new ≡ old ++ f b → new ++ flat_map f others ≡ whole
  list_more f old new whole there more =
      ap (λ rs. rs ++ flat_map f others) more
      ∙ append_assoc old (f b) (flat_map f others)
      ∙ ap (λ bs. old ++ flat_map f bs) (sym split)
      ∙ there

  -- the test fails in the bundle
  pub few_more : (p : BundleParts → Bool) (whole : Bool) → list_any p bundles ≡ whole → p b ≡ false → list_any p others ≡ whole
  few_more p whole there few =
      ap (λ many. many || list_any p others) (sym few) ∙ ap (list_any p) (sym split) ∙ there

  -- it holds there
  many_there : (p : BundleParts → Bool) (whole : Bool) → list_any p bundles ≡ whole → p b ≡ true → whole ≡ true
  many_there p whole there many =
      sym there ∙ ap (list_any p) split ∙ ap (λ over. over || list_any p others) many

  -- what refuses a bundle refuses all
  pub refused : (fault : MatchFault) (p : BundleParts → Bool) (more old new list : List Row) (whole : Bool) → list_any p bundles ≡ whole
      → AddsRows (Err fault) more (p b) old new → GivesRows (Err fault) list whole
  refused TooManyTuples p more old new list whole there many = many_there p whole there many
  refused Memory p more old new list whole there many = tt
