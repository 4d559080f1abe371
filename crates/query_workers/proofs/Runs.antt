-- Runs of places: cut in two, and gone through from the front.
use Rattle.std.proofs.Common.{◌≡◌, ◌≤◌, ◌<◌, ℕ, zero, suc, ◌+◌, ◌-◌, ◌*◌, ◌/◌, Bool, ◌||◌, List, [], ◌∷◌, ◌++◌, length, take, drop, slice_get, add-one, Some, Result, ap, sym, subst, ◌∙◌, refl, arith, map}
use Rattle.std.specs.List.{flat_map, list_any}
use Rattle.std.proofs.lemmas.Grind.{flat_map-append}
use Rattle.std.proofs.lemmas.List.{drop-drop, map-append, take_all}
use Rattle.std.proofs.lemmas.List.Folds.{list_any-append}
use Rattle.std.proofs.Math.Seq.{take-add}
use Rattle.eql_match.proofs.of_eql_model.Listed.{from_here}
use Rattle.eql_match.specs.eql_rows.declared.row.Row.{Row}
use Rattle.eql_match.specs.eql_tuples.declared.faults.MatchFault.{MatchFault}
use Rattle.query_workers.specs.declared.question.Question.{Question}
use Rattle.version_tree.specs.Version.{VersionParts, bundles_of}
use Rattle.eql_match.specs.eql_model.Inner.Rows.{GivesRows}
use Rattle.eql_match.specs.bundle_index.Index.{IndexParts}
use Rattle.bundle_state.specs.Bundle.{BundleParts}
use Rattle.query_workers.specs.Inner.Questions.{rows_for, too_many_for}
use Rattle.query_workers.specs.Inner.Runs.{GivesOver, GivesRun, run_of}

-- a run begins with what stands at its first place
pub run_from : {A : Type 0} (list : List A) (place to : ℕ) (x : A) → slice_get list place ≡ Some x → place < to → run_of place to list ≡ x ∷ run_of (place + 1) to list
run_from list place to x here low =
    let one : to - place ≡ suc (to - (place + 1)) = omega (arith, low) in
    ap (take (to - place)) (from_here list place x here) ∙ ap (λ n. take n (x ∷ drop (place + 1) list)) one

-- at its end a run has nothing
pub run_done : {A : Type 0} (list : List A) (place to : ℕ) → to ≤ place → run_of place to list ≡ []
run_done list place to past =
    let none : to - place ≡ 0 = omega (arith, past) in
    ap (λ n. take n (drop place list)) none

-- the run of all places is the list
pub run_all : {A : Type 0} (list : List A) (count : ℕ) → count ≡ length list → run_of 0 count list ≡ list
run_all list count is =
    let same : count - 0 ≡ count = omega arith in
    ap (λ n. take n list) same ∙ take_all count list (omega (arith, is))

module _ {A : Type 0} (list : List A) (from cut to : ℕ) (low : from ≤ cut) (high : cut ≤ to) where
  behind : drop (cut - from) (drop from list) ≡ drop cut list
  behind =
      let place : from + (cut - from) ≡ cut = omega (arith, low) in
      drop-drop (cut - from) from list ∙ ap (λ n. drop n list) place

  -- the two parts of a run are the run
  pub run_cut : run_of from to list ≡ run_of from cut list ++ run_of cut to list
  run_cut =
      let sum : to - from ≡ (cut - from) + (to - cut) = omega (arith, low, high) in
      ap (λ n. take n (drop from list)) sum
      ∙ take-add (cut - from) (to - cut) (drop from list)
      ∙ ap (λ rest. take (cut - from) (drop from list) ++ take (to - cut) rest) behind

module _ (result : Result (List Row) MatchFault) (question : Question) (version : VersionParts) (from cut to : ℕ) (low : from ≤ cut) (high : cut ≤ to) where
  abbrev pub rows_at : BundleParts → List Row
  rows_at b = rows_for question version.config b

  abbrev pub many_at : BundleParts → Bool
  many_at b = too_many_for question version.config b

  abbrev pub first : List BundleParts
  first = bundles_of (run_of from cut version.bundles)

  abbrev pub second : List BundleParts
  second = bundles_of (run_of cut to version.bundles)

  -- what is answered over both parts is answered over the run
  pub run_joined : GivesRows result (flat_map rows_at first ++ flat_map rows_at second) (list_any many_at first || list_any many_at second) → GivesRun result question version from to
  run_joined given =
      let parts = ap bundles_of (run_cut version.bundles from cut to low high) ∙ map-append (λ (x : IndexParts). x.bundle) (run_of from cut version.bundles) (run_of cut to version.bundles) in
      subst (λ bundles. GivesOver result question version bundles) (sym parts)
      (subst (λ rows. GivesRows result rows (list_any many_at (first ++ second))) (sym (flat_map-append rows_at first second))
      (subst (λ many. GivesRows result (flat_map rows_at first ++ flat_map rows_at second) many) (sym (list_any-append many_at first second)) given))
