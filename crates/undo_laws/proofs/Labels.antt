-- Labels that are put back by the names of their attributes, on an item whose labels are empty.
use Rattle.std.proofs.Common.{◌≡◌, ℕ, suc, ◌+◌, ◌==◌, Bool, true, false, cond, not, List, [], ◌∷◌, ◌++◌, length, refl, sym, ap, ◌∙◌, append_assoc, add-one, Result, Ok, eqb-true, arith}
use Rattle.std.specs.Prelude.{replicate}
use Rattle.std.specs.List.{filter, list_all, slice_set}
use Rattle.std.proofs.lemmas.Bool.{true≢false, and_parts}
use Rattle.std.proofs.lemmas.List.{length_push, set_at}
use Rattle.emu_names.specs.Steps.{onward}
use Rattle.level_items.specs.declared.annot.AnnotLabel.{AnnotLabel}
use Rattle.level_items.specs.Levels.{is_short}
use Rattle.db_config.specs.declared.attributes.AttributeDef.{AttributeDef}
use Rattle.annot_json.specs.Given.{given_label, given_labels}
use Rattle.edit_undo.specs.Inverse.{is_labelled}
use Rattle.undo_laws.proofs.Steps.{in_turn}

onto : {A : Type 0} (done : List A) (x : A) (rest : List A) → (done ++ x ∷ []) ++ rest ≡ done ++ x ∷ rest
onto done x rest = append_assoc done (x ∷ []) rest

longer : {A : Type 0} (done : List A) (x : A) → length (done ++ x ∷ []) ≡ suc (length done)
longer done x = length_push done x ∙ add-one (length done)

-- a label that is not put is empty
none_of : (t : List ℕ) → not (length t == 0) ≡ false → t ≡ []
none_of [] is = refl
none_of (c ∷ cs) is = by (length (c ∷ cs) == 0) refl is
  where
    by : (b : Bool) → (length (c ∷ cs) == 0) ≡ b → not b ≡ false → c ∷ cs ≡ []
    by true e h = let no = eqb-true (length (c ∷ cs)) 0 e in absurd (omega (arith, no))
    by false e h = absurd (true≢false h)

module _ {S F : Type 0} (put : AnnotLabel → S → Result S F) (state : List (List ℕ) → S) (whole : List AttributeDef)
    (goes : (front : List AttributeDef) (d : AttributeDef) (back : List AttributeDef) (t : List ℕ) (ls : List (List ℕ)) → whole ≡ front ++ d ∷ back → is_short t ≡ true →
    put (given_label d t) (state ls) ≡ Ok (state (slice_set ls (length front) t))) where
  pub labels_from : (front back : List AttributeDef) (done xs : List (List ℕ)) → whole ≡ front ++ back → length front ≡ length done → length back ≡ length xs → list_all is_short xs ≡ true →
      in_turn put (filter is_labelled (given_labels back xs)) (state (done ++ replicate (length xs) [])) ≡ Ok (state (done ++ xs))
  labels_from front [] done [] e here same short = refl
  labels_from front [] done (x ∷ xs) e here same short = let no : ⊥ = omega (arith, same) in absurd no
  labels_from front (d ∷ back) done [] e here same short = let no : ⊥ = omega (arith, same) in absurd no
  labels_from front (d ∷ back) done (x ∷ xs) e here same short =
      let parts = and_parts (is_short x) (list_all is_short xs) short in
      let one = longer front d in
      let two = longer done x in
      by (
      ap (λ zs. in_turn put (filter is_labelled (given_labels back xs)) (state zs)) (sym (onto done x (replicate (length xs) [])))
      ∙ labels_from (front ++ d ∷ []) back (done ++ x ∷ []) xs (e ∙ sym (onto front d back)) (one ∙ ap suc here ∙ sym two) (omega (arith, same)) parts.1
      ∙ ap (λ zs. Ok (state zs)) (onto done x xs)
      ) parts.0 (is_labelled (given_label d x)) refl
    where
      by : in_turn put (filter is_labelled (given_labels back xs)) (state (done ++ x ∷ replicate (length xs) [])) ≡ Ok (state (done ++ x ∷ xs)) → is_short x ≡ true →
          (b : Bool) → not (length x == 0) ≡ b →
          in_turn put (cond b (given_label d x ∷ filter is_labelled (given_labels back xs)) (filter is_labelled (given_labels back xs))) (state (done ++ [] ∷ replicate (length xs) []))
          ≡ Ok (state (done ++ x ∷ xs))
      by rest low true is =
          ap (λ r. onward r (λ t. in_turn put (filter is_labelled (given_labels back xs)) t))
          (goes front d back x (done ++ [] ∷ replicate (length xs) []) e low
          ∙ ap (λ (n : ℕ). Ok (state (slice_set (done ++ [] ∷ replicate (length xs) []) n x))) here
          ∙ ap (λ zs. Ok (state zs)) (set_at done [] (replicate (length xs) []) x (length done) refl))
          ∙ rest
      by rest low false is =
          ap (λ (y : List ℕ). in_turn put (filter is_labelled (given_labels back xs)) (state (done ++ y ∷ replicate (length xs) []))) (sym (none_of x is))
          ∙ rest
