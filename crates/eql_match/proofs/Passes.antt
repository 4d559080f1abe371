-- What two passes put together, one for each side that may cover the other.
use Rattle.std.proofs.Common.{◌≡◌, ℕ, Bool, true, false, ◌||◌, ◌&&◌, List, [], ◌∷◌, ◌++◌, length, Result, Err, refl, sym, ap, subst, ◌∙◌}
use Rattle.std.specs.Prelude.{All}
use Rattle.std.specs.List.{flat_map, list_any}
use Rattle.std.specs.BTreeMap.{is_at}
use Rattle.std.proofs.lemmas.List.Elements.{All-weaker}
use Rattle.std.proofs.lemmas.List.Folds.{list_any-append}
use Rattle.bundle_state.specs.Bundle.{BundleParts}
use Rattle.hier_closure.specs.Dominance.{ids_at, closure_of}
use Rattle.eql_tuples.specs.declared.tuple.Tuple.{Tuple}
use Rattle.eql_tuples.specs.declared.faults.MatchFault.{MatchFault}
use Rattle.eql_tuples.specs.declared.faults.MatchFault.TheVariants.{TooManyTuples, Memory}
use Rattle.eql_tuples.specs.Sets.{tuple_cmp, has, put_all, is_over}
use Rattle.eql_tuples.specs.Inner.Sets.{GivesSet}
use Rattle.eql_tuples.specs.Tuples.{fits_in, left_with, pairs_with, joined}
use Rattle.eql_model.specs.Covers.{one_covers}
use Rattle.eql_model.specs.Inner.Joins.{bits_cover}
use Rattle.eql_model.specs.Meaning.{LieOn}
use Rattle.level_items.specs.Levels.{items_at}
use Rattle.eql_model.proofs.Between.{ids_count, rows_count, rows_wide}
use Rattle.eql_model.proofs.Covers.{dominance_is}
use Rattle.eql_tuples.proofs.Gathers.{put_all_parts, over_stays}
use Rattle.eql_tuples.proofs.Members.{has_once, joined_has, same_once}
use Rattle.eql_match.specs.Inner.Ways.{with_left, covering_pairs, covered_pairs}

-- ---- members

or_four : (a b c d : Bool) → ((a || b) || (c || d)) ≡ ((a || c) || (b || d))
or_four true b c d = refl
or_four false true true d = refl
or_four false true false d = refl
or_four false false c d = refl

any_or : {X : Type 0} (f g : X → Bool) (xs : List X) → list_any (λ x. f x || g x) xs ≡ (list_any f xs || list_any g xs)
any_or f g [] = refl
any_or f g (x ∷ xs) =
    ap (λ b. (f x || g x) || b) (any_or f g xs) ∙ or_four (f x) (g x) (list_any f xs) (list_any g xs)

any_nothing : {X : Type 0} (xs : List X) → false ≡ list_any (λ x. false) xs
any_nothing [] = refl
any_nothing (x ∷ xs) = any_nothing xs

any_swap : {X Y : Type 0} (p : X → Y → Bool) (xs : List X) (ys : List Y) →
    list_any (λ x. list_any (λ y. p x y) ys) xs ≡ list_any (λ y. list_any (λ x. p x y) xs) ys
any_swap p [] ys = any_nothing ys
any_swap p (x ∷ xs) ys =
    ap (λ b. list_any (λ y. p x y) ys || b) (any_swap p xs ys)
    ∙ sym (any_or (λ y. p x y) (λ y. list_any (λ z. p z y) xs) ys)

or_and : (a b c : Bool) → ((a && c) || (b && c)) ≡ ((a || b) && c)
or_and true true true = refl
or_and true true false = refl
or_and true false true = refl
or_and true false false = refl
or_and false b c = refl

pairs_have : (goes : Tuple → Tuple → Bool) (make : Tuple → Tuple → Tuple) (ls rs : List Tuple) (q : Tuple) →
    has (flat_map (pairs_with goes make rs) ls) q
    ≡ list_any (λ l. list_any (λ r. goes l r && is_at (tuple_cmp q) (make l r)) rs) ls
pairs_have goes make ls rs q = sym (has_once (flat_map (pairs_with goes make rs) ls) q) ∙ joined_has goes make ls rs q

module _ (down up : Tuple → Tuple → Bool) (ls rs : List Tuple) where
  passes_have : (q : Tuple) →
      has (flat_map (pairs_with down left_with rs) ls ++ flat_map (pairs_with up with_left ls) rs) q
      ≡ has (flat_map (pairs_with (λ l r. down l r || up r l) left_with rs) ls) q
  passes_have q =
      list_any-append (is_at (tuple_cmp q)) (flat_map (pairs_with down left_with rs) ls) (flat_map (pairs_with up with_left ls) rs)
      ∙ (λ i. pairs_have down left_with ls rs q i || pairs_have up with_left rs ls q i)
      ∙ ap (λ b. list_any (λ l. list_any (λ r. down l r && is_at (tuple_cmp q) (left_with l r)) rs) ls || b)
      (any_swap (λ r l. up r l && is_at (tuple_cmp q) (left_with l r)) rs ls)
      ∙ sym (any_or (λ l. list_any (λ r. down l r && is_at (tuple_cmp q) (left_with l r)) rs)
      (λ l. list_any (λ r. up r l && is_at (tuple_cmp q) (left_with l r)) rs) ls)
      ∙ (λ i. list_any (λ l. inner l i) ls)
      ∙ sym (pairs_have (λ l r. down l r || up r l) left_with ls rs q)
    where
      inner : (l : Tuple) →
          (list_any (λ r. down l r && is_at (tuple_cmp q) (left_with l r)) rs
          || list_any (λ r. up r l && is_at (tuple_cmp q) (left_with l r)) rs)
          ≡ list_any (λ r. (down l r || up r l) && is_at (tuple_cmp q) (left_with l r)) rs
      inner l =
          sym (any_or (λ r. down l r && is_at (tuple_cmp q) (left_with l r)) (λ r. up r l && is_at (tuple_cmp q) (left_with l r)) rs)
          ∙ (λ i. list_any (λ r. or_and (down l r) (up r l) (is_at (tuple_cmp q) (left_with l r)) i) rs)

  pub both_passes : put_all (put_all [] (flat_map (pairs_with down left_with rs) ls)) (flat_map (pairs_with up with_left ls) rs)
      ≡ joined (λ l r. down l r || up r l) left_with ls rs
  both_passes =
      sym (put_all_parts [] (flat_map (pairs_with down left_with rs) ls) (flat_map (pairs_with up with_left ls) rs))
      ∙ same_once (flat_map (pairs_with down left_with rs) ls ++ flat_map (pairs_with up with_left ls) rs)
      (flat_map (pairs_with (λ l r. down l r || up r l) left_with rs) ls) passes_have

-- ---- tuples lie on the levels of the rows

pub ones_fit : (b : BundleParts) (lower upper : ℕ) (rows : List (List Bool)) (ts : List Tuple) → rows ≡ closure_of b lower upper →
    LieOn b.levels upper ts → All (λ t. fits_in (length rows) t ≡ true) ts
ones_fit b lower upper rows ts are lie =
    subst (λ (n : ℕ). All (λ t. fits_in n t ≡ true) ts) (sym (ap length are ∙ rows_count b lower upper)) lie

pub others_fit : (b : BundleParts) (lower upper : ℕ) (rows : List (List Bool)) (ts : List Tuple) → rows ≡ closure_of b lower upper →
    LieOn b.levels lower ts → All (λ t. All (λ row. fits_in (length row) t ≡ true) rows) ts
others_fit b lower upper rows ts are lie =
    All-weaker (λ t. fits_in (length (items_at b.levels lower)) t ≡ true) (λ t. All (λ row. fits_in (length row) t ≡ true) rows)
    (λ t fits.
    subst (λ (rs : List (List Bool)). All (λ row. fits_in (length row) t ≡ true) rs) (sym are)
    (All-weaker (λ row. length row ≡ length (items_at b.levels lower)) (λ row. fits_in (length row) t ≡ true)
    (λ row wide. ap (λ n. fits_in n t) wide ∙ fits) (closure_of b lower upper) (rows_wide b lower upper)))
    ts lie

by_ids : (b : BundleParts) (level : ℕ) (ts : List Tuple) → LieOn b.levels level ts →
    All (λ t. fits_in (length (ids_at b.levels level)) t ≡ true) ts
by_ids b level ts lie = subst (λ (n : ℕ). All (λ t. fits_in n t ≡ true) ts) (ids_count b.levels level) lie

-- ---- a dominance

pub covering_is : (b : BundleParts) (levels : ℕ × ℕ) (rows : List (List Bool)) (ls rs : List Tuple) → rows ≡ closure_of b levels.1 levels.0 →
    flat_map (pairs_with (bits_cover rows) left_with rs) ls ≡ covering_pairs b levels ls rs
covering_is b levels rows ls rs are = ap (λ rows. flat_map (pairs_with (bits_cover rows) left_with rs) ls) are

pub covered_is : (b : BundleParts) (levels : ℕ × ℕ) (rows : List (List Bool)) (ls rs : List Tuple) → rows ≡ closure_of b levels.0 levels.1 →
    flat_map (pairs_with (bits_cover rows) with_left ls) rs ≡ covered_pairs b levels ls rs
covered_is b levels rows ls rs are = ap (λ rows. flat_map (pairs_with (bits_cover rows) with_left ls) rs) are

-- the set of a dominance
abbrev pub dominance_set : BundleParts → ℕ × ℕ → List Tuple → List Tuple → List Tuple
dominance_set b levels ls rs =
    joined (one_covers b.links (ids_at b.levels levels.0) (ids_at b.levels levels.1)) left_with ls rs

set_is : (b : BundleParts) (levels : ℕ × ℕ) (ls rs : List Tuple) → LieOn b.levels levels.0 ls → LieOn b.levels levels.1 rs →
    put_all (put_all [] (covering_pairs b levels ls rs)) (covered_pairs b levels ls rs) ≡ dominance_set b levels ls rs
set_is b levels ls rs left right =
    both_passes (bits_cover (closure_of b levels.1 levels.0)) (bits_cover (closure_of b levels.0 levels.1)) ls rs
    ∙ dominance_is b levels.0 levels.1 ls rs (by_ids b levels.0 ls left) (by_ids b levels.1 rs right)

pub first_err : (b : BundleParts) (levels : ℕ × ℕ) (ls rs : List Tuple) (empty : List Tuple) (fault : MatchFault) →
    LieOn b.levels levels.0 ls → LieOn b.levels levels.1 rs → empty ≡ [] →
    (fault ≡ TooManyTuples → is_over (put_all empty (covering_pairs b levels ls rs)) ≡ true) →
    GivesSet (Err fault) (dominance_set b levels ls rs)
first_err b levels ls rs empty TooManyTuples left right none over =
    ap is_over (sym (set_is b levels ls rs left right))
    ∙ over_stays (put_all [] (covering_pairs b levels ls rs)) (covered_pairs b levels ls rs)
    (ap (λ g. is_over (put_all g (covering_pairs b levels ls rs))) (sym none) ∙ over refl)
first_err b levels ls rs empty Memory left right none over = tt

pub second_err : (b : BundleParts) (levels : ℕ × ℕ) (ls rs : List Tuple) (empty mid : List Tuple) (fault : MatchFault) →
    LieOn b.levels levels.0 ls → LieOn b.levels levels.1 rs → empty ≡ [] → mid ≡ put_all empty (covering_pairs b levels ls rs) →
    (fault ≡ TooManyTuples → is_over (put_all mid (covered_pairs b levels ls rs)) ≡ true) →
    GivesSet (Err fault) (dominance_set b levels ls rs)
second_err b levels ls rs empty mid TooManyTuples left right none is over =
    ap is_over (sym (set_is b levels ls rs left right))
    ∙ ap (λ g. is_over (put_all g (covered_pairs b levels ls rs)))
    (sym (is ∙ ap (λ g. put_all g (covering_pairs b levels ls rs)) none))
    ∙ over refl
second_err b levels ls rs empty mid Memory left right none is over = tt

pub both_put : (b : BundleParts) (levels : ℕ × ℕ) (ls rs : List Tuple) (empty mid last : List Tuple) (r : Result (List Tuple) MatchFault) →
    LieOn b.levels levels.0 ls → LieOn b.levels levels.1 rs → empty ≡ [] → mid ≡ put_all empty (covering_pairs b levels ls rs) →
    last ≡ put_all mid (covered_pairs b levels ls rs) → GivesSet r last → GivesSet r (dominance_set b levels ls rs)
both_put b levels ls rs empty mid last r left right none is put told =
    subst (GivesSet r)
    (put ∙ ap (λ g. put_all g (covered_pairs b levels ls rs)) (is ∙ ap (λ g. put_all g (covering_pairs b levels ls rs)) none)
    ∙ set_is b levels ls rs left right)
    told
