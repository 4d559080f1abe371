-- What a user can check of labels, numbers, times and lists.
use Rattle.std.proofs.Common.{◌≡◌, ℕ, ◌+◌, ◌-◌, Bool, true, false, cond, ◌||◌, ◌&&◌, ◌==◌, not, nat_le, nat_lt, List, [], ◌∷◌, ◌++◌, length, refl, sym, ap, ◌∙◌, arith, append-nil}
use Rattle.std.specs.Prelude.{All}
use Rattle.std.specs.List.{filter, flat_map, list_any}
use Rattle.std.proofs.lemmas.Bool.Decides.{nat_tests}
use Rattle.std.proofs.lemmas.List.Concat.{flat_map-cons, flat_map-append}
use Rattle.std.proofs.lemmas.List.Elements.{All-head, All-tail}
use Rattle.emu_names.specs.Texts.{same_text}
use Rattle.level_items.specs.Levels.{label_of}
use Rattle.hier_closure.specs.Dominance.{dominates, ids_at}
use Rattle.eql_model.specs.Labels.{stands_for}
use Rattle.eql_model.specs.Positions.{below}
use Rattle.eql_model.specs.Rows.{rows}
use Rattle.eql_laws.specs.Laws.{GroupsAreTheirValues, LabelsAreAlternatives, NumbersCompare, ZeroIsNone, BundlesKeepTheirRows}

-- ---- labels

any_both : {A : Type 0} (p : A → Bool) (xs ys : List A) → list_any p (xs ++ ys) ≡ (list_any p xs || list_any p ys)
any_both p [] ys = refl
any_both p (x ∷ xs) ys = ap (λ b. p x || b) (any_both p xs ys) ∙ or_of (p x) (list_any p xs) (list_any p ys)
  where
    or_of : (a b c : Bool) → (a || (b || c)) ≡ ((a || b) || c)
    or_of true b c = refl
    or_of false b c = refl

pub alternatives : LabelsAreAlternatives
alternatives c b marked place labels others item =
    ap (list_any (same_text (label_of place.attribute item))) (flat_map-append (stands_for c place) labels others)
    ∙ any_both (same_text (label_of place.attribute item)) (flat_map (stands_for c place) labels) (flat_map (stands_for c place) others)

themselves : {A : Type 0} (f : A → List A) (xs : List A) → All (λ x. f x ≡ x ∷ []) xs → flat_map f xs ≡ xs
themselves f [] all = refl
themselves f (x ∷ xs) all =
    flat_map-cons f x xs
    ∙ ap (λ ys. ys ++ flat_map f xs) (All-head (λ y. f y ≡ y ∷ []) x xs all)
    ∙ ap (λ ys. x ∷ ys) (themselves f xs (All-tail (λ y. f y ≡ y ∷ []) x xs all))

pub values_of_group : GroupsAreTheirValues
values_of_group c b marked place name values item stands alone =
    ap (list_any (same_text (label_of place.attribute item)))
    (flat_map-cons (stands_for c place) name [] ∙ append-nil (stands_for c place name) ∙ stands
    ∙ sym (themselves (stands_for c place) values alone))

-- ---- numbers

five : (m n : ℕ) → (not (m == n) ≡ not (m == n)) × (nat_le n m ≡ not (nat_lt m n)) × (nat_le m n ≡ not (nat_lt n m))
    × ((m == n) ≡ (nat_le m n && nat_le n m)) × ((nat_lt m n && nat_lt n m) ≡ false)
five m n = (refl, grind (arith, nat_tests), grind (arith, nat_tests), grind (arith, nat_tests), grind (arith, nat_tests))

pub numbers : NumbersCompare
numbers c b marked upper lower n item = five (length (below b.links (ids_at b.levels lower) item.id.0)) n

none_step : {A : Type 0} (b : Bool) (x : A) (kept : List A) (rest : Bool) → (length kept == 0) ≡ not rest → (length (cond b (x ∷ kept) kept) == 0) ≡ not (b || rest)
none_step true x kept rest later = grind (arith, nat_tests)
none_step false x kept rest later = later

none_kept : {A : Type 0} (p : A → Bool) (xs : List A) → (length (filter p xs) == 0) ≡ not (list_any p xs)
none_kept p [] = refl
none_kept p (x ∷ xs) = none_step (p x) x (filter p xs) (list_any p xs) (none_kept p xs)

pub zero_none : ZeroIsNone
zero_none c b marked upper lower item = none_kept (dominates b.links item.id.0) (ids_at b.levels lower)

-- ---- times

-- ---- lists

pub rows_kept : BundlesKeepTheirRows
rows_kept c before behind b a = (
  flat_map-append (λ x. rows c x a) before behind,
  flat_map-append (λ x. rows c x a) before (b ∷ behind) ∙ ap (λ rs. flat_map (λ x. rows c x a) before ++ rs) (flat_map-cons (λ x. rows c x a) b behind),
)
