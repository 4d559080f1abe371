-- What holds of all tuples of a set, and of all that are joined.
use Rattle.std.proofs.Common.{◌≡◌, Bool, true, false, cond, List, [], ◌∷◌, map, refl, sym, subst}
use Rattle.std.specs.Prelude.{All}
use Rattle.std.specs.List.{filter, flat_map}
use Rattle.std.specs.BTreeSet.{insert_key}
use Rattle.std.proofs.lemmas.List.Concat.{flat_map-cons}
use Rattle.std.proofs.lemmas.List.Elements.{All-nil, All-cons, All-head, All-tail, All-append}
use Rattle.std.proofs.lemmas.Map.Views.{All-insert_key}
use Rattle.eql_tuples.specs.declared.tuple.Tuple.{Tuple}
use Rattle.eql_tuples.specs.Sets.{tuple_cmp, put_all, each_once}
use Rattle.eql_tuples.specs.Tuples.{pairs_with, joined}

pub all_put : (P : Tuple → Type 0) (set ts : List Tuple) → All P set → All P ts → All P (put_all set ts)
all_put P set [] here there = here
all_put P set (t ∷ ts) here there =
    all_put P (insert_key tuple_cmp set t) ts (All-insert_key tuple_cmp t P set here (All-head P t ts there)) (All-tail P t ts there)

pub all_once : (P : Tuple → Type 0) (ts : List Tuple) → All P ts → All P (each_once ts)
all_once P ts there = all_put P [] ts (All-nil P) there

kept_all : (b : Bool) (P R : Tuple → Type 0) (f : Tuple → Tuple) (r : Tuple) (kept : List Tuple) → (b ≡ true → R (f r)) →
    All R (map f kept) → All R (map f (cond b (r ∷ kept) kept))
kept_all true P R f r kept one rest = All-cons R (f r) (map f kept) (one refl) rest
kept_all false P R f r kept one rest = rest

pairs_all : (goes : Tuple → Tuple → Bool) (make : Tuple → Tuple → Tuple) (P R : Tuple → Type 0) (l : Tuple) →
    ((r : Tuple) → P r → goes l r ≡ true → R (make l r)) → (rs : List Tuple) → All P rs → All R (pairs_with goes make rs l)
pairs_all goes make P R l one [] all = All-nil R
pairs_all goes make P R l one (r ∷ rs) all =
    kept_all (goes l r) P R (make l) r (filter (goes l) rs) (one r (All-head P r rs all))
    (pairs_all goes make P R l one rs (All-tail P r rs all))

all_pairs : (goes : Tuple → Tuple → Bool) (make : Tuple → Tuple → Tuple) (L P R : Tuple → Type 0) →
    ((l r : Tuple) → L l → P r → goes l r ≡ true → R (make l r)) → (ls rs : List Tuple) → All L ls → All P rs →
    All R (flat_map (pairs_with goes make rs) ls)
all_pairs goes make L P R one [] rs left right = All-nil R
all_pairs goes make L P R one (l ∷ ls) rs left right =
    subst (All R) (sym (flat_map-cons (pairs_with goes make rs) l ls))
    (All-append R (pairs_with goes make rs l) (flat_map (pairs_with goes make rs) ls)
    (pairs_all goes make P R l (λ r fits goes_it. one l r (All-head L l ls left) fits goes_it) rs right)
    (all_pairs goes make L P R one ls rs (All-tail L l ls left) right))

pub all_joined : (goes : Tuple → Tuple → Bool) (make : Tuple → Tuple → Tuple) (L P R : Tuple → Type 0) →
    ((l r : Tuple) → L l → P r → goes l r ≡ true → R (make l r)) → (ls rs : List Tuple) → All L ls → All P rs →
    All R (joined goes make ls rs)
all_joined goes make L P R one ls rs left right =
    all_once R (flat_map (pairs_with goes make rs) ls) (all_pairs goes make L P R one ls rs left right)
