-- What stands before an ending of a name.
use Rattle.std.proofs.Common.{◌≡◌, ℕ, ◌+◌, ◌-◌, ◌<◌, Bool, true, false, cond, List, [], ◌∷◌, ◌++◌, length, take, drop, get_or, filter_map, nat_eq, Option, None, Some, MatchOption, refl, sym, ◌∙◌, ap}
use Rattle.std.specs.Cmp.Lexicographic.{pointwise}
use Rattle.std.specs.Str.Pattern.{FindsTextSuffix}
use Rattle.std.proofs.lemmas.Bool.Decides.{Decides-eqb}
use Rattle.std.proofs.lemmas.List.{take_more}
use Rattle.std.proofs.lemmas.List.Elements.{filter_map-append}
use Rattle.std.proofs.lemmas.Slice.Eq.{ends_is}
use denote.Ref.{Bor}
use Rattle.emudb_files.specs.Names.{stem}

none_by : (ending name : List ℕ) (front : List ℕ) (b : Bool) → (b ≡ true → ⊥) → cond b (Some front) None ≡ None
none_by ending name front true not_so = absurd (not_so refl)
none_by ending name front false not_so = refl

-- what `strip_suffix` answers
pub stem_is : (ending name : List ℕ) (r : Option (Bor (List ℕ)))
    → MatchOption r (FindsTextSuffix ending name None) (λ x. (n : ℕ) × FindsTextSuffix ending name (Some n)
    × (x.now ≡ take (length name - n) name) × (length x.now + n ≡ length name))
    → MatchOption r (stem ending name ≡ None) (λ x. stem ending name ≡ Some x.now)
stem_is ending name None lacks =
    let test = ends_is Decides-eqb name ending (pointwise nat_eq ending (drop (length name - length ending) name)) refl in
    none_by ending name (take (length name - length ending) name)
    (pointwise nat_eq ending (drop (length name - length ending) name))
    (λ is. lacks (take (length name - length ending) name) (test.0 is))
stem_is ending name (Some x) (n, (long, split, cut), is, fits) =
    let test = ends_is Decides-eqb name ending (pointwise nat_eq ending (drop (length name - length ending) name)) refl in
    ap (λ b. cond b (Some (take (length name - length ending) name)) None) (test.1 (take (length name - n) name) split)
    ∙ ap (λ k. Some (take (length name - k) name)) (sym long) ∙ ap (λ v. Some v) (sym is)

-- what passes among the first values, with one more
pub stems_more : {X Y : Type 0} (h : X → Option Y) (xs : List X) (i : ℕ) (x : X) → i < length xs → x ≡ get_or xs i x
    → filter_map h (take i xs) ++ filter_map h (x ∷ []) ≡ filter_map h (take (i + 1) xs)
stems_more h xs i x low is =
    sym (ap (filter_map h) (take_more xs i x low ∙ ap (λ v. take i xs ++ v ∷ []) (sym is)) ∙ filter_map-append h (take i xs) (x ∷ []))
