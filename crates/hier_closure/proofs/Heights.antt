-- Links lead down from level to level, and what is dominated stands on a level below.
use Rattle.std.proofs.Common.{◌≡◌, ℕ, zero, suc, ◌+◌, ◌<◌, ◌≤◌, Bool, true, false, not, cond, List, [], ◌∷◌, ◌++◌, length, get_or, refl, sym, ap, ◌∙◌, subst, Option, Some, arith, ⊎_elim, count_by, take}
use Rattle.std.specs.Prelude.{IsTrue}
use Rattle.std.specs.List.{slice_get, All, Contains, range_with_len}
use Rattle.std.proofs.lemmas.Bool.{and_parts, not-true, cases_Bool}
use Rattle.std.proofs.lemmas.List.Elements.{All-head, All-tail}
use Rattle.std.proofs.lemmas.List.{length-map, take_all}
use Rattle.std.proofs.lemmas.Grind.{common_steps}
use Rattle.std.proofs.lemmas.List.Sums.{sum_by-cons, count_by-le-length, count_by_more_yes, count_by_more_no}
use Rattle.std.proofs.lemmas.List.FromFn.{length-range_with_len, get_or-range_with_len}
use Rattle.link_graph.specs.declared.link.Link.{Link}
use Rattle.link_graph.specs.Index.{is_pair}
use Rattle.db_config.specs.declared.parts.LinkDef.{LinkDef}
use Rattle.db_config.specs.declared.parts.ConfigParts.{ConfigParts}
use Rattle.db_config.specs.Above.{IsPath, IsAbove, is_above, leads_round}
use Rattle.db_config.specs.Valid.{is_valid, keeps_rules}
use Rattle.db_config.proofs.Above.{here, later, sound, complete, cycles_found}
use Rattle.bundle_state.specs.Bundle.{BundleParts}
use Rattle.bundle_state.specs.Built.{FitsConfig, form_of, form_asked}
use Rattle.bundle_state.specs.Linked.{IsBetween}
use Rattle.hier_closure.specs.Dominance.{links_to, dominates}
use Rattle.hier_closure.specs.Inner.Ranks.{rank_of}
use Rattle.hier_closure.proofs.Ways.{Way, or_split, or_left, or_right, pair_from, pair_to}
use Rattle.hier_closure.proofs.Ways as ways

-- ---- definitions one after another

append_path : (defs : List LinkDef) (a b c : ℕ) (path rest : List LinkDef) → IsPath defs a path b → IsPath defs b rest c → IsPath defs a (path ++ rest) c
append_path defs a b c [] rest p q = subst (λ n. IsPath defs n rest c) (sym p) q
append_path defs a b c (e ∷ path) rest p q = (p.0, p.1, append_path defs e.lower b c path rest p.2 q)

join_above : (defs : List LinkDef) (a b c : ℕ) → IsAbove defs a b → IsAbove defs b c → IsAbove defs a c
join_above defs a b c p q =
    let path : IsPath defs a (p.0 ∷ p.1.0) b = p.1.1 in
    let more : IsPath defs b (q.0 ∷ q.1.0) c = q.1.1 in
    (p.0, (p.1.0 ++ q.0 ∷ q.1.0, append_path defs a b c (p.0 ∷ p.1.0) (q.0 ∷ q.1.0) path more))

pub above_trans : (defs : List LinkDef) (a b c : ℕ) → is_above defs a b ≡ true → is_above defs b c ≡ true → is_above defs a c ≡ true
above_trans defs a b c p q = complete defs a c (join_above defs a b c (sound defs a b p) (sound defs b c q))

pub not_above_self : (config : ConfigParts) (n : ℕ) → IsTrue (is_valid config) → is_above config.links n n ≡ false
not_above_self config n valid =
    let parts = and_parts (keeps_rules config) (not (leads_round config.links)) valid in
    let straight : leads_round config.links ≡ false = not-true _ parts.1 in
    ⊎_elim
    (λ (round : is_above config.links n n ≡ true). absurd ((cycles_found config.links).0 straight n (sound config.links n n round)))
    (λ (none : is_above config.links n n ≡ false). none)
    (cases_Bool (is_above config.links n n))

contains_at : (defs : List LinkDef) (k : ℕ) (d : LinkDef) → slice_get defs k ≡ Some d → Contains defs d
contains_at [] k d h = absurd cc
contains_at (x ∷ defs) zero d h = let same : x ≡ d = cc in subst (λ y. Contains (x ∷ defs) y) same (here x defs)
contains_at (x ∷ defs) (suc k) d h = later x d defs (contains_at defs k d h)

pub same_count : (config : ConfigParts) (bundle : BundleParts) → FitsConfig config bundle → length config.levels ≡ length bundle.levels
same_count config bundle fits =
    sym (length-map config.levels form_asked) ∙ ap length (sym fits.levels) ∙ length-map bundle.levels form_of

-- ---- links and levels

-- the levels of two ids, of which the one is above the other
pub record AreAbove (defs : List LinkDef) (level : ℕ → Option ℕ) (a b : ℕ) : Type 0 where
  pub upper : ℕ
  pub lower : ℕ
  pub from : level a ≡ Some upper
  pub to : level b ≡ Some lower
  pub above : is_above defs upper lower ≡ true

link_above : (defs : List LinkDef) (level : ℕ → Option ℕ) (l : Link) (a b : ℕ) → IsBetween defs level l → is_pair a b l ≡ true → AreAbove defs level a b
link_above defs level l a b between pair = record {
  upper = between.def.upper;
  lower = between.def.lower;
  from = ap level (sym (pair_from l a b pair)) ∙ between.from;
  to = ap level (sym (pair_to l a b pair)) ∙ between.to;
  above = complete defs between.def.upper between.def.lower
      (between.def, ([], (contains_at defs l.definition between.def between.defined, refl, refl)));
}

pub links_above : (defs : List LinkDef) (level : ℕ → Option ℕ) (links : List Link) (a b : ℕ) → All (IsBetween defs level) links →
    links_to links a b ≡ true → AreAbove defs level a b
links_above defs level [] a b all h = absurd cc
links_above defs level (l ∷ links) a b all h =
    ⊎_elim
    (λ (pair : is_pair a b l ≡ true). link_above defs level l a b (All-head (IsBetween defs level) l links all) pair)
    (λ (rest : links_to links a b ≡ true). links_above defs level links a b (All-tail (IsBetween defs level) l links all) rest)
    (or_split (is_pair a b l) (links_to links a b) h)

same_level : (n m : ℕ) (o : Option ℕ) → o ≡ Some n → o ≡ Some m → n ≡ m
same_level n m o p q = cc

pub way_above : (defs : List LinkDef) (level : ℕ → Option ℕ) (links : List Link) (a b : ℕ) → All (IsBetween defs level) links → Way links a b →
    AreAbove defs level a b
way_above defs level links a b all (ways.linked h) = links_above defs level links a b all h
way_above defs level links a b all (ways.further {b = m} h p) =
    let step : AreAbove defs level a m = links_above defs level links a m all h in
    let rest : AreAbove defs level m b = way_above defs level links m b all p in
    let same : rest.upper ≡ step.lower = same_level rest.upper step.lower (level m) rest.from step.to in
    record {
      upper = step.upper;
      lower = rest.lower;
      from = step.from;
      to = rest.to;
      above = above_trans defs step.upper step.lower rest.lower step.above (subst (λ n. is_above defs n rest.lower ≡ true) same rest.above);
    }

-- an item does not dominate one on a level that is not below its own
pub none_below : (defs : List LinkDef) (level : ℕ → Option ℕ) (links : List Link) (a b n m : ℕ) → All (IsBetween defs level) links →
    level a ≡ Some n → level b ≡ Some m → is_above defs n m ≡ false → dominates links a b ≡ false
none_below defs level links a b n m all from to not_above =
    ⊎_elim
    (λ (h : dominates links a b ≡ true).
    let found : AreAbove defs level a b = way_above defs level links a b all (ways.sound links a b h) in
    let up : found.upper ≡ n = same_level found.upper n (level a) found.from from in
    let down : found.lower ≡ m = same_level found.lower m (level b) found.to to in
    let above : is_above defs n m ≡ true =
    subst (λ k. is_above defs n k ≡ true) down (subst (λ k. is_above defs k found.lower ≡ true) up found.above) in
    absurd cc)
    (λ (h : dominates links a b ≡ false). h)
    (cases_Bool (dominates links a b))

-- ---- ranks

-- what an element adds to a count
abbrev pub weight : Bool → ℕ
weight b = cond b 1 0

count_cons : (p : ℕ → Bool) (x : ℕ) (xs : List ℕ) → count_by p (x ∷ xs) ≡ weight (p x) + count_by p xs
count_cons p x xs = sum_by-cons (λ y. weight (p y)) x xs

one_le : (a b : Bool) → (a ≡ true → b ≡ true) → weight a ≤ weight b
one_le true true h = omega arith
one_le true false h = let never : false ≡ true = h refl in absurd cc
one_le false true h = omega arith
one_le false false h = omega arith

count_le : (p q : ℕ → Bool) (xs : List ℕ) → ((x : ℕ) → p x ≡ true → q x ≡ true) → count_by p xs ≤ count_by q xs
count_le p q [] inside = omega arith
count_le p q (x ∷ xs) inside =
    let rest : count_by p xs ≤ count_by q xs = count_le p q xs inside in
    let first : weight (p x) ≤ weight (q x) = one_le (p x) (q x) (inside x) in
    let left : count_by p (x ∷ xs) ≡ weight (p x) + count_by p xs = count_cons p x xs in
    let right : count_by q (x ∷ xs) ≡ weight (q x) + count_by q xs = count_cons q x xs in
    omega arith

count_lt : (p q : ℕ → Bool) (xs : List ℕ) (k : ℕ) → ((x : ℕ) → p x ≡ true → q x ≡ true) → k < length xs →
    p (get_or xs k 0) ≡ false → q (get_or xs k 0) ≡ true → count_by p xs < count_by q xs
count_lt p q [] k inside within fails passes = absurd (omega arith)
count_lt p q (x ∷ xs) zero inside within fails passes =
    let rest : count_by p xs ≤ count_by q xs = count_le p q xs inside in
    let first : weight (p x) ≡ 0 = ap weight fails in
    let second : weight (q x) ≡ 1 = ap weight passes in
    let left : count_by p (x ∷ xs) ≡ weight (p x) + count_by p xs = count_cons p x xs in
    let right : count_by q (x ∷ xs) ≡ weight (q x) + count_by q xs = count_cons q x xs in
    omega arith
count_lt p q (x ∷ xs) (suc k) inside within fails passes =
    let rest : count_by p xs < count_by q xs = count_lt p q xs k inside (omega arith) fails passes in
    let first : weight (p x) ≤ weight (q x) = one_le (p x) (q x) (inside x) in
    let left : count_by p (x ∷ xs) ≡ weight (p x) + count_by p xs = count_cons p x xs in
    let right : count_by q (x ∷ xs) ≡ weight (q x) + count_by q xs = count_cons q x xs in
    omega arith

pub at_place : (count k : ℕ) → k < count → get_or (range_with_len 0 count) k 0 ≡ k
at_place count k within = get_or-range_with_len 0 count k 0 within ∙ refl_plus k
  where
    refl_plus : (x : ℕ) → 0 + x ≡ x
    refl_plus x = omega arith

-- a level has a lower rank than those that it is below
pub rank_lt : (defs : List LinkDef) (count n m : ℕ) → m < count → is_above defs m m ≡ false → is_above defs n m ≡ true →
    rank_of defs count m < rank_of defs count n
rank_lt defs count n m within self above =
    let at : get_or (range_with_len 0 count) m 0 ≡ m = at_place count m within in
    let long : length (range_with_len 0 count) ≡ count = length-range_with_len 0 count in
    count_lt (is_above defs m) (is_above defs n) (range_with_len 0 count) m (λ x h. above_trans defs n m x above h) (omega arith)
    (ap (is_above defs m) at ∙ self) (ap (is_above defs n) at ∙ above)

-- the rank among the first levels
abbrev pub rank_to : List LinkDef → ℕ → ℕ → ℕ → ℕ
rank_to defs count level k = count_by (is_above defs level) (take k (range_with_len 0 count))

pub rank_more : (defs : List LinkDef) (count level k : ℕ) → k < count → is_above defs level k ≡ true →
    rank_to defs count level (k + 1) ≡ rank_to defs count level k + 1
rank_more defs count level k within above =
    count_by_more_yes (is_above defs level) (range_with_len 0 count) k 0 (omega (arith, length-range_with_len 0 count))
    (ap (is_above defs level) (at_place count k within) ∙ above)

pub rank_same : (defs : List LinkDef) (count level k : ℕ) → k < count → is_above defs level k ≡ false →
    rank_to defs count level (k + 1) ≡ rank_to defs count level k
rank_same defs count level k within aside =
    count_by_more_no (is_above defs level) (range_with_len 0 count) k 0 (omega (arith, length-range_with_len 0 count))
    (ap (is_above defs level) (at_place count k within) ∙ aside)

pub rank_low : (defs : List LinkDef) (count level k : ℕ) → rank_to defs count level k ≤ k
rank_low defs count level k =
    let counted = count_by-le-length (is_above defs level) (take k (range_with_len 0 count)) in
    let short : length (take k (range_with_len 0 count)) ≤ k = grind (arith, common_steps) in
    omega (arith, counted)

pub rank_whole : (defs : List LinkDef) (count level k : ℕ) → count ≤ k → rank_to defs count level k ≡ rank_of defs count level
rank_whole defs count level k past =
    ap (count_by (is_above defs level)) (take_all k (range_with_len 0 count) (omega (arith, length-range_with_len 0 count)))
