-- Of the items below one item, the first and the last are not between the two.
use Rattle.std.proofs.Common.{◌≡◌, ℕ, ◌<◌, ◌≤◌, Bool, true, false, cond, ◌||◌, ◌&&◌, not, List, [], ◌∷◌, length, refl, sym, ap, ◌∙◌, arith}
use Rattle.std.specs.List.{filter, list_any}
use Rattle.link_graph.specs.declared.link.Link.{Link}
use Rattle.hier_closure.specs.Dominance.{dominates, ids_at}
use Rattle.eql_syntax.specs.declared.query.Place.{Place}
use Rattle.eql_syntax.specs.declared.query.Place.TheVariants.{Start, Medial, End}
use Rattle.eql_model.specs.Positions.{below, is_first, is_last, stands, has_place}
use Rattle.eql_laws.specs.Laws.{above, EdgesAreNotMedial, MedialIsNoEdge, PlacesAreToldBelow}

-- ---- what dominates an item

abbrev is_some_of : List ℕ → Bool
is_some_of [] = false
is_some_of (a ∷ ids) = true

kept_any : (g : ℕ → Bool) (b : Bool) (a : ℕ) (kept : List ℕ) → ((b && g a) || list_any g kept) ≡ list_any g (cond b (a ∷ kept) kept)
kept_any g true a kept = refl
kept_any g false a kept = refl

any_filtered : (f g : ℕ → Bool) (ids : List ℕ) → list_any (λ a. f a && g a) ids ≡ list_any g (filter f ids)
any_filtered f g [] = refl
any_filtered f g (a ∷ ids) =
    ap (λ b. (f a && g a) || b) (any_filtered f g ids) ∙ kept_any g (f a) a (filter f ids)

kept_some : (b : Bool) (a : ℕ) (kept : List ℕ) → (b || is_some_of kept) ≡ is_some_of (cond b (a ∷ kept) kept)
kept_some true a kept = refl
kept_some false a kept = refl

some_filtered : (f : ℕ → Bool) (ids : List ℕ) → list_any f ids ≡ is_some_of (filter f ids)
some_filtered f [] = refl
some_filtered f (a ∷ ids) = ap (λ b. f a || b) (some_filtered f ids) ∙ kept_some (f a) a (filter f ids)

-- an item of the upper level makes the item stand at the place
abbrev at_place : List Link → List ℕ → ℕ → Place → ℕ → Bool
at_place links lowers x place a = stands place (below links lowers a) x

with_one : (links : List Link) (uppers lowers : List ℕ) (place : Place) (x : ℕ) →
    has_place links uppers lowers place true x ≡ list_any (at_place links lowers x place) (filter (λ a. dominates links a x) uppers)
with_one links uppers lowers place x = any_filtered (λ a. dominates links a x) (at_place links lowers x place) uppers

with_zero : (links : List Link) (uppers lowers : List ℕ) (place : Place) (x : ℕ) →
    has_place links uppers lowers place false x
    ≡ (is_some_of (filter (λ a. dominates links a x) uppers)
    && not (list_any (at_place links lowers x place) (filter (λ a. dominates links a x) uppers)))
with_zero links uppers lowers place x =
    λ i. some_filtered (λ a. dominates links a x) uppers i && not (with_one links uppers lowers place x i)

-- ---- under one item at most

one_place : (first last : Bool) → not ((not first && not last) || false) ≡ ((first || false) || (last || false))
one_place true true = refl
one_place true false = refl
one_place false true = refl
one_place false false = refl

under_one : (links : List Link) (lowers : List ℕ) (x : ℕ) (ids : List ℕ) → length ids ≤ 1 →
    (is_some_of ids && not (list_any (at_place links lowers x Medial) ids))
    ≡ (list_any (at_place links lowers x Start) ids || list_any (at_place links lowers x End) ids)
under_one links lowers x [] h = refl
under_one links lowers x (a ∷ []) h = one_place (is_first (below links lowers a) x) (is_last (below links lowers a) x)
under_one links lowers x (a ∷ others ∷ ids) h = absurd (omega arith)

pub no_edge : MedialIsNoEdge
no_edge c b upper lower item h =
    let uppers = ids_at b.levels upper in
    let lowers = ids_at b.levels lower.level in
    let x = item.id.0 in
    with_zero b.links uppers lowers Medial x ∙ under_one b.links lowers x (above b upper item) h
    ∙ (λ i. sym (with_one b.links uppers lowers Start x) i || sym (with_one b.links uppers lowers End x) i)

or_left : (a b : Bool) → a ≡ true → (a || b) ≡ true
or_left a b is = ap (λ x. x || b) is

or_right : (a b : Bool) → b ≡ true → (a || b) ≡ true
or_right true b is = refl
or_right false b is = is

not_one : (a b : Bool) → (a && not b) ≡ true → b ≡ false
not_one true true is = absurd cc
not_one true false is = refl
not_one false true is = absurd cc
not_one false false is = refl

pub not_medial : EdgesAreNotMedial
not_medial c b upper lower item h =
    let uppers = ids_at b.levels upper in
    let lowers = ids_at b.levels lower.level in
    let x = item.id.0 in
    let edge = no_edge c b upper lower item h in
    let start = has_place b.links uppers lowers Start true x in
    let end = has_place b.links uppers lowers End true x in
    let is_above = list_any (λ a. dominates b.links a x) uppers in
    let medial = has_place b.links uppers lowers Medial true x in (
      λ is. let zero = edge ∙ or_left start end is in (zero, not_one is_above medial zero),
      λ is. let zero = edge ∙ or_right start end is in (zero, not_one is_above medial zero),
    )

-- ---- the tests with 1 and with 0

not_not : (b : Bool) → b ≡ not (not b)
not_not true = refl
not_not false = refl

told_by : (g : ℕ → Bool) (ids : List ℕ) → 0 < length ids → list_any g ids ≡ not (is_some_of ids && not (list_any g ids))
told_by g [] h = absurd (omega arith)
told_by g (a ∷ ids) h = not_not (list_any g (a ∷ ids))

neither_by : (g : ℕ → Bool) (ids : List ℕ) → length ids ≡ 0 → (list_any g ids ≡ false) × ((is_some_of ids && not (list_any g ids)) ≡ false)
neither_by g [] h = (refl, refl)
neither_by g (a ∷ ids) h = absurd (omega arith)

pub told_below : PlacesAreToldBelow
told_below c b upper lower item place =
    let uppers = ids_at b.levels upper in
    let lowers = ids_at b.levels lower.level in
    let x = item.id.0 in
    let one = with_one b.links uppers lowers place x in
    let zero = with_zero b.links uppers lowers place x in
    let g = at_place b.links lowers x place in (
      λ h. one ∙ told_by g (above b upper item) h ∙ ap not (sym zero),
      λ h. let neither = neither_by g (above b upper item) h in (one ∙ neither.0, zero ∙ neither.1),
    )
