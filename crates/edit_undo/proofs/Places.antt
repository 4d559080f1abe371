-- The places of links.
use Rattle.std.proofs.Common.{◌≡◌, ℕ, zero, suc, ◌+◌, ◌==◌, ◌&&◌, Bool, true, false, List, [], ◌∷◌, ◌++◌, take, drop, Some, refl, ap, sym, ◌∙◌, eqb-true, arith}
use Rattle.std.specs.List.{list_any, slice_get, AllByRecursion}
use Rattle.std.proofs.lemmas.Bool.{true≢false, and_parts, or_parts, or_from}
use Rattle.std.proofs.lemmas.Map.Keys.{IsDistinct-head, IsDistinct-tail}
use Rattle.emu_names.specs.declared.kinds.ItemId.{ItemId}
use Rattle.emu_names.specs.declared.names.BundleKey.{BundleKey}
use Rattle.link_graph.specs.declared.link.Link.{Link}
use Rattle.link_graph.specs.Link.{joins, ArePairsApart}
use Rattle.bundle_edits.specs.declared.edit.Edit.{Edit}
use Rattle.bundle_edits.proofs.Spans.{some_same}
use Rattle.edit_undo.specs.Inverse.{link_again, links_again}
use Rattle.edit_undo.specs.Inner.Links.{again_from}
use Rattle.edit_undo.proofs.Joins.{if_passing, first_again}

again_none : (key : BundleKey) (test : Link → Bool) (n : ℕ) (links : List Link) → list_any test links ≡ false → again_from key test n links ≡ []
again_none key test n [] none = refl
again_none key test n (link ∷ links) none =
    let parts = or_parts (test link) (list_any test links) none in
    first_again key test n link links ∙ ap (λ (t : Bool). if_passing key t (n, link) ++ again_from key test (n + 1) links) parts.0
    ∙ again_none key test (n + 1) links parts.1

pub none_again : (key : BundleKey) (test : Link → Bool) (links : List Link) (made : List Edit) → list_any test links ≡ false → made ≡ [] → made ≡ links_again key test links
none_again key test links made none is = is ∙ sym (again_none key test 0 links none)

only_again : (key : BundleKey) (test : Link → Bool) (n : ℕ) (links : List Link) (k : ℕ) (x : Link) → slice_get links k ≡ Some x → test x ≡ true → list_any test (take k links) ≡ false →
    list_any test (drop (suc k) links) ≡ false → again_from key test n links ≡ link_again key (n + k, x) ∷ []
only_again key test n [] k x here passes before behind = absurd cc
only_again key test n (y ∷ links) zero x here passes before behind =
    let own : y ≡ x = some_same y x here in
    first_again key test n y links
    ∙ ap (λ (t : Bool). if_passing key t (n, y) ++ again_from key test (n + 1) links) (ap test own ∙ passes)
    ∙ ap (λ (ys : List Edit). link_again key (n, y) ∷ ys) (again_none key test (n + 1) links behind)
    ∙ ap (λ (z : Link). link_again key (n, z) ∷ []) own
    ∙ ap (λ (m : ℕ). link_again key (m, x) ∷ []) (no_more n)
  where
    no_more : (a : ℕ) → a ≡ a + 0
    no_more a = omega arith
only_again key test n (y ∷ links) (suc k) x here passes before behind =
    let parts = or_parts (test y) (list_any test (take k links)) before in
    first_again key test n y links
    ∙ ap (λ (t : Bool). if_passing key t (n, y) ++ again_from key test (n + 1) links) parts.0
    ∙ only_again key test (n + 1) links k x here passes parts.1 behind
    ∙ ap (λ (m : ℕ). link_again key (m, x) ∷ []) (more n k)
  where
    more : (a b : ℕ) → a + 1 + b ≡ a + suc b
    more a b = omega arith

-- One pair stands once.

same_pair : (from to : ItemId) (y z : Link) → joins from to y ≡ true → joins from to z ≡ joins y.from y.to z
same_pair from to y z is =
    let parts = and_parts (y.from.0 == from.0) (y.to.0 == to.0) is in
    ap (λ (n : ℕ). (z.from.0 == n) && (z.to.0 == to.0)) (sym (eqb-true y.from.0 from.0 parts.0))
    ∙ ap (λ (n : ℕ). (z.from.0 == y.from.0) && (z.to.0 == n)) (sym (eqb-true y.to.0 to.0 parts.1))

none_alike : (from to : ItemId) (y : Link) (links : List Link) → joins from to y ≡ true → AllByRecursion (λ z. joins y.from y.to z ≡ false) links → list_any (joins from to) links ≡ false
none_alike from to y [] is apart = refl
none_alike from to y (z ∷ links) is apart =
    or_from (joins from to z) (list_any (joins from to) links) (same_pair from to y z is ∙ apart.0) (none_alike from to y links is apart.1)

apart_at : (y : Link) (links : List Link) (k : ℕ) (x : Link) → AllByRecursion (λ z. joins y.from y.to z ≡ false) links → slice_get links k ≡ Some x → joins y.from y.to x ≡ false
apart_at y [] k x apart here = absurd cc
apart_at y (z ∷ links) zero x apart here = ap (joins y.from y.to) (sym (some_same z x here)) ∙ apart.0
apart_at y (z ∷ links) (suc k) x apart here = apart_at y links k x apart.1 here

others_none : (from to : ItemId) (links : List Link) (k : ℕ) (x : Link) → ArePairsApart links → slice_get links k ≡ Some x → joins from to x ≡ true →
    (list_any (joins from to) (take k links) ≡ false) × (list_any (joins from to) (drop (suc k) links) ≡ false)
others_none from to [] k x apart here passes = absurd cc
others_none from to (y ∷ links) zero x apart here passes =
    (refl, none_alike from to y links (ap (joins from to) (some_same y x here) ∙ passes) (IsDistinct-head (λ (a b : Link). joins a.from a.to b) y links apart))
others_none from to (y ∷ links) (suc k) x apart here passes =
    let rest = others_none from to links k x (IsDistinct-tail (λ (a b : Link). joins a.from a.to b) y links apart) here passes in
    let away = apart_at y links k x (IsDistinct-head (λ (a b : Link). joins a.from a.to b) y links apart) here in
    (or_from (joins from to y) (list_any (joins from to) (take k links)) (by (joins from to y) refl away) rest.0, rest.1)
  where
    by : (t : Bool) → joins from to y ≡ t → joins y.from y.to x ≡ false → t ≡ false
    by true is away = absurd (true≢false (sym passes ∙ same_pair from to y x is ∙ away))
    by false is away = refl

pub pair_again : (key : BundleKey) (from to : ItemId) (links : List Link) (place : ℕ) (link : Link) (made : List Edit) → ArePairsApart links → slice_get links place ≡ Some link →
    joins from to link ≡ true → made ≡ link_again key (place, link) ∷ [] → made ≡ links_again key (joins from to) links
pair_again key from to links place link made apart here passes is =
    let others = others_none from to links place link apart here passes in
    is ∙ sym (only_again key (joins from to) 0 links place link here passes others.0 others.1 ∙ ap (λ (n : ℕ). link_again key (n, link) ∷ []) (plain place))
  where
    plain : (n : ℕ) → 0 + n ≡ n
    plain n = omega arith
