-- Links that are added under a kind, and links that are taken out, keep it.
use Rattle.std.proofs.Common.{◌≡◌, ◌≢◌, ◌<◌, ◌&&◌, sym, ap, ℕ, Bool, true, false, List, [], ◌∷◌, ◌++◌, Option, None, Some, refl, ◌∙◌, cond, arith, option_map, eqb, leb, length}
use Rattle.std.specs.List.{filter, find, list_any, IsDistinct, AllByRecursion}
use Rattle.std.specs.Option.{option_or}
use Rattle.std.proofs.lemmas.Bool.{cond_both, eq-eqb, ne_eqb, cond-true, cond-false, or_from, or_parts, lt-leb}
use Rattle.std.proofs.lemmas.Bool.Decides.{nat_tests}
use Rattle.std.proofs.lemmas.Cmp.{nat_eq_equiv, on_equiv}
use Rattle.std.proofs.lemmas.Map.Keys.{IsDistinct-push}
use Rattle.emu_names.specs.declared.limits.TheConstants.{BUNDLE_LINKS}
use Rattle.emu_names.specs.declared.kinds.LinkKind.{LinkKind}
use Rattle.emu_names.specs.declared.kinds.LinkKind.TheVariants.{OneToOne, OneToMany, ManyToMany}
use Rattle.emu_names.specs.declared.rules.Broken.{Broken}
use Rattle.emu_names.specs.declared.rules.Broken.TheVariants.{LinkExists, TooMany, OneParent, OneChild}
use Rattle.emu_names.specs.declared.rules.What.TheVariants.{BundleLinks}
use Rattle.link_graph.specs.declared.link.Link.{Link}
use Rattle.link_graph.specs.Kind.{KeepKind, HaveOneParent, HaveOneChild, of_definition}
use Rattle.link_graph.specs.Link.{joins, add_fault, kind_fault, parent_fault, child_fault}
use Rattle.link_graph.proofs.Filters.{filter_push, filter_swap, none_found, find_both}

all_filter : {X : Type 0} (P : X → Type 0) (p : X → Bool) (xs : List X) → AllByRecursion P xs → AllByRecursion P (filter p xs)
all_filter P p [] h = h
all_filter P p (x ∷ xs) h =
    cond_both (p x) (x ∷ filter p xs) (filter p xs) (AllByRecursion P)
    (λ _. (h.0, all_filter P p xs h.1)) (λ _. all_filter P p xs h.1)

-- what differs in a list differs in a part of it
pub distinct_filter : {X : Type 0} (e : X → X → Bool) (p : X → Bool) (xs : List X) → IsDistinct e xs → IsDistinct e (filter p xs)
unfolding IsDistinct
distinct_filter e p [] h = h
distinct_filter e p (x ∷ xs) h =
    cond_both (p x) (x ∷ filter p xs) (filter p xs) (IsDistinct e)
    (λ _. (all_filter _ p xs h.0, distinct_filter e p xs h.1)) (λ _. distinct_filter e p xs h.1)

distinct_swap : (e : Link → Link → Bool) (p q : Link → Bool) (links : List Link) → IsDistinct e (filter p links) → IsDistinct e (filter p (filter q links))
distinct_swap e p q links h = rw (filter_swap p q links) (distinct_filter e q (filter p links) h)

pub keep_filter : (kind : LinkKind) (definition : ℕ) (test : Link → Bool) (links : List Link) →
    KeepKind kind definition links → KeepKind kind definition (filter test links)
keep_filter OneToOne definition test links h = (distinct_swap _ _ test links h.0, distinct_swap _ _ test links h.1)
keep_filter OneToMany definition test links h = distinct_swap _ _ test links h
keep_filter ManyToMany definition test links h = h

pub keep_other : (kind : LinkKind) (definition : ℕ) (link : Link) (links : List Link) → link.definition ≢ definition →
    KeepKind kind definition links → KeepKind kind definition (links ++ link ∷ [])
keep_other kind definition link links apart h =
    let same : of_definition definition (links ++ link ∷ []) ≡ of_definition definition links =
    filter_push _ links link ∙ cond-false _ _ _ (ne_eqb _ _ apart) in
    kept kind same h
  where
    kept : (kind : LinkKind) → of_definition definition (links ++ link ∷ []) ≡ of_definition definition links →
        KeepKind kind definition links → KeepKind kind definition (links ++ link ∷ [])
    kept OneToOne same h = (rw same h.0, rw same h.1)
    kept OneToMany same h = rw same h
    kept ManyToMany same h = h

-- a fault that is not there
later : (b : Bool) (x : Broken) (rest : Option Broken) → cond b (Some x) rest ≡ None → rest ≡ None
later true x rest h = cc
later false x rest h = h

unmapped : (f : Link → Broken) (o : Option Link) → option_map f o ≡ None → o ≡ None
unmapped f None h = refl
unmapped f (Some x) h = cc

both_none : (o q : Option Broken) → option_or o q ≡ None → (o ≡ None) × (q ≡ None)
both_none None q h = (refl, h)
both_none (Some x) q h = cc

of_push : (link : Link) (links : List Link) → of_definition link.definition (links ++ link ∷ []) ≡ of_definition link.definition links ++ link ∷ []
of_push link links =
    filter_push _ links link
    ∙ cond-true (eqb link.definition link.definition) (of_definition link.definition links ++ link ∷ []) (of_definition link.definition links) (eq-eqb link.definition link.definition refl)

one_parent : (link : Link) (links : List Link) → parent_fault link.definition link.to links ≡ None →
    HaveOneParent (of_definition link.definition links) → HaveOneParent (of_definition link.definition (links ++ link ∷ []))
one_parent link links h k =
    rw (of_push link links)
    (IsDistinct-push (on_equiv (λ (l : Link). l.to.0) nat_eq_equiv) _ link k
    (none_found (λ l. eqb l.definition link.definition) (λ l. eqb link.to.0 l.to.0) _ (λ x e f. grind (arith, nat_tests)) links (unmapped _ _ h)))

one_child : (link : Link) (links : List Link) → child_fault link.definition link.from links ≡ None →
    HaveOneChild (of_definition link.definition links) → HaveOneChild (of_definition link.definition (links ++ link ∷ []))
one_child link links h k =
    rw (of_push link links)
    (IsDistinct-push (on_equiv (λ (l : Link). l.from.0) nat_eq_equiv) _ link k
    (none_found (λ l. eqb l.definition link.definition) (λ l. eqb link.from.0 l.from.0) _ (λ x e f. grind (arith, nat_tests)) links (unmapped _ _ h)))

keep_same : (kind : LinkKind) (link : Link) (links : List Link) → kind_fault kind link.definition link.from link.to links ≡ None →
    KeepKind kind link.definition links → KeepKind kind link.definition (links ++ link ∷ [])
keep_same OneToOne link links h k =
    let none = both_none _ _ h in (one_parent link links none.0 k.0, one_child link links none.1 k.1)
keep_same OneToMany link links h k = one_parent link links h k
keep_same ManyToMany link links h k = k

pub keep_added : (kind : LinkKind) (link : Link) (links : List Link) → add_fault kind link.definition link.from link.to links ≡ None →
    KeepKind kind link.definition links → KeepKind kind link.definition (links ++ link ∷ [])
keep_added kind link links h =
    keep_same kind link links
    (later (leb BUNDLE_LINKS (length links)) (TooMany BundleLinks) _ (later (list_any (joins link.from link.to) links) LinkExists _ h))

pub keep_none : (kind : LinkKind) (definition : ℕ) → KeepKind kind definition []
unfolding IsDistinct
keep_none OneToOne definition = (tt, tt)
keep_none OneToMany definition = tt
keep_none ManyToMany definition = tt

-- ---- a link with which the kind is kept breaks no rule

all_last : {X : Type 0} (P : X → Type 0) (xs : List X) (y : X) → AllByRecursion P (xs ++ y ∷ []) → P y
all_last P [] y h = h.0
all_last P (x ∷ xs) y h = all_last P xs y h.1

-- the last of a list of different elements differs from those before it
last_differs : {X : Type 0} (e : X → X → Bool) (xs : List X) (y : X) → IsDistinct e (xs ++ y ∷ []) → list_any (λ x. e x y) xs ≡ false
unfolding IsDistinct
last_differs e [] y h = refl
last_differs e (x ∷ xs) y h = or_from (e x y) (list_any (λ z. e z y) xs) (all_last _ xs y h.0) (last_differs e xs y h.1)

unfound : {X : Type 0} (q : X → Bool) (xs : List X) → list_any q xs ≡ false → find q xs ≡ None
unfound q [] k = refl
unfound q (x ∷ xs) k =
    let parts = or_parts (q x) (list_any q xs) k in
    cond-false (q x) (Some x) (find q xs) parts.0 ∙ unfound q xs parts.1

and_as_cond : (a b : Bool) → (a && b) ≡ cond a b false
and_as_cond true b = refl
and_as_cond false b = refl

free_of : (q : Link → Bool) (definition : ℕ) (links : List Link) → list_any q (of_definition definition links) ≡ false →
    find (λ l. eqb l.definition definition && q l) links ≡ None
free_of q definition links none =
    sym (find_both (λ l. eqb l.definition definition) q (λ l. eqb l.definition definition && q l) (λ l. and_as_cond (eqb l.definition definition) (q l)) links)
    ∙ unfound q (of_definition definition links) none

parent_free : (link : Link) (links : List Link) → HaveOneParent (of_definition link.definition (links ++ link ∷ [])) →
    parent_fault link.definition link.to links ≡ None
parent_free link links h =
    ap (option_map (λ l. OneParent l.from))
    (free_of (λ l. eqb l.to.0 link.to.0) link.definition links
    (last_differs (λ (a b : Link). eqb a.to.0 b.to.0) (of_definition link.definition links) link (rw (of_push link links) at h)))

child_free : (link : Link) (links : List Link) → HaveOneChild (of_definition link.definition (links ++ link ∷ [])) →
    child_fault link.definition link.from links ≡ None
child_free link links h =
    ap (option_map (λ l. OneChild l.to))
    (free_of (λ l. eqb l.from.0 link.from.0) link.definition links
    (last_differs (λ (a b : Link). eqb a.from.0 b.from.0) (of_definition link.definition links) link (rw (of_push link links) at h)))

kind_free : (kind : LinkKind) (link : Link) (links : List Link) → KeepKind kind link.definition (links ++ link ∷ []) →
    kind_fault kind link.definition link.from link.to links ≡ None
kind_free OneToOne link links h = ap (λ o. option_or o (child_fault link.definition link.from links)) (parent_free link links h.0) ∙ child_free link links h.1
kind_free OneToMany link links h = parent_free link links h
kind_free ManyToMany link links h = refl

pub free_added : (kind : LinkKind) (link : Link) (links : List Link) → list_any (joins link.from link.to) links ≡ false → length links < BUNDLE_LINKS →
    KeepKind kind link.definition (links ++ link ∷ []) → add_fault kind link.definition link.from link.to links ≡ None
free_added kind link links apart room h =
    cond-false (list_any (joins link.from link.to) links) (Some LinkExists) _ apart
    ∙ cond-false (leb BUNDLE_LINKS (length links)) (Some (TooMany BundleLinks)) _ (lt-leb BUNDLE_LINKS (length links) room)
    ∙ kind_free kind link links h
