-- The links that the annotation of a bundle makes are the bundle's.
use Rattle.std.proofs.Common.{◌≡◌, ◌≤◌, ◌<◌, ℕ, zero, suc, ◌+◌, Bool, true, false, not, List, [], ◌∷◌, ◌++◌, map, length, Option, Some, None, refl, ap, sym, ◌∙◌, subst, arith, All, append_assoc, length-append}
use Rattle.std.specs.Prelude.{Ok}
use Rattle.std.specs.List.{list_any, position, position_from, slice_get, IsDistinct, AllByRecursion}
use Rattle.std.proofs.lemmas.Bool.{and_parts, or_parts, or_from, not-true}
use Rattle.std.proofs.lemmas.Bool.Decides.{nat_tests}
use Rattle.std.proofs.lemmas.List.{append-nil}
use Rattle.std.proofs.lemmas.Iterator.Adapters.{position_from-zero}
use Rattle.std.proofs.lemmas.List.Elements.{All-head, All-tail, filter-append}
use Rattle.emu_names.specs.declared.limits.TheConstants.{BUNDLE_LINKS}
use Rattle.emu_names.specs.declared.kinds.LinkKind.{LinkKind}
use Rattle.emu_names.specs.declared.kinds.LinkKind.TheVariants.{OneToOne, OneToMany, ManyToMany}
use Rattle.link_graph.specs.declared.link.Link.{Link}
use Rattle.link_graph.specs.Link.{joins, ArePairsApart, add_fault}
use Rattle.link_graph.specs.Kind.{KeepKind, of_definition}
use Rattle.link_graph.proofs.Kept.{free_added}
use Rattle.db_config.specs.declared.parts.LinkDef.{LinkDef}
use Rattle.db_config.specs.Lookups.{leads}
use Rattle.db_config.specs.Valid.{same_levels, are_apart}
use Rattle.bundle_state.specs.Linked.{kind_of, put_link, put_links, IsBetween, pair_of}

-- ---- the definition of a link

any_at : {A : Type 0} (test : A → Bool) (xs : List A) (n : ℕ) (x : A) → list_any test xs ≡ false → slice_get xs n ≡ Some x → test x ≡ false
any_at test [] n x h here = cc
any_at test (y ∷ ys) zero x h here = let same : y ≡ x = cc in rw (sym same) (or_parts (test y) (list_any test ys) h).0
any_at test (y ∷ ys) (suc n) x h here = any_at test ys n x (or_parts (test y) (list_any test ys) h).1 here

leads_self : (d : LinkDef) → leads d.upper d.lower d ≡ true
leads_self d = grind (arith, nat_tests)

definition_from : (defs : List LinkDef) (i n : ℕ) (d : LinkDef) → are_apart defs ≡ true → slice_get defs n ≡ Some d →
    position_from (leads d.upper d.lower) i defs ≡ Some (i + n)
definition_from [] i n d apart here = cc
definition_from (e ∷ es) i zero d apart here =
    let same : e ≡ d = cc in
    let first : i ≡ i + 0 = omega arith in
    rw (same, leads_self d) (ap Some first)
definition_from (e ∷ es) i (suc n) d apart here =
    let both = and_parts (not (list_any (same_levels e) es)) (are_apart es) apart in
    let away : leads d.upper d.lower e ≡ false = any_at (same_levels e) es n d (not-true (list_any (same_levels e) es) both.0) here in
    let next : i + 1 + n ≡ i + suc n = omega arith in
    rw away (definition_from es (i + 1) n d both.1 here ∙ ap Some next)

definition_at : (defs : List LinkDef) (n : ℕ) (d : LinkDef) → are_apart defs ≡ true → slice_get defs n ≡ Some d → position (leads d.upper d.lower) defs ≡ Some n
definition_at defs n d apart here =
    let same : 0 + n ≡ n = omega arith in
    position_from-zero (leads d.upper d.lower) defs ∙ definition_from defs 0 n d apart here ∙ ap Some same

-- ---- parts of a list of links

all_in : {A : Type 0} (P : A → Type 0) (front : List A) (x : A) (rest : List A) → AllByRecursion P (front ++ x ∷ rest) → P x
all_in P [] x rest h = h.0
all_in P (y ∷ ys) x rest h = all_in P ys x rest h.1

all_front : {A : Type 0} (P : A → Type 0) (front rest : List A) → AllByRecursion P (front ++ rest) → AllByRecursion P front
all_front P [] rest h = tt
all_front P (y ∷ ys) rest h = (h.0, all_front P ys rest h.1)

distinct_front : {A : Type 0} (e : A → A → Bool) (front rest : List A) → IsDistinct e (front ++ rest) → IsDistinct e front
unfolding IsDistinct
distinct_front e [] rest h = tt
distinct_front e (y ∷ ys) rest h = (all_front (λ z. e y z ≡ false) ys rest h.0, distinct_front e ys rest h.1)

keep_front : (kind : LinkKind) (n : ℕ) (front rest : List Link) → KeepKind kind n (front ++ rest) → KeepKind kind n front
keep_front OneToOne n front rest h =
    let split : of_definition n (front ++ rest) ≡ of_definition n front ++ of_definition n rest = filter-append _ front rest in
    (distinct_front _ (of_definition n front) (of_definition n rest) (rw split at h.0), distinct_front _ (of_definition n front) (of_definition n rest) (rw split at h.1))
keep_front OneToMany n front rest h =
    let split : of_definition n (front ++ rest) ≡ of_definition n front ++ of_definition n rest = filter-append _ front rest in
    distinct_front _ (of_definition n front) (of_definition n rest) (rw split at h)
keep_front ManyToMany n front rest h = h

flip : (a b : Link) → joins a.from a.to b ≡ joins b.from b.to a
flip a b = grind (arith, nat_tests)

free_before : (front : List Link) (g : Link) (rest : List Link) → ArePairsApart (front ++ g ∷ rest) → list_any (joins g.from g.to) front ≡ false
unfolding IsDistinct
free_before [] g rest h = refl
free_before (x ∷ front) g rest h =
    or_from (joins g.from g.to x) (list_any (joins g.from g.to) front)
    (flip g x ∙ all_in (λ (y : Link). joins x.from x.to y ≡ false) front g rest h.0) (free_before front g rest h.1)

-- ---- one link more, and all

module _ (defs : List LinkDef) (level : ℕ → Option ℕ) (apart : are_apart defs ≡ true) where
  link_again : (front : List Link) (g : Link) → IsBetween defs level g → list_any (joins g.from g.to) front ≡ false →
      add_fault (kind_of defs g.definition) g.definition g.from g.to front ≡ None → put_link defs level front (pair_of g) ≡ Ok (front ++ g ∷ [])
  link_again front g between free added =
      rw (between.from, between.to, definition_at defs g.definition between.def apart between.defined, added, free) refl

  pub links_again : (front rest : List Link) → All (IsBetween defs level) rest → length (front ++ rest) ≤ BUNDLE_LINKS → ArePairsApart (front ++ rest) →
      ((n : ℕ) → KeepKind (kind_of defs n) n (front ++ rest)) → put_links defs level (map pair_of rest) front ≡ Ok (front ++ rest)
  links_again front [] between few pairs kinds = ap Ok (sym (append-nil front))
  links_again front (g ∷ rest) between few pairs kinds =
      let whole : (front ++ g ∷ []) ++ rest ≡ front ++ g ∷ rest = append_assoc front (g ∷ []) rest in
      let free = free_before front g rest pairs in
      let count = length-append front (g ∷ rest) in
      let room : length front < BUNDLE_LINKS = omega (arith, count, few) in
      let kept : KeepKind (kind_of defs g.definition) g.definition (front ++ g ∷ []) =
      keep_front (kind_of defs g.definition) g.definition (front ++ g ∷ []) rest
      (subst (λ ls. KeepKind (kind_of defs g.definition) g.definition ls) (sym whole) (kinds g.definition)) in
      let added = free_added (kind_of defs g.definition) g front free room kept in
      rw (link_again front g (All-head (IsBetween defs level) g rest between) free added)
      (links_again (front ++ g ∷ []) rest (All-tail (IsBetween defs level) g rest between)
      (subst (λ (ls : List Link). length ls ≤ BUNDLE_LINKS) (sym whole) few) (subst ArePairsApart (sym whole) pairs)
      (λ n. subst (λ ls. KeepKind (kind_of defs n) n ls) (sym whole) (kinds n))
      ∙ ap Ok whole)
