-- A link of a list that keeps the rules breaks none over the others.
use Rattle.std.proofs.Common.{◌≡◌, ℕ, suc, ◌+◌, ◌<◌, ◌≤◌, ◌==◌, ◌&&◌, ◌||◌, Bool, true, false, not, cond, List, [], ◌∷◌, ◌++◌, length, refl, ap, subst, ◌∙◌, Some, None, option_map, eqb, leb, arith}
use Rattle.std.specs.List.{filter, find, list_any, IsDistinct, AllByRecursion}
use Rattle.std.specs.Option.{option_or}
use Rattle.std.proofs.lemmas.Bool.{cond-true, cond-false, or_from, or_parts, lt-leb, le-leb, eq-eqb}
use Rattle.std.proofs.lemmas.Bool.Decides.{nat_tests}
use Rattle.std.proofs.lemmas.List.{length-append}
use Rattle.std.proofs.lemmas.List.Elements.{filter-append}
use Rattle.emu_names.specs.declared.limits.TheConstants.{BUNDLE_LINKS}
use Rattle.emu_names.specs.declared.kinds.LinkKind.{LinkKind}
use Rattle.emu_names.specs.declared.kinds.LinkKind.TheVariants.{OneToOne, OneToMany, ManyToMany}
use Rattle.emu_names.specs.declared.rules.Broken.TheVariants.{LinkExists, TooMany, OneParent, OneChild, PositionOut}
use Rattle.emu_names.specs.declared.rules.What.TheVariants.{BundleLinks}
use Rattle.link_graph.specs.declared.link.Link.{Link}
use Rattle.link_graph.specs.Kind.{KeepKind, HaveOneParent, HaveOneChild, of_definition}
use Rattle.link_graph.specs.Link.{joins, add_fault, kind_fault, parent_fault, child_fault, ArePairsApart}
use Rattle.undo_laws.proofs.Steps.{left}
use Rattle.bundle_state.specs.Changed.{place_fault}

at_middle : {X : Type 0} (P : X → Type 0) (front : List X) (x : X) (back : List X) → AllByRecursion P (front ++ x ∷ back) → P x
at_middle P [] x back h = h.0
at_middle P (y ∷ front) x back h = at_middle P front x back h.1

module _ {X : Type 0} (e : X → X → Bool) (swap : (a b : X) → e a b ≡ e b a) where
  none_alike : (x : X) (xs : List X) → AllByRecursion (λ y. e x y ≡ false) xs → list_any (λ y. e y x) xs ≡ false
  none_alike x [] h = refl
  none_alike x (y ∷ xs) h = or_from (e y x) (list_any (λ z. e z x) xs) (swap y x ∙ h.0) (none_alike x xs h.1)

  -- where all differ, the others differ from one
  pub others_differ : (front : List X) (x : X) (back : List X) → IsDistinct e (front ++ x ∷ back) → list_any (λ y. e y x) (front ++ back) ≡ false
  unfolding IsDistinct
  others_differ [] x back h = none_alike x back h.0
  others_differ (y ∷ front) x back h =
      or_from (e y x) (list_any (λ z. e z x) (front ++ back)) (at_middle _ front x back h.0) (others_differ front x back h.1)

any_of : {X : Type 0} (p q : X → Bool) (xs : List X) → list_any (λ x. p x && q x) xs ≡ list_any q (filter p xs)
any_of p q [] = refl
any_of p q (x ∷ xs) = by (p x) (any_of p q xs)
  where
    by : (b : Bool) → list_any (λ y. p y && q y) xs ≡ list_any q (filter p xs) →
        ((b && q x) || list_any (λ y. p y && q y) xs) ≡ list_any q (cond b (x ∷ filter p xs) (filter p xs))
    by true h = ap (λ b. q x || b) h
    by false h = h

-- the same among those that pass a test
pub others_of : {X : Type 0} (p : X → Bool) (e : X → X → Bool) → ((a b : X) → e a b ≡ e b a) → (front : List X) (x : X) (back : List X) → p x ≡ true →
    IsDistinct e (filter p (front ++ x ∷ back)) → list_any (λ y. p y && e y x) (front ++ back) ≡ false
others_of p e swap front x back passes h =
    let parts : filter p (front ++ x ∷ back) ≡ filter p front ++ x ∷ filter p back =
    filter-append p front (x ∷ back) ∙ ap (λ zs. filter p front ++ zs) (cond-true (p x) (x ∷ filter p back) (filter p back) passes) in
    any_of p (λ y. e y x) (front ++ back) ∙ ap (list_any (λ y. e y x)) (filter-append p front back)
    ∙ others_differ e swap (filter p front) x (filter p back) (subst (IsDistinct e) parts h)

-- fewer of them
pub none_left : {X : Type 0} (q test : X → Bool) (front back : List X) → list_any q (front ++ back) ≡ false → list_any q (front ++ left test back) ≡ false
none_left q test [] [] h = refl
none_left q test [] (y ∷ back) h =
    let parts = or_parts (q y) (list_any q back) h in
    by (test y) parts.0 (none_left q test [] back parts.1)
  where
    by : (b : Bool) → q y ≡ false → list_any q (left test back) ≡ false → list_any q (cond (not b) (y ∷ left test back) (left test back)) ≡ false
    by true fails rest = rest
    by false fails rest = or_from (q y) (list_any q (left test back)) fails rest
none_left q test (y ∷ front) back h =
    let parts = or_parts (q y) (list_any q (front ++ back)) h in
    or_from (q y) (list_any q (front ++ left test back)) parts.0 (none_left q test front back parts.1)

pub left_short : {X : Type 0} (test : X → Bool) (xs : List X) → length (left test xs) ≤ length xs
left_short test [] = omega arith
left_short test (x ∷ xs) = by (test x) (left_short test xs)
  where
    by : (b : Bool) → length (left test xs) ≤ length xs → length (cond (not b) (x ∷ left test xs) (left test xs)) ≤ suc (length xs)
    by true h = omega arith
    by false h = omega arith

unfound : {X : Type 0} (q : X → Bool) (xs : List X) → list_any q xs ≡ false → find q xs ≡ None
unfound q [] k = refl
unfound q (x ∷ xs) k =
    let parts = or_parts (q x) (list_any q xs) k in
    cond-false (q x) (Some x) (find q xs) parts.0 ∙ unfound q xs parts.1

-- ---- links

same_back : (a b : ℕ) → eqb a b ≡ eqb b a
same_back a b = grind (arith, nat_tests)

and_both : (a b c d : Bool) → a ≡ c → b ≡ d → (a && b) ≡ (c && d)
and_both a b c d e f = ap (λ x. x && b) e ∙ ap (λ y. c && y) f

joins_back : (a b : Link) → joins a.from a.to b ≡ joins b.from b.to a
joins_back a b = and_both (eqb b.from.0 a.from.0) (eqb b.to.0 a.to.0) (eqb a.from.0 b.from.0) (eqb a.to.0 b.to.0) (same_back b.from.0 a.from.0) (same_back b.to.0 a.to.0)

module _ (test : Link → Bool) (front : List Link) (x : Link) (back : List Link) where
  no_parent : HaveOneParent (of_definition x.definition (front ++ x ∷ back)) → parent_fault x.definition x.to (front ++ left test back) ≡ None
  no_parent h =
      ap (option_map (λ l. OneParent l.from))
      (unfound (λ l. eqb l.definition x.definition && eqb l.to.0 x.to.0) (front ++ left test back)
      (none_left (λ l. eqb l.definition x.definition && eqb l.to.0 x.to.0) test front back
      (others_of (λ l. eqb l.definition x.definition) (λ a b. eqb a.to.0 b.to.0) (λ a b. same_back a.to.0 b.to.0) front x back
      (eq-eqb x.definition x.definition refl) h)))

  no_child : HaveOneChild (of_definition x.definition (front ++ x ∷ back)) → child_fault x.definition x.from (front ++ left test back) ≡ None
  no_child h =
      ap (option_map (λ l. OneChild l.to))
      (unfound (λ l. eqb l.definition x.definition && eqb l.from.0 x.from.0) (front ++ left test back)
      (none_left (λ l. eqb l.definition x.definition && eqb l.from.0 x.from.0) test front back
      (others_of (λ l. eqb l.definition x.definition) (λ a b. eqb a.from.0 b.from.0) (λ a b. same_back a.from.0 b.from.0) front x back
      (eq-eqb x.definition x.definition refl) h)))

  no_kind_fault : (kind : LinkKind) → KeepKind kind x.definition (front ++ x ∷ back) → kind_fault kind x.definition x.from x.to (front ++ left test back) ≡ None
  no_kind_fault OneToOne h = ap (λ o. option_or o (child_fault x.definition x.from (front ++ left test back))) (no_parent h.0) ∙ no_child h.1
  no_kind_fault OneToMany h = no_parent h
  no_kind_fault ManyToMany h = refl

  apart_here : ArePairsApart (front ++ x ∷ back) → list_any (joins x.from x.to) (front ++ left test back) ≡ false
  apart_here h =
      none_left (joins x.from x.to) test front back
      (ap (λ q. list_any q (front ++ back)) (λ i y. joins_back x y i)
      ∙ others_differ (λ a b. joins a.from a.to b) joins_back front x back h)

  -- a link of a list that keeps the rules breaks none over those before it and some of those behind it
  pub no_add_fault : (kind : LinkKind) → ArePairsApart (front ++ x ∷ back) → length (front ++ x ∷ back) ≤ BUNDLE_LINKS → KeepKind kind x.definition (front ++ x ∷ back) →
      add_fault kind x.definition x.from x.to (front ++ left test back) ≡ None
  no_add_fault kind apart few keeps =
      let whole : length (front ++ x ∷ back) ≡ length front + suc (length back) = length-append front (x ∷ back) in
      let some : length (front ++ left test back) ≡ length front + length (left test back) = length-append front (left test back) in
      let short = left_short test back in
      let room : length (front ++ left test back) < BUNDLE_LINKS = omega (arith, whole, some, short, few) in
      cond-false (list_any (joins x.from x.to) (front ++ left test back)) (Some LinkExists) _ (apart_here apart)
      ∙ cond-false (leb BUNDLE_LINKS (length (front ++ left test back))) (Some (TooMany BundleLinks)) _ (lt-leb BUNDLE_LINKS (length (front ++ left test back)) room)
      ∙ no_kind_fault kind keeps

  pub place_free : place_fault (length front) (front ++ left test back) ≡ None
  place_free =
      let some : length (front ++ left test back) ≡ length front + length (left test back) = length-append front (left test back) in
      cond-true (leb (length front) (length (front ++ left test back))) None (Some PositionOut) (le-leb (length front) (length (front ++ left test back)) (omega (arith, some)))

  pub no_put_fault : (kind : LinkKind) → ArePairsApart (front ++ x ∷ back) → length (front ++ x ∷ back) ≤ BUNDLE_LINKS → KeepKind kind x.definition (front ++ x ∷ back) →
      option_or (add_fault kind x.definition x.from x.to (front ++ left test back)) (place_fault (length front) (front ++ left test back)) ≡ None
  no_put_fault kind apart few keeps =
      ap (λ o. option_or o (place_fault (length front) (front ++ left test back))) (no_add_fault kind apart few keeps) ∙ place_free
