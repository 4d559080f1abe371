-- Whether a link names an item, by the first of its parents and of its children.
use Rattle.std.proofs.Common.{◌≡◌, Bool, true, false, cond, not, ◌||◌, ◌==◌, List, [], ◌∷◌, map, Option, Some, None, is_some, MatchOption, Result, Ok, Err, OnOk, refl, sym, ◌∙◌, ap, subst}
use Rattle.std.specs.List.{list_any, filter}
use Rattle.emu_names.specs.declared.kinds.ItemId.{ItemId}
use Rattle.link_graph.specs.declared.link.Link.{Link}
use Rattle.link_graph.specs.Link.{names_item, children_of}
use Rattle.link_graph.specs.Inner.Link.{parents_of}
use Rattle.link_graph.proofs.Filters.{filter_all}

-- the first of these is there where the list has one that passes
first_there : {X Y : Type 0} (f : X → Y) (p : X → Bool) (xs : List X) (r : Option Y) (rest : List Y) →
    MatchOption r ((map f (filter p xs) ≡ []) × (rest ≡ [])) (λ y. map f (filter p xs) ≡ y ∷ rest) → is_some r ≡ list_any p xs
first_there f p [] None rest h = refl
first_there f p [] (Some y) rest h = absurd cc
first_there {X = X} {Y = Y} f p (x ∷ xs) r rest h = by (p x) refl r (first_there f p xs r rest) h
  where
    by : (b : Bool) → p x ≡ b → (o : Option Y) →
        (MatchOption o ((map f (filter p xs) ≡ []) × (rest ≡ [])) (λ y. map f (filter p xs) ≡ y ∷ rest) → is_some o ≡ list_any p xs) →
        MatchOption o ((map f (cond b (x ∷ filter p xs) (filter p xs)) ≡ []) × (rest ≡ [])) (λ y. map f (cond b (x ∷ filter p xs) (filter p xs)) ≡ y ∷ rest) →
        is_some o ≡ (b || list_any p xs)
    by true is None more h = absurd (filled (f x) (map f (filter p xs)) h.0)
      where
        filled : (y : Y) (ys : List Y) → y ∷ ys ≡ [] → ⊥
        filled y ys e = cc
    by true is (Some y) more h = refl
    by false is o more h = more h

any_or : {X : Type 0} (p q : X → Bool) (xs : List X) → list_any (λ x. p x || q x) xs ≡ (list_any p xs || list_any q xs)
any_or p q [] = refl
any_or p q (x ∷ xs) = ap (λ b. (p x || q x) || b) (any_or p q xs) ∙ swap (p x) (q x) (list_any p xs) (list_any q xs)
  where
    swap : (a b c d : Bool) → ((a || b) || (c || d)) ≡ ((a || c) || (b || d))
    swap true b c d = refl
    swap false true true d = refl
    swap false true false d = refl
    swap false false c d = refl

pub has_parent : (id : ItemId) (links : List Link) (ends rest : List ItemId) (r : Option ItemId) → ends ≡ parents_of id links →
    MatchOption r ((ends ≡ []) × (rest ≡ [])) (λ y. ends ≡ y ∷ rest) → is_some r ≡ list_any (λ link. link.to.0 == id.0) links
has_parent id links ends rest r is h =
    first_there (λ link. link.from) (λ link. link.to.0 == id.0) links r rest
    (subst (λ es. MatchOption r ((es ≡ []) × (rest ≡ [])) (λ y. es ≡ y ∷ rest)) is h)

pub has_child : (id : ItemId) (links : List Link) (ends rest : List ItemId) (r : Option ItemId) → ends ≡ children_of id links →
    MatchOption r ((ends ≡ []) × (rest ≡ [])) (λ y. ends ≡ y ∷ rest) → is_some r ≡ list_any (λ link. link.from.0 == id.0) links
has_child id links ends rest r is h =
    first_there (λ link. link.to) (λ link. link.from.0 == id.0) links r rest
    (subst (λ es. MatchOption r ((es ≡ []) × (rest ≡ [])) (λ y. es ≡ y ∷ rest)) is h)

named_is : (id : ItemId) (links : List Link) → list_any (names_item id) links ≡ (list_any (λ link. link.from.0 == id.0) links || list_any (λ link. link.to.0 == id.0) links)
named_is id links = any_or (λ link. link.from.0 == id.0) (λ link. link.to.0 == id.0) links

pub named_above : (id : ItemId) (links : List Link) (up : Bool) → up ≡ list_any (λ link. link.to.0 == id.0) links → up ≡ true → up ≡ list_any (names_item id) links
named_above id links up is there =
    there ∙ sym (named_is id links ∙ ap (λ b. list_any (λ link. link.from.0 == id.0) links || b) (sym is ∙ there) ∙ or_true (list_any (λ link. link.from.0 == id.0) links))
  where
    or_true : (a : Bool) → (a || true) ≡ true
    or_true true = refl
    or_true false = refl

pub named_below : (id : ItemId) (links : List Link) (up down : Bool) → up ≡ list_any (λ link. link.to.0 == id.0) links → up ≡ false → down ≡ list_any (λ link. link.from.0 == id.0) links →
    down ≡ list_any (names_item id) links
named_below id links up down is none below =
    below ∙ sym (named_is id links ∙ ap (λ b. list_any (λ link. link.from.0 == id.0) links || b) (sym is ∙ none) ∙ or_false (list_any (λ link. link.from.0 == id.0) links))
  where
    or_false : (a : Bool) → (a || false) ≡ a
    or_false true = refl
    or_false false = refl

-- links of which none names the item
pub none_taken : {T E : Type 0} (id : ItemId) (links : List Link) (r : Result T E) → list_any (names_item id) links ≡ false → OnOk r (links ≡ filter (λ link. not (names_item id link)) links)
none_taken id links (Ok x) none = sym (filter_all (names_item id) links none)
none_taken id links (Err e) none = tt
