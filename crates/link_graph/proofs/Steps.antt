-- What each change does to an index.
use Rattle.std.proofs.Common.{◌≡◌, ℕ, Bool, true, false, List, [], ◌∷◌, refl, ap, sym, ◌∙◌, cond, not, ◌&&◌, ◌||◌, arith, eqb, ⊎_elim, Result, Ok, Err, is_err, OnOk, OnErr, take, get_or, length, ◌<◌, ◌+◌}
use Rattle.std.specs.List.{filter, list_any, AllByRecursion}
use Rattle.std.proofs.lemmas.Bool.{cases_Bool, and_parts, eqb-true}
use Rattle.std.proofs.lemmas.Bool.Decides.{nat_tests}
use Rattle.std.proofs.lemmas.List.Folds.{list_any_more}
use Rattle.std.proofs.lemmas.Map.Views.{any-filter_same}
use Rattle.emu_names.specs.declared.kinds.ItemId.{ItemId}
use Rattle.link_graph.specs.declared.link.Link.{Link}
use Rattle.link_graph.specs.Index.{is_pair}
use Rattle.link_graph.specs.Inner.Index.{forgotten}
use Rattle.link_graph.specs.Link.{joins, names_item}
use Rattle.link_graph.specs.Inner.Link.{is_among}
use Rattle.link_graph.proofs.Filters.{filter_swap, filter_off, filter_none, filter_off_none, filter_all}

-- ---- a link that was added is taken out again

or_false : (a : Bool) → (a || false) ≡ a
or_false true = refl
or_false false = refl

pub at_ok : {T E : Type 0} (r : Result T E) (P : Type 0) → is_err r ≡ false → OnOk r P → P
at_ok (Ok x) P e h = h
at_ok (Err x) P e h = cc

pub at_err : {T E : Type 0} (r : Result T E) (P : Type 0) → is_err r ≡ true → OnErr r P → P
at_err (Ok x) P e h = cc
at_err (Err x) P e h = h

module _ (link : Link) (links : List Link) (apart : list_any (joins link.from link.to) links ≡ false) where
  joins_itself : joins link.from link.to link ≡ true
  joins_itself = grind (arith, nat_tests)

  unpaired : (a b : ℕ) (t : Bool) → (eqb link.from.0 a && eqb link.to.0 b) ≡ t →
      (not t && (list_any (λ l. eqb l.from.0 a && eqb l.to.0 b) links || t)) ≡ list_any (λ l. eqb l.from.0 a && eqb l.to.0 b) links
  unpaired a b true e =
      let parts = and_parts (eqb link.from.0 a) (eqb link.to.0 b) e in
      rw (sym (eqb-true link.from.0 a parts.0), sym (eqb-true link.to.0 b parts.1)) (sym apart)
  unpaired a b false e = or_false (list_any (λ l. eqb l.from.0 a && eqb l.to.0 b) links)

  pub undone_pair : (a b : ℕ) (before now after : Bool) → before ≡ list_any (λ l. eqb l.from.0 a && eqb l.to.0 b) links →
      now ≡ (before || (eqb link.from.0 a && eqb link.to.0 b)) → after ≡ (not (eqb link.from.0 a && eqb link.to.0 b) && now) →
      after ≡ list_any (λ l. eqb l.from.0 a && eqb l.to.0 b) links
  undone_pair a b before now after is was then_is = rw (was, is) at then_is ∙ unpaired a b (eqb link.from.0 a && eqb link.to.0 b) refl

-- ---- the link of a pair is taken out

module _ (from to : ItemId) (links : List Link) where
  pub gone_down : (id : ℕ) →
      cond (eqb from.0 id) (filter (λ link. not (joins from to link)) (filter (λ link. eqb link.from.0 id) links)) (filter (λ link. eqb link.from.0 id) links)
      ≡ filter (λ link. eqb link.from.0 id) (filter (λ link. not (joins from to link)) links)
  gone_down id =
      ⊎_elim
      (λ (same : eqb from.0 id ≡ true). rw same (filter_swap _ _ links))
      (λ (apart : eqb from.0 id ≡ false). rw apart (sym (filter_off _ _ (λ x e. grind (arith, nat_tests)) links)))
      (cases_Bool (eqb from.0 id))

  pub gone_up : (id : ℕ) →
      cond (eqb to.0 id) (filter (λ link. not (joins from to link)) (filter (λ link. eqb link.to.0 id) links)) (filter (λ link. eqb link.to.0 id) links)
      ≡ filter (λ link. eqb link.to.0 id) (filter (λ link. not (joins from to link)) links)
  gone_up id =
      ⊎_elim
      (λ (same : eqb to.0 id ≡ true). rw same (filter_swap _ _ links))
      (λ (apart : eqb to.0 id ≡ false). rw apart (sym (filter_off _ _ (λ x e. grind (arith, nat_tests)) links)))
      (cases_Bool (eqb to.0 id))

  pub gone_pair : (a b : ℕ) →
      list_any (λ link. eqb link.from.0 a && eqb link.to.0 b) (filter (λ link. not (joins from to link)) links)
      ≡ (not (eqb from.0 a && eqb to.0 b) && list_any (λ link. eqb link.from.0 a && eqb link.to.0 b) links)
  gone_pair a b = any-filter_same _ _ _ (λ k e. grind (arith, nat_tests)) links

-- ---- the links of an item are taken out

left_at : (p q r : Link → Bool) → ((x : Link) → p x ≡ true → r x ≡ false → q x ≡ true) → (links : List Link) (b : Bool) → list_any p (filter r links) ≡ b →
    cond b (filter q (filter p links)) (filter p links) ≡ filter p (filter q links)
left_at p q r h links true e = filter_swap q p links
left_at p q r h links false e = sym (filter_off_none p q r h links e)

-- one more link whose other end may be the item of the list
pub forgot_more : (b t : Bool) (id : ItemId) (links : List Link) →
    cond t (filter (λ link. not (names_item id link)) (forgotten b id links)) (forgotten b id links) ≡ forgotten (b || t) id links
forgot_more true true id links = filter_off _ _ (λ x e. e) links
forgot_more true false id links = refl
forgot_more false true id links = refl
forgot_more false false id links = refl

pub forgot_step : (p : Link → Bool) (children : List Link) (i : ℕ) (d : Link) (id : ItemId) (first before now : List Link) → i < length children →
    before ≡ forgotten (list_any p (take i children)) id first →
    now ≡ cond (p (get_or children i d)) (filter (λ link. not (names_item id link)) before) before →
    now ≡ forgotten (list_any p (take (i + 1) children)) id first
forgot_step p children i d id first before now within is made =
    rw is at made
    ∙ (forgot_more (list_any p (take i children)) (p (get_or children i d)) id first
    ∙ ap (λ b. forgotten b id first) (sym (list_any_more p children i d within)))

-- one pair more is gone
pub unpaired_step : (p : Link → Bool) (links : List Link) (i : ℕ) (d : Link) (first before now : Bool) → i < length links →
    before ≡ (not (list_any p (take i links)) && first) → now ≡ (not (p (get_or links i d)) && before) →
    now ≡ (not (list_any p (take (i + 1) links)) && first)
unpaired_step p links i d first before now within is made =
    rw is at made ∙ gone_more (list_any p (take i links)) (p (get_or links i d)) first ∙ ap (λ b. not b && first) (sym (list_any_more p links i d within))
  where
    gone_more : (a t f : Bool) → (not t && (not a && f)) ≡ (not (a || t) && f)
    gone_more true true f = refl
    gone_more true false f = refl
    gone_more false true f = refl
    gone_more false false f = refl

nothing : (b : Bool) (id : ItemId) → forgotten b id [] ≡ []
nothing true id = refl
nothing false id = refl

module _ (id : ItemId) (links : List Link) where
  left_up : (key : ℕ) →
      forgotten (list_any (λ link. eqb link.to.0 key) (filter (λ link. eqb link.from.0 id.0) links)) id
      (cond (eqb id.0 key) [] (filter (λ link. eqb link.to.0 key) links))
      ≡ filter (λ link. eqb link.to.0 key) (filter (λ link. not (names_item id link)) links)
  left_up key =
      ⊎_elim
      (λ (same : eqb id.0 key ≡ true). rw same (nothing _ id ∙ sym (filter_none _ _ (λ x e. grind (arith, nat_tests)) links)))
      (λ (apart : eqb id.0 key ≡ false). rw apart (left_at _ _ _ (λ x e f. grind (arith, nat_tests)) links _ refl))
      (cases_Bool (eqb id.0 key))

  left_down : (key : ℕ) →
      forgotten (list_any (λ link. eqb link.from.0 key) (filter (λ link. eqb link.to.0 id.0) links)) id
      (cond (eqb id.0 key) [] (filter (λ link. eqb link.from.0 key) links))
      ≡ filter (λ link. eqb link.from.0 key) (filter (λ link. not (names_item id link)) links)
  left_down key =
      ⊎_elim
      (λ (same : eqb id.0 key ≡ true). rw same (nothing _ id ∙ sym (filter_none _ _ (λ x e. grind (arith, nat_tests)) links)))
      (λ (apart : eqb id.0 key ≡ false). rw apart (left_at _ _ _ (λ x e f. grind (arith, nat_tests)) links _ refl))
      (cases_Bool (eqb id.0 key))

  pub left_pair : (a b : ℕ) →
      list_any (λ link. eqb link.from.0 a && eqb link.to.0 b) (filter (λ link. not (names_item id link)) links)
      ≡ (not (eqb a id.0 || eqb b id.0) && list_any (λ link. eqb link.from.0 a && eqb link.to.0 b) links)
  left_pair a b = any-filter_same _ _ _ (λ k e. grind (arith, nat_tests)) links

  -- the pairs of an item's links are gone
  pub pairs_gone : (a b : ℕ) (children parents : List Link) (first mid now : Bool) → children ≡ filter (λ link. eqb link.from.0 id.0) links →
      parents ≡ filter (λ link. eqb link.to.0 id.0) links → first ≡ list_any (is_pair a b) links →
      mid ≡ (not (list_any (is_pair a b) children) && first) → now ≡ (not (list_any (is_pair a b) parents) && mid) →
      now ≡ list_any (is_pair a b) (filter (λ link. not (names_item id link)) links)
  pairs_gone a b children parents first mid now is_children is_parents is_first made_mid made =
      let at_child : list_any (is_pair a b) children ≡ (eqb a id.0 && list_any (is_pair a b) links) =
      ap (list_any (is_pair a b)) is_children ∙ any-filter_same (is_pair a b) (λ l. eqb l.from.0 id.0) (eqb a id.0) (λ k e. grind (arith, nat_tests)) links in
      let at_parent : list_any (is_pair a b) parents ≡ (eqb b id.0 && list_any (is_pair a b) links) =
      ap (list_any (is_pair a b)) is_parents ∙ any-filter_same (is_pair a b) (λ l. eqb l.to.0 id.0) (eqb b id.0) (λ k e. grind (arith, nat_tests)) links in
      made ∙ ap (λ m. not (list_any (is_pair a b) parents) && m) (made_mid ∙ ap (λ f. not (list_any (is_pair a b) children) && f) is_first)
      ∙ ap (λ t. not t && (not (list_any (is_pair a b) children) && list_any (is_pair a b) links)) at_parent
      ∙ ap (λ t. not (eqb b id.0 && list_any (is_pair a b) links) && (not t && list_any (is_pair a b) links)) at_child
      ∙ gone (eqb a id.0) (eqb b id.0) (list_any (is_pair a b) links) ∙ sym (left_pair a b)
    where
      gone : (x y n : Bool) → (not (y && n) && (not (x && n) && n)) ≡ (not (x || y) && n)
      gone true true true = refl
      gone true false true = refl
      gone false true true = refl
      gone false false true = refl
      gone true true false = refl
      gone true false false = refl
      gone false true false = refl
      gone false false false = refl

  pub forgot_up : (key : ℕ) (children first taken now : List Link) → children ≡ filter (λ link. eqb link.from.0 id.0) links →
      first ≡ filter (λ link. eqb link.to.0 key) links → taken ≡ cond (eqb id.0 key) [] first →
      now ≡ forgotten (list_any (λ link. eqb link.to.0 key) children) id taken →
      now ≡ filter (λ link. eqb link.to.0 key) (filter (λ link. not (names_item id link)) links)
  forgot_up key children first taken now is_children is_first is_taken made = rw (is_children, is_taken, is_first) at made ∙ left_up key

  pub forgot_down : (key : ℕ) (parents first taken now : List Link) → parents ≡ filter (λ link. eqb link.to.0 id.0) links →
      first ≡ filter (λ link. eqb link.from.0 key) links → taken ≡ cond (eqb id.0 key) [] first →
      now ≡ forgotten (list_any (λ link. eqb link.from.0 key) parents) id taken →
      now ≡ filter (λ link. eqb link.from.0 key) (filter (λ link. not (names_item id link)) links)
  forgot_down key parents first taken now is_parents is_first is_taken made = rw (is_parents, is_taken, is_first) at made ∙ left_down key

-- ---- the links of an item are taken out of the list

two_at : (p q : Link → Bool) (x : Link) (xs : List Link) (a b : Bool) → p x ≡ a → q x ≡ b → filter p (filter q xs) ≡ filter (λ l. q l && p l) xs →
    filter p (filter q (x ∷ xs)) ≡ filter (λ l. q l && p l) (x ∷ xs)
two_at p q x xs true true e f h = rw (f, e) (ap (λ ys. x ∷ ys) h)
two_at p q x xs false true e f h = rw (f, e) h
two_at p q x xs a false e f h = rw f h

pub two_filters : (p q : Link → Bool) (xs : List Link) → filter p (filter q xs) ≡ filter (λ l. q l && p l) xs
two_filters p q [] = refl
two_filters p q (x ∷ xs) = two_at p q x xs (p x) (q x) refl refl (two_filters p q xs)

on_at : (f g : Link → Bool) (x : Link) (xs : List Link) → f x ≡ g x → filter f xs ≡ filter g xs → filter f (x ∷ xs) ≡ filter g (x ∷ xs)
on_at f g x xs same rest = ap (λ b. cond b (x ∷ filter f xs) (filter f xs)) same ∙ ap (λ ys. cond (g x) (x ∷ ys) ys) rest

pub filter_on : (f g : Link → Bool) (xs : List Link) → AllByRecursion (λ x. f x ≡ g x) xs → filter f xs ≡ filter g xs
filter_on f g [] h = refl
filter_on f g (x ∷ xs) h = on_at f g x xs h.0 (filter_on f g xs h.1)

all_weaker : (P Q : Link → Type 0) → ((x : Link) → P x → Q x) → (xs : List Link) → AllByRecursion P xs → AllByRecursion Q xs
all_weaker P Q f [] h = h
all_weaker P Q f (x ∷ xs) h = (f x h.0, all_weaker P Q f xs h.1)

first_or : (a b : Bool) → a ≡ true → (a || b) ≡ true
first_or a b h = ap (λ t. t || b) h

second_or : (a b : Bool) → b ≡ true → (a || b) ≡ true
second_or true b h = refl
second_or false b h = h

all_among : (xs : List Link) → AllByRecursion (λ x. is_among xs x ≡ true) xs
all_among [] = tt
all_among (x ∷ xs) = (
  first_or (joins x.from x.to x) (is_among xs x) (grind (arith, nat_tests)),
  all_weaker (λ y. is_among xs y ≡ true) (λ y. is_among (x ∷ xs) y ≡ true) (λ y h. second_or (joins x.from x.to y) (is_among xs y) h) xs (all_among xs),
)

none_among : (links : List Link) → list_any (is_among []) links ≡ false
none_among [] = refl
none_among (l ∷ links) = none_among links

-- no link is taken out yet
pub taken_none : (links : List Link) → links ≡ filter (λ l. not (is_among [] l)) links
taken_none links = sym (filter_all (is_among []) links (none_among links))

-- one link more is taken out
pub taken_step : (ends links before now : List Link) (i : ℕ) (d : Link) → i < length ends → before ≡ filter (λ l. not (is_among (take i ends) l)) links →
    now ≡ filter (λ l. not (joins (get_or ends i d).from (get_or ends i d).to l)) before → now ≡ filter (λ l. not (is_among (take (i + 1) ends) l)) links
taken_step ends links before now i d within is made =
    let e = get_or ends i d in
    made ∙ ap (filter (λ l. not (joins e.from e.to l))) is
    ∙ two_filters (λ l. not (joins e.from e.to l)) (λ l. not (is_among (take i ends) l)) links
    ∙ filter_on _ _ links (all_same (λ l. neither (is_among (take i ends) l) (joins e.from e.to l) ∙ ap not (sym (list_any_more (λ x. joins x.from x.to l) ends i d within))) links)
  where
    neither : (a b : Bool) → (not a && not b) ≡ not (a || b)
    neither true b = refl
    neither false b = refl

    all_same : {P : Link → Type 0} → ((l : Link) → P l) → (xs : List Link) → AllByRecursion P xs
    all_same f [] = tt
    all_same f (x ∷ xs) = (f x, all_same f xs)

module _ (id : ItemId) (links : List Link) where
  at_end : (p : Link → Bool) → ((e x : Link) → joins e.from e.to x ≡ true → p e ≡ p x) → (x : Link) → is_among links x ≡ true → is_among (filter p links) x ≡ p x
  at_end p respects x there =
      any-filter_same (λ e. joins e.from e.to x) p (p x) (λ e h. respects e x h) links ∙ ap (λ b. p x && b) there ∙ and_true (p x)
    where
      and_true : (a : Bool) → (a && true) ≡ a
      and_true true = refl
      and_true false = refl

  pub item_gone : (children parents before now : List Link) → children ≡ filter (λ l. eqb l.from.0 id.0) links → parents ≡ filter (λ l. eqb l.to.0 id.0) links →
      before ≡ filter (λ l. not (is_among children l)) links → now ≡ filter (λ l. not (is_among parents l)) before →
      now ≡ filter (λ l. not (names_item id l)) links
  item_gone children parents before now is_children is_parents is made =
      made ∙ ap (filter (λ l. not (is_among parents l))) is ∙ two_filters (λ l. not (is_among parents l)) (λ l. not (is_among children l)) links
      ∙ filter_on _ _ links (all_weaker (λ x. is_among links x ≡ true) _ (λ x there. here x there) links (all_among links))
    where
      neither : (a b : Bool) → (not a && not b) ≡ not (a || b)
      neither true b = refl
      neither false b = refl

      here : (x : Link) → is_among links x ≡ true → (not (is_among children x) && not (is_among parents x)) ≡ not (names_item id x)
      here x there =
          ap (λ es. not (is_among es x) && not (is_among parents x)) is_children
          ∙ ap (λ es. not (is_among (filter (λ l. eqb l.from.0 id.0) links) x) && not (is_among es x)) is_parents
          ∙ ap (λ b. not b && not (is_among (filter (λ l. eqb l.to.0 id.0) links) x)) (at_end (λ l. eqb l.from.0 id.0) (λ e y h. grind (arith, nat_tests)) x there)
          ∙ ap (λ b. not (eqb x.from.0 id.0) && not b) (at_end (λ l. eqb l.to.0 id.0) (λ e y h. grind (arith, nat_tests)) x there)
          ∙ neither (eqb x.from.0 id.0) (eqb x.to.0 id.0)
