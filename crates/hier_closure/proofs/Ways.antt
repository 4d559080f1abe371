-- The test of dominance passes exactly where links lead down, one after another.
use Rattle.std.proofs.Common.{◌≡◌, ℕ, Bool, true, false, ◌&&◌, ◌||◌, ◌==◌, List, [], ◌∷◌, ◌++◌, ◌⊎◌, refl, sym, subst, inl, inr, ⊎_elim, map, cond}
use Rattle.std.specs.List.{list_any, filter}
use Rattle.std.proofs.lemmas.Bool.{and_parts, and_from, eqb-true, eq-eqb}
use Rattle.emu_names.specs.declared.kinds.ItemId.{ItemId}
use Rattle.link_graph.specs.declared.link.Link.{Link}
use Rattle.link_graph.specs.Index.{is_pair}
use Rattle.link_graph.specs.Link.{children_of}
use Rattle.hier_closure.specs.Dominance.{links_to, IsChain, Dominates, dominates, is_or_dominates}
use Rattle.hier_closure.specs.Laws.{DominanceIsByChains, DominanceIsByFirstLinks}

-- ---- truth values

pub or_split : (x y : Bool) → (x || y) ≡ true → (x ≡ true) ⊎ (y ≡ true)
or_split true y h = inl refl
or_split false y h = inr h

pub or_right : (x y : Bool) → y ≡ true → (x || y) ≡ true
or_right true y h = refl
or_right false y h = h

pub or_left : (x y : Bool) → x ≡ true → (x || y) ≡ true
or_left true y h = refl
or_left false y h = cc

pub same_truth : (x y : Bool) → (x ≡ true → y ≡ true) → (y ≡ true → x ≡ true) → x ≡ y
same_truth true y there back = sym (there refl)
same_truth false true there back = back refl
same_truth false false there back = refl

-- ---- ways

-- links that lead down, one after another
pub data Way (links : List Link) : ℕ → ℕ → Type 0 where
  linked : {a b : ℕ} → links_to links a b ≡ true → Way links a b
  further : {a b c : ℕ} → links_to links a b ≡ true → Way links b c → Way links a c

pub join : (links : List Link) (a b c : ℕ) → Way links a b → Way links b c → Way links a c
join links a b c (linked h) q = further h q
join links a b c (further {b = m} h p) q = further h (join links m b c p q)

widen : (l : Link) (links : List Link) (a b : ℕ) → Way links a b → Way (l ∷ links) a b
widen l links a b (linked h) = linked (or_right (is_pair a b l) (links_to links a b) h)
widen l links a b (further {b = m} h p) =
    further (or_right (is_pair a m l) (links_to links a m) h) (widen l links m b p)

-- a way of any length, also of none
abbrev Reaches : List Link → ℕ → ℕ → Type 0
Reaches links a b = (a ≡ b) ⊎ Way links a b

-- a way either goes round a link, or goes through it once
abbrev Splits : Link → List Link → ℕ → ℕ → Type 0
Splits l links a b = Way links a b ⊎ (Reaches links a l.from.0 × Reaches links l.to.0 b)

reach_on : (links : List Link) (a b c : ℕ) → Way links a b → Reaches links b c → Way links a c
reach_on links a b c step (inl same) = subst (λ n. Way links a n) same step
reach_on links a b c step (inr rest) = join links a b c step rest

-- a step through the link itself, and then a way that splits
step_through : (l : Link) (links : List Link) (a b : ℕ) → a ≡ l.from.0 → Splits l links l.to.0 b → Splits l links a b
step_through l links a b from (inl rest) = inr (inl from, inr rest)
step_through l links a b from (inr parts) = inr (inl from, parts.1)

-- a step through another link, and then a way that splits
step_round : (l : Link) (links : List Link) (a m b : ℕ) → links_to links a m ≡ true → Splits l links m b → Splits l links a b
step_round l links a m b h (inl rest) = inl (further h rest)
step_round l links a m b h (inr parts) = inr (inr (reach_on links a m l.from.0 (linked h) parts.0), parts.1)

pub pair_from : (l : Link) (a b : ℕ) → is_pair a b l ≡ true → l.from.0 ≡ a
pair_from l a b h = eqb-true l.from.0 a (and_parts (l.from.0 == a) (l.to.0 == b) h).0

pub pair_to : (l : Link) (a b : ℕ) → is_pair a b l ≡ true → l.to.0 ≡ b
pair_to l a b h = eqb-true l.to.0 b (and_parts (l.from.0 == a) (l.to.0 == b) h).1

last_step : (l : Link) (links : List Link) (a b : ℕ) → (is_pair a b l ≡ true) ⊎ (links_to links a b ≡ true) → Splits l links a b
last_step l links a b (inl h) = inr (inl (sym (pair_from l a b h)), inl (pair_to l a b h))
last_step l links a b (inr h) = inl (linked h)

first_step : (l : Link) (links : List Link) (a m b : ℕ) → (is_pair a m l ≡ true) ⊎ (links_to links a m ≡ true) → Splits l links m b → Splits l links a b
first_step l links a m b (inl h) rest =
    step_through l links a b (sym (pair_from l a m h)) (subst (λ n. Splits l links n b) (sym (pair_to l a m h)) rest)
first_step l links a m b (inr h) rest = step_round l links a m b h rest

split : (l : Link) (links : List Link) (a b : ℕ) → Way (l ∷ links) a b → Splits l links a b
split l links a b (linked h) = last_step l links a b (or_split (is_pair a b l) (links_to links a b) h)
split l links a b (further {b = m} h p) =
    first_step l links a m b (or_split (is_pair a m l) (links_to links a m) h) (split l links m b p)

-- and back
own_link : (l : Link) (links : List Link) → links_to (l ∷ links) l.from.0 l.to.0 ≡ true
own_link l links =
    or_left (is_pair l.from.0 l.to.0 l) (links_to links l.from.0 l.to.0)
    (and_from (l.from.0 == l.from.0) (l.to.0 == l.to.0) (eq-eqb l.from.0 l.from.0 refl) (eq-eqb l.to.0 l.to.0 refl))

onto : (l : Link) (links : List Link) (a : ℕ) → Reaches links a l.from.0 → Way (l ∷ links) a l.to.0
onto l links a (inl same) = subst (λ n. Way (l ∷ links) n l.to.0) (sym same) (linked (own_link l links))
onto l links a (inr way) =
    join (l ∷ links) a l.from.0 l.to.0 (widen l links a l.from.0 way) (linked (own_link l links))

unsplit_parts : (l : Link) (links : List Link) (a b : ℕ) → Reaches links a l.from.0 → Reaches links l.to.0 b → Way (l ∷ links) a b
unsplit_parts l links a b up (inl same) = subst (λ n. Way (l ∷ links) a n) same (onto l links a up)
unsplit_parts l links a b up (inr down) = join (l ∷ links) a l.to.0 b (onto l links a up) (widen l links l.to.0 b down)

unsplit : (l : Link) (links : List Link) (a b : ℕ) → Splits l links a b → Way (l ∷ links) a b
unsplit l links a b (inl way) = widen l links a b way
unsplit l links a b (inr parts) = unsplit_parts l links a b parts.0 parts.1

-- ---- the test

reached : (links : List Link) (a b : ℕ) → (dominates links a b ≡ true → Way links a b) → ((a == b) || dominates links a b) ≡ true → Reaches links a b
reached links a b sound passes =
    ⊎_elim (λ (e : (a == b) ≡ true). inl (eqb-true a b e)) (λ (p : dominates links a b ≡ true). inr (sound p))
    (or_split (a == b) (dominates links a b) passes)

flip_eq : (a b : ℕ) (x : Bool) → ((a == b) || x) ≡ true → ((b == a) || x) ≡ true
flip_eq a b x h =
    ⊎_elim (λ (e : (a == b) ≡ true). or_left (b == a) x (eq-eqb b a (sym (eqb-true a b e)))) (λ (p : x ≡ true). or_right (b == a) x p)
    (or_split (a == b) x h)

pub sound : (links : List Link) (a b : ℕ) → dominates links a b ≡ true → Way links a b
sound [] a b h = absurd cc
sound (l ∷ links) a b h =
    ⊎_elim
    (λ (p : dominates links a b ≡ true). unsplit l links a b (inl (sound links a b p)))
    (λ (p : (((l.from.0 == a) || dominates links a l.from.0) && ((l.to.0 == b) || dominates links l.to.0 b)) ≡ true).
    let parts = and_parts ((l.from.0 == a) || dominates links a l.from.0) ((l.to.0 == b) || dominates links l.to.0 b) p in
    unsplit l links a b (inr (
      reached links a l.from.0 (sound links a l.from.0) (flip_eq l.from.0 a (dominates links a l.from.0) parts.0),
      reached links l.to.0 b (sound links l.to.0 b) parts.1,
    )))
    (or_split (dominates links a b) _ h)

reaches : (links : List Link) (a b : ℕ) → (Way links a b → dominates links a b ≡ true) → Reaches links a b → ((a == b) || dominates links a b) ≡ true
reaches links a b whole (inl same) = or_left (a == b) (dominates links a b) (eq-eqb a b same)
reaches links a b whole (inr way) = or_right (a == b) (dominates links a b) (whole way)

no_way : (a b : ℕ) → Way [] a b → ⊥
no_way a b (linked h) = cc
no_way a b (further h p) = cc

pub complete : (links : List Link) (a b : ℕ) → Way links a b → dominates links a b ≡ true
complete [] a b p = absurd (no_way a b p)
complete (l ∷ links) a b p =
    by_split (split l links a b p) (complete links a b) (complete links a l.from.0) (complete links l.to.0 b)
  where
    by_split : Splits l links a b → (Way links a b → dominates links a b ≡ true) → (Way links a l.from.0 → dominates links a l.from.0 ≡ true) →
        (Way links l.to.0 b → dominates links l.to.0 b ≡ true) → dominates (l ∷ links) a b ≡ true
    by_split (inl way) whole up down = or_left (dominates links a b) _ (whole way)
    by_split (inr parts) whole up down =
        or_right (dominates links a b) _
        (and_from _ _ (flip_eq a l.from.0 (dominates links a l.from.0) (reaches links a l.from.0 up parts.0)) (reaches links l.to.0 b down parts.1))

-- ---- lists of ids

chain_way : (links : List Link) (a b : ℕ) (between : List ℕ) → IsChain links (a ∷ between ++ b ∷ []) → Way links a b
chain_way links a b [] chain = linked chain.0
chain_way links a b (m ∷ between) chain = further chain.0 (chain_way links m b between chain.1)

way_chain : (links : List Link) (a b : ℕ) → Way links a b → Dominates links a b
way_chain links a b (linked h) = record { between = []; chain = (h, tt) }
way_chain links a b (further {b = m} h p) =
    let rest = way_chain links m b p in
    record { between = m ∷ rest.between; chain = (h, rest.chain) }

pub by_chains : DominanceIsByChains
by_chains links a b = (
  λ h. way_chain links a b (sound links a b h),
  λ (d : Dominates links a b). complete links a b (chain_way links a b d.between d.chain),
)

-- ---- the first link

-- a child that passes a test, and the link to it
pub record Child (links : List Link) (a : ℕ) (test : ItemId → Bool) : Type 0 where
  pub id : ItemId
  pub there : links_to links a id.0 ≡ true
  pub passes : test id ≡ true

-- the items at the lower ends of these links
abbrev pub lower_ends : List Link → List ItemId
lower_ends links = map (λ l. l.to) links

pub child_of : (links : List Link) (a : ItemId) (test : ItemId → Bool) → list_any test (children_of a links) ≡ true → Child links a.0 test
child_of [] a test h = absurd cc
child_of (l ∷ links) a test h = by (l.from.0 == a.0) refl (λ rest. child_of links a test rest) h
  where
    later : Child links a.0 test → Child (l ∷ links) a.0 test
    later child = record {
      id = child.id;
      there = or_right (is_pair a.0 child.id.0 l) (links_to links a.0 child.id.0) child.there;
      passes = child.passes;
    }

    by : (b : Bool) → (l.from.0 == a.0) ≡ b → (list_any test (children_of a links) ≡ true → Child links a.0 test) →
        list_any test (lower_ends (cond b (l ∷ filter (λ k. k.from.0 == a.0) links) (filter (λ k. k.from.0 == a.0) links))) ≡ true →
        Child (l ∷ links) a.0 test
    by true is rest any =
        ⊎_elim
        (λ (first : test l.to ≡ true). record {
          id = l.to;
          there = or_left (is_pair a.0 l.to.0 l) (links_to links a.0 l.to.0) (and_from (l.from.0 == a.0) (l.to.0 == l.to.0) is (eq-eqb l.to.0 l.to.0 refl));
          passes = first;
        })
        (λ (more : list_any test (children_of a links) ≡ true). later (rest more))
        (or_split (test l.to) (list_any test (children_of a links)) any)
    by false is rest any = later (rest any)

pub has_child : (links : List Link) (a : ItemId) (c : ℕ) (test : ItemId → Bool) → links_to links a.0 c ≡ true →
    ((i : ItemId) → i.0 ≡ c → test i ≡ true) → list_any test (children_of a links) ≡ true
has_child [] a c test h passes = absurd cc
has_child (l ∷ links) a c test h passes =
    by (l.from.0 == a.0) refl (or_split (is_pair a.0 c l) (links_to links a.0 c) h) (λ rest. has_child links a c test rest passes)
  where
    by : (b : Bool) → (l.from.0 == a.0) ≡ b → (is_pair a.0 c l ≡ true) ⊎ (links_to links a.0 c ≡ true) →
        (links_to links a.0 c ≡ true → list_any test (children_of a links) ≡ true) →
        list_any test (lower_ends (cond b (l ∷ filter (λ k. k.from.0 == a.0) links) (filter (λ k. k.from.0 == a.0) links))) ≡ true
    by true is (inl first) rest = or_left (test l.to) (list_any test (children_of a links)) (passes l.to (pair_to l a.0 c first))
    by true is (inr more) rest = or_right (test l.to) (list_any test (children_of a links)) (rest more)
    by false is (inl first) rest = let from = and_parts (l.from.0 == a.0) (l.to.0 == c) first in absurd (cc from.0)
    by false is (inr more) rest = rest more

first_there : (links : List Link) (a : ItemId) (b : ℕ) → Way links a.0 b → list_any (is_or_dominates links b) (children_of a links) ≡ true
first_there links a b (linked h) =
    has_child links a b (is_or_dominates links b) h (λ i same. or_left (i.0 == b) (dominates links i.0 b) (eq-eqb i.0 b same))
first_there links a b (further {b = m} h p) =
    has_child links a m (is_or_dominates links b) h
    (λ i same. or_right (i.0 == b) (dominates links i.0 b) (complete links i.0 b (subst (λ n. Way links n b) (sym same) p)))

first_back : (links : List Link) (a : ItemId) (b : ℕ) → Child links a.0 (is_or_dominates links b) → Way links a.0 b
first_back links a b child =
    ⊎_elim
    (λ (e : (child.id.0 == b) ≡ true). subst (λ n. Way links a.0 n) (eqb-true child.id.0 b e) (linked child.there))
    (λ (p : dominates links child.id.0 b ≡ true). further child.there (sound links child.id.0 b p))
    (or_split (child.id.0 == b) (dominates links child.id.0 b) child.passes)

pub by_first_links : DominanceIsByFirstLinks
by_first_links links a b =
    same_truth (dominates links a.0 b) (list_any (is_or_dominates links b) (children_of a links))
    (λ h. first_there links a b (sound links a.0 b h))
    (λ h. complete links a.0 b (first_back links a b (child_of links a (is_or_dominates links b) h)))
