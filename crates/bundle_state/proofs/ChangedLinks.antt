-- Links keep the link rule where items come and go, and where links do.
use Rattle.std.proofs.Common.{◌≡◌, ℕ, Bool, true, false, cond, not, List, [], ◌∷◌, Option, Some, None, nat_eq, ◌==◌, refl, sym, ◌∙◌, ap, arith, All, eqb-true}
use Rattle.std.specs.List.{filter}
use Rattle.std.proofs.lemmas.Bool.{not-true, or_parts}
use Rattle.std.proofs.lemmas.List.Elements.{All-nil, All-cons, All-head, All-tail, All-weaker}
use Rattle.std.proofs.lemmas.List.Filters.{length-filter_both}
use Rattle.emu_names.specs.declared.kinds.ItemId.{ItemId}
use Rattle.link_graph.specs.declared.link.Link.{Link}
use Rattle.link_graph.specs.Link.{names_item, joins}
use Rattle.link_graph.proofs.Kept.{distinct_filter, keep_filter}
use Rattle.db_config.specs.declared.parts.LinkDef.{LinkDef}
use Rattle.bundle_state.specs.Linked.{kind_of, IsBetween}
use Rattle.bundle_state.proofs.LinksKept.{AreFineLinks}

all_filter : {X : Type 0} (P Q : X → Type 0) (test : X → Bool) → ((x : X) → test x ≡ true → P x → Q x) → (xs : List X) → All P xs → All Q (filter test xs)
all_filter P Q test f [] all = All-nil Q
all_filter {X = X} P Q test f (x ∷ xs) all = by (test x) refl (all_filter P Q test f xs (All-tail P x xs all))
  where
    by : (b : Bool) → test x ≡ b → All Q (filter test xs) → All Q (cond b (x ∷ filter test xs) (filter test xs))
    by true is rest = All-cons Q x (filter test xs) (f x is (All-head P x xs all)) rest
    by false is rest = rest

-- some of the links, where the levels of their items are as before
module _ (defs : List LinkDef) (level new : ℕ → Option ℕ) (test : Link → Bool)
    (same : (link : Link) → test link ≡ true → IsBetween defs level link → IsBetween defs new link) where
  pub fewer_fine : (links : List Link) → AreFineLinks defs level links → AreFineLinks defs new (filter test links)
  fewer_fine links fine = record {
    few = let limit = fine.few in omega (arith, length-filter_both test (λ x. not (test x)) (λ x. refl) links);
    pairs = distinct_filter (λ a b. joins a.from a.to b) test links fine.pairs;
    linked = record {
      between = all_filter (IsBetween defs level) (IsBetween defs new) test same links fine.linked.between;
      kinds = λ number. keep_filter (kind_of defs number) number test links (fine.linked.kinds number);
    };
  }

-- all links, where the levels of their items are as before
pub same_fine : (defs : List LinkDef) (level new : ℕ → Option ℕ) (links : List Link) →
    ((link : Link) → IsBetween defs level link → IsBetween defs new link) → AreFineLinks defs level links → AreFineLinks defs new links
same_fine defs level new links same fine = record {
  few = fine.few;
  pairs = fine.pairs;
  linked = record {
    between = All-weaker (IsBetween defs level) (IsBetween defs new) same links fine.linked.between;
    kinds = fine.linked.kinds;
  };
}

-- another item more
more_level : (id q k upper : ℕ) (before now : Option ℕ) (b : Bool) → nat_eq q id ≡ b → (q ≡ id → before ≡ None) → now ≡ cond b (Some k) before → before ≡ Some upper → now ≡ Some upper
more_level id q k upper before now true is fresh now_is there = absurd (none_some (sym (fresh (eqb-true q id is)) ∙ there))
  where
    none_some : None ≡ Some upper → ⊥
    none_some e = cc
more_level id q k upper before now false is fresh now_is there = now_is ∙ there

module _ (defs : List LinkDef) (level new : ℕ → Option ℕ) (id k : ℕ) (fresh : level id ≡ None)
    (is : (q : ℕ) → new q ≡ cond (nat_eq q id) (Some k) (level q)) where
  kept_at : (q upper : ℕ) → level q ≡ Some upper → new q ≡ Some upper
  kept_at q upper there = more_level id q k upper (level q) (new q) (nat_eq q id) refl (λ e. ap level e ∙ fresh) (is q) there

  pub between_more : (link : Link) → IsBetween defs level link → IsBetween defs new link
  between_more link between = record {
    def = between.def;
    defined = between.defined;
    from = kept_at link.from.0 between.def.upper between.from;
    to = kept_at link.to.0 between.def.lower between.to;
  }

-- an item less
module _ (defs : List LinkDef) (level new : ℕ → Option ℕ) (id : ItemId)
    (is : (q : ℕ) → new q ≡ cond (nat_eq q id.0) None (level q)) where
  pub between_less : (link : Link) → not (names_item id link) ≡ true → IsBetween defs level link → IsBetween defs new link
  between_less link away between =
      let parts : ((link.from.0 == id.0) ≡ false) × ((link.to.0 == id.0) ≡ false) = or_parts (link.from.0 == id.0) (link.to.0 == id.0) (not-true (names_item id link) away) in
      record {
        def = between.def;
        defined = between.defined;
        from = is link.from.0 ∙ ap (λ (b : Bool). cond b None (level link.from.0)) parts.0 ∙ between.from;
        to = is link.to.0 ∙ ap (λ (b : Bool). cond b None (level link.to.0)) parts.1 ∙ between.to;
      }

-- the same levels, found in another way
pub between_alike : (defs : List LinkDef) (level new : ℕ → Option ℕ) → ((q : ℕ) → new q ≡ level q) → (link : Link) → IsBetween defs level link → IsBetween defs new link
between_alike defs level new same link between = record {
  def = between.def;
  defined = between.defined;
  from = same link.from.0 ∙ between.from;
  to = same link.to.0 ∙ between.to;
}
