-- What a list of links has to keep, for each kind of link definition.
use Rattle.std.specs.Prelude.{ℕ, List, ◌==◌}
use Rattle.std.specs.List.{filter, IsDistinct}
use Rattle.emu_names.specs.declared.kinds.LinkKind.{LinkKind}
use Rattle.emu_names.specs.declared.kinds.LinkKind.TheVariants.{OneToOne, OneToMany, ManyToMany}
use Rattle.link_graph.specs.declared.link.Link.{Link}

-- the links of one definition
abbrev pub of_definition : ℕ → List Link → List Link
of_definition definition links = filter (λ link. link.definition == definition) links

-- no two links lead to the same item
abbrev pub HaveOneParent : List Link → Type 0
HaveOneParent links = IsDistinct (λ a b. a.to.0 == b.to.0) links

-- no two links lead from the same item
abbrev pub HaveOneChild : List Link → Type 0
HaveOneChild links = IsDistinct (λ a b. a.from.0 == b.from.0) links

-- the links of the definition are as its kind asks
abbrev pub KeepKind : LinkKind → ℕ → List Link → Type 0
KeepKind OneToOne definition links =
    HaveOneParent (of_definition definition links) × HaveOneChild (of_definition definition links)
KeepKind OneToMany definition links = HaveOneParent (of_definition definition links)
KeepKind ManyToMany definition links = Unit {0}
