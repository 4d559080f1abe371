-- The links that an annotation makes, or the rule that they break first, and the rule that links keep
-- (EMU-SDMS Manual, "The emuDB format": `linkDefinitions` and `links`). What level the item of an id
-- stands on is handed in as a function.
use Rattle.std.specs.Prelude.{◌≡◌, ℕ, Bool, List, [], ◌∷◌, ◌++◌, not, All, Option, Some, None, Result, Ok, Err, ◌&&◌, ◌==◌, if◌then◌else◌, ok_or}
use Rattle.std.specs.List.{list_any, filter, position, slice_get}
use Rattle.std.specs.Option.{option_map_or}
use Rattle.emu_names.specs.declared.kinds.LinkKind.{LinkKind}
use Rattle.emu_names.specs.declared.kinds.LinkKind.TheVariants.{ManyToMany}
use Rattle.emu_names.specs.declared.rules.Broken.{Broken}
use Rattle.emu_names.specs.declared.rules.Broken.TheVariants as rules
use Rattle.emu_names.specs.Steps.{onward}
use Rattle.level_items.specs.declared.annot.AnnotLink.{AnnotLink}
use Rattle.link_graph.specs.declared.link.Link.{Link}
use Rattle.link_graph.specs.Link.{link_of, joins, add_fault}
use Rattle.link_graph.specs.Kind.{KeepKind}
use Rattle.db_config.specs.declared.parts.LinkDef.{LinkDef}
use Rattle.db_config.specs.Lookups.{leads}

-- a value, or the rule that is broken
abbrev pub unless_broken : {A : Type 0} → Option Broken → A → Result A Broken
unless_broken None value = Ok value
unless_broken (Some rule) value = Err rule

-- the kind of the definition of a number; one that is not there asks for nothing
abbrev pub kind_of : List LinkDef → ℕ → LinkKind
kind_of defs number = option_map_or (λ d. d.kind) (slice_get defs number) ManyToMany

-- the number of the definition of a link between the levels of its two items, of which each may be
-- missing
abbrev pub definition_for : List LinkDef → AnnotLink → Option ℕ → Option ℕ → Result ℕ Broken
definition_for defs given None lower = Err (rules.NoItem given.from)
definition_for defs given (Some upper) None = Err (rules.NoItem given.to)
definition_for defs given (Some upper) (Some lower) =
    ok_or (position (leads upper lower) defs) rules.NoLinkDefinition

-- a link of a definition behind these links: a pair that is there is passed over
abbrev pub put_by : List LinkDef → List Link → AnnotLink → ℕ → Result (List Link) Broken
put_by defs links given number =
    if list_any (joins given.from given.to) links then Ok links
    else unless_broken (add_fault (kind_of defs number) number given.from given.to links)
    (links ++ link_of number given.from given.to ∷ [])

-- a link that is given, behind these links
abbrev pub put_link : List LinkDef → (ℕ → Option ℕ) → List Link → AnnotLink → Result (List Link) Broken
put_link defs level links given =
    onward (definition_for defs given (level given.from.0) (level given.to.0))
    (put_by defs links given)

-- the links that are given, one after another, behind these links
abbrev pub put_links : List LinkDef → (ℕ → Option ℕ) → List AnnotLink → List Link → Result (List Link) Broken
put_links defs level [] links = Ok links
put_links defs level (given ∷ more) links =
    onward (put_link defs level links given) (put_links defs level more)

-- a link leads from an item of its definition's upper level to one of its lower level
pub record IsBetween (defs : List LinkDef) (level : ℕ → Option ℕ) (link : Link) : Type 0 where
  pub def : LinkDef
  pub defined : slice_get defs link.definition ≡ Some def
  pub from : level link.from.0 ≡ Some def.upper
  pub to : level link.to.0 ≡ Some def.lower

-- the link rule: each link leads between the levels of its definition, and the links of each definition
-- are as its kind asks
pub record KeepLinkRule (defs : List LinkDef) (level : ℕ → Option ℕ) (links : List Link) : Type 0 where
  pub between : All (IsBetween defs level) links
  pub kinds : (number : ℕ) → KeepKind (kind_of defs number) number links

-- two links that are given have the same two items
abbrev pub same_pair : AnnotLink → AnnotLink → Bool
same_pair a b = (a.from.0 == b.from.0) && (a.to.0 == b.to.0)

-- the pairs that are given, each at its first place
abbrev pub first_places : List AnnotLink → List AnnotLink
first_places [] = []
first_places (given ∷ more) =
    given ∷ filter (λ later. not (same_pair given later)) (first_places more)

-- the pair of items of a link
abbrev pub pair_of : Link → AnnotLink
pair_of link = record { from = link.from; to = link.to }
