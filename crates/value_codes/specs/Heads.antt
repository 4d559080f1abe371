-- The forms of configurations.
use Rattle.std.specs.Prelude.{ℕ, zero, suc}
use Rattle.emu_names.specs.declared.kinds.LinkKind.{LinkKind}
use Rattle.emu_names.specs.declared.kinds.LinkKind.TheVariants as link_kinds
use Rattle.db_config.specs.declared.attributes.AttributeDef.{AttributeDef}
use Rattle.db_config.specs.declared.groups.GroupDef.{GroupDef}
use Rattle.db_config.specs.declared.parts.ConfigParts.{ConfigParts}
use Rattle.db_config.specs.declared.parts.LevelDef.{LevelDef}
use Rattle.db_config.specs.declared.parts.LinkDef.{LinkDef}
use Rattle.byte_forms.specs.Forms.{Form}
use Rattle.byte_forms.specs.Parts.{pair, shaped, led, just, byte_is, byte_below, option_of, u32_form}
use Rattle.byte_forms.specs.Lists.{list_of}
use Rattle.byte_forms.specs.Utf8.{text_form}
use Rattle.value_codes.specs.Annots.{level_kind_form}

-- a label group: its name, its values
unfoldable pub group_form : Form GroupDef
group_form = shaped (pair text_form (list_of text_form)) (λ p. record { name = p.0; values = p.1 }) (λ g. (g.name, g.values))

-- an attribute: its name, perhaps its legal labels, its label groups
unfoldable pub attribute_form : Form AttributeDef
attribute_form = shaped (pair text_form (pair (option_of (list_of text_form)) (list_of group_form)))
    (λ p. record { name = p.0; legal = p.1.0; groups = p.1.1 }) (λ a. (a.name, (a.legal, a.groups)))

-- a level: its name, its kind, its attributes
unfoldable pub level_def_form : Form LevelDef
level_def_form = shaped (pair text_form (pair level_kind_form (list_of attribute_form)))
    (λ p. record { name = p.0; kind = p.1.0; attributes = p.1.1 }) (λ l. (l.name, (l.kind, l.attributes)))

-- the place of a kind among the kinds of link definitions
abbrev pub link_place : LinkKind → ℕ
link_place link_kinds.OneToOne = 0
link_place link_kinds.OneToMany = 1
link_place link_kinds.ManyToMany = 2

-- the kind of link definitions at a place
abbrev pub link_kind_at : ℕ → LinkKind
link_kind_at zero = link_kinds.OneToOne
link_kind_at (suc zero) = link_kinds.OneToMany
link_kind_at (suc (suc n)) = link_kinds.ManyToMany

-- a kind of link definitions
unfoldable pub link_kind_form : Form LinkKind
link_kind_form = led (byte_below 3) link_place (λ n. just (link_kind_at n))

-- a link definition: its kind, and the numbers of its upper and its lower level
unfoldable pub link_def_form : Form LinkDef
link_def_form = shaped (pair link_kind_form (pair u32_form u32_form))
    (λ p. record { kind = p.0; upper = p.1.0; lower = p.1.1 }) (λ l. (l.kind, (l.upper, l.lower)))

-- a configuration behind its first byte: its name, UUID, extension, tracks, levels, label groups, link definitions
unfoldable pub parts_form : Form ConfigParts
parts_form = shaped (pair text_form (pair text_form (pair text_form (pair (list_of text_form)
    (pair (list_of level_def_form) (pair (list_of group_form) (list_of link_def_form)))))))
    (λ p. record {
      name = p.0;
      uuid = p.1.0;
      extension = p.1.1.0;
      tracks = p.1.1.1.0;
      levels = p.1.1.1.1.0;
      groups = p.1.1.1.1.1.0;
      links = p.1.1.1.1.1.1;
    })
    (λ c. (c.name, (c.uuid, (c.extension, (c.tracks, (c.levels, (c.groups, c.links)))))))

-- a head: 0, and the configuration
unfoldable pub head_form : Form ConfigParts
head_form = led (byte_is 0) (λ c. 0) (λ n. parts_form)
