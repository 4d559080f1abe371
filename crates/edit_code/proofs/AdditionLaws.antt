-- The law of the forms of additions to the configuration.
use Rattle.std.proofs.Common.{◌≡◌, refl, ap}
use Rattle.byte_forms.specs.Forms.{IsForm}
use Rattle.byte_forms.specs.Parts.{pair, imaged}
use Rattle.byte_forms.specs.Utf8.{text_form}
use Rattle.byte_forms.proofs.Laws.{imaged_law, pair_law, led_law}
use Rattle.byte_forms.proofs.TextLaws.{text_law}
use Rattle.value_codes.specs.Heads.{attribute_form, level_def_form, link_kind_form}
use Rattle.value_codes.proofs.AnnotLaws.{made_is}
use Rattle.value_codes.proofs.HeadLaws.{attribute_law, level_def_law, link_kind_law}
use Rattle.edit_rules.specs.declared.acts.ConfigEdit.{ConfigEdit}
use Rattle.edit_rules.specs.declared.acts.ConfigEdit.TheVariants as edits
use Rattle.edit_code.specs.declared.kinds.Addition.{Addition}
use Rattle.edit_code.specs.declared.kinds.Addition.TheVariants as additions
use Rattle.edit_code.specs.Additions.{addition_of, addition_at, addition_form, level_of, attribute_of, link_of}
use Rattle.edit_code.specs.Kinds.{all_additions, addition_number}
use Rattle.edit_code.specs.Tags.{tag_form}
use Rattle.edit_code.proofs.KindLaws.{addition_is_byte, addition_there}
use Rattle.edit_code.proofs.TagLaws.{tag_law}

attribute_fields : IsForm (pair text_form attribute_form)
attribute_fields = pair_law text_form attribute_form text_law attribute_law

link_fields : IsForm (pair link_kind_form (pair text_form text_form))
link_fields =
    pair_law link_kind_form (pair text_form text_form) link_kind_law (pair_law text_form text_form text_law text_law)

parts_law : (a : Addition) → IsForm (addition_at a)
parts_law additions.Level = imaged_law level_def_form edits.AddLevel level_of level_def_law (λ a m. refl)
parts_law additions.Attribute =
    imaged_law (pair text_form attribute_form) (λ p. edits.AddAttribute p.0 p.1) attribute_of attribute_fields (λ a m. refl)
parts_law additions.Link =
    imaged_law (pair link_kind_form (pair text_form text_form)) (λ p. edits.AddLinkDefinition p.0 p.1.0 p.1.1) link_of link_fields (λ a m. refl)

parts_are : (a : Addition) (v : ConfigEdit) → (addition_at a).fits v → addition_of v ≡ a
unfolding imaged
parts_are additions.Level v m = ap addition_of (made_is level_def_form edits.AddLevel v (level_of v) m).1
parts_are additions.Attribute v m =
    ap addition_of (made_is (pair text_form attribute_form) (λ p. edits.AddAttribute p.0 p.1) v (attribute_of v) m).1
parts_are additions.Link v m =
    ap addition_of (made_is (pair link_kind_form (pair text_form text_form)) (λ p. edits.AddLinkDefinition p.0 p.1.0 p.1.1) v (link_of v) m).1

pub addition_law : IsForm addition_form
unfolding addition_form
addition_law =
    led_law (tag_form all_additions addition_number) addition_of addition_at
    (tag_law all_additions addition_number (additions.Level, (addition_is_byte additions.Level, addition_there additions.Level)))
    (λ a m. parts_law a) (λ a v m l. parts_are a v l)
