use Rattle.std.proofs.Common.{sym, ◌∙◌}
use Rattle.edit_code.proofs.TagLaws.{tag_none}
use Rattle.edit_code.proofs.tags.read_tag.Goals as goal

pub returns-in-None : goal.returns-in-None
returns-in-None g c =
    tag_none g.K.Tag.kinds g.K.Tag.number_of c.args.from.now c.read_byte_from_to.new.self c.in_ok-number.number c.len-left.result
    c.in_ok-number.ensures.byte (sym c.in-None.is ∙ c.at.ensures) c.len-left.ensures
