use Rattle.edit_code.specs.Kinds.{all_kinds, inner_kinds, kind_number}
use Rattle.edit_code.proofs.KindLaws.{kind_there}
use Rattle.edit_code.proofs.TagLaws.{tag_inner, tag_fewer}
use Rattle.edit_code.proofs.edits.read_inner_kind.Goals as goal

pub returns-in-Ok : goal.returns-in-Ok
returns-in-Ok c =
    tag_inner all_kinds inner_kinds kind_number c.args.from.now c.read_tag.new.from c.in-Ok.kind c.len-left.result c.inner_or.result
    c.in-Ok.ensures c.len-left.ensures c.inner_or.ensures

pub returns-in-Err : goal.returns-in-Err
returns-in-Err c =
    tag_fewer all_kinds inner_kinds kind_number kind_there c.args.from.now c.read_tag.new.from c.in-Err.fault c.in-Err.ensures
