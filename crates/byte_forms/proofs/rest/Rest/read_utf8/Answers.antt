use Rattle.std.proofs.Common.{◌≡◌, ap, ◌∙◌}
use Rattle.byte_forms.specs.Utf8.{utf8_form}
use Rattle.byte_forms.proofs.TextLaws.{text_done}
use Rattle.byte_forms.proofs.rest.Rest.read_utf8.Goals as goal

pub returns-in_ok-text-in-Some : goal.returns-in_ok-text-in-Some
returns-in_ok-text-in-Some c =
    let seen : c.args.self.now ≡ c.self.inside.bytes.now = cc in
    ap (utf8_form c.args.len).read seen
    ∙ text_done c.args.len c.self.inside.bytes.now c.in_ok-text-in-Some.text c.in-Some.ensures.0 (c.in_ok-text-in-Some.ensures ∙ c.in-Some.ensures.1) c.in-Some.ensures.2
