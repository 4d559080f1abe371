use Rattle.std.specs.Prelude.{string_bytes}
use Rattle.grid_writing.proofs.Loops.{line_put}
use Rattle.grid_writing.proofs.lines.put_line.Goals as goal

pub returns : goal.returns
returns c = λ rest.
    line_put (string_bytes c.args.made.now) (string_bytes c.push_str.new.self) (string_bytes c.push_str-2.new.self) (string_bytes c.push_str-3.new.self) c.args.lead.now c.args.value.now c.args.end.now rest
    c.in_ok-push_str.ensures.bytes c.in_ok-push_str-2.ensures.bytes c.in_ok-push_str-3.ensures.bytes
