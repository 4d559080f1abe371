use Rattle.std.proofs.Common.{codes, string_bytes}
use Rattle.json.specs.Print.{escape}
use Rattle.segment_list.proofs.Pushed.{three}
use Rattle.segment_list.proofs.pieces.push_quoted.Goals as goal

pub returns : goal.returns
returns c =
    three (string_bytes c.args.out.now) (codes "\"") (escape c.args.text.now) (codes "\"")
    c.in_ok-push_str.ensures.bytes c.in_ok-push_within.ensures c.in_ok-push_str-2.ensures.bytes
