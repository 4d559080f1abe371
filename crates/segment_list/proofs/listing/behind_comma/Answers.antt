use Rattle.std.proofs.Common.{Some, None, arith}
use Rattle.std.proofs.lemmas.Str.Pattern.{strip_prefix_char}
use Rattle.segment_list.proofs.Parted.{comma_off, no_comma}
use Rattle.segment_list.proofs.listing.behind_comma.Goals as goal

pub returns-in-Some : goal.returns-in-Some
returns-in-Some c rows is =
    comma_off c.args.text.now c.in-Some.rest.now rows
    (strip_prefix_char 44 c.args.text.now (Some c.in-Some.rest) c.in-Some.ensures.cases (omega arith)) is

pub returns-in-None : goal.returns-in-None
returns-in-None c rows is =
    no_comma c.args.text.now rows
    (strip_prefix_char 44 c.args.text.now None c.in-None.ensures.cases (omega arith)) is
