use Rattle.std.proofs.Common.{◌∙◌, ap, arith, length}
use Rattle.book_opening.proofs.HeadCodes.{head_some}
use Rattle.book_opening.proofs.making.head_frame.Goals as goal

pub new-requires-clause-some : goal.new-requires-clause-some
new-requires-clause-some g c = omega (arith, head_some c.args.config.now, ap length (c.as_slice.ensures ∙ c.in_ok-code-in-Some.ensures.code))
