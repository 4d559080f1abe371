use Rattle.std.proofs.Common.{ap, sym, ◌∙◌}
use Rattle.live_book.specs.Inner.Inverses.{numbered}
use Rattle.query_workers.specs.session_core.Inner.Told.{commit_reply}
use Rattle.query_workers.specs.session_core.Inner.Kept.{head_line}
use Rattle.session_run.proofs.turns.keep_made.Goals as goal

pub returns-in-Ok-clause-reply : goal.returns-in-Ok-clause-reply
returns-in-Ok-clause-reply c = λ request.
    c.commit_reply.ensures request ∙ ap (λ made. commit_reply (head_line c.args.head request) (numbered made)) (sym c.in-Ok.is)
