use Rattle.live_book.specs.Commits.{entry_of}
use Rattle.live_book.proofs.Ahead.{kept_from}
use Rattle.live_book.proofs.live.Live.edit_kept.Goals as goal

pub returns-clause-edits : goal.returns-clause-edits
returns-clause-edits g c =
    kept_from g.K.Opening.opened (entry_of c.args.session c.args.line c.args.act.now) c.args.pass.now.list c.draft_unless-draft.new.pass.list c.edit_drafted.new.pass.list c.edit_drafted.result
    c.seen-seen.result c.seen-seen.ensures c.draft_unless-draft.ensures.own c.edit_drafted.ensures.edits
