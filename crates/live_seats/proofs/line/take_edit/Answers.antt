use Rattle.std.proofs.Common.{Result, None, ap, sym, ◌∙◌, subst}
use Rattle.textgrid.specs.declared.fault.GridFault.{GridFault}
use Rattle.edit_undo.specs.edit_rules.declared.acts.Act.{Act}
use Rattle.query_workers.specs.session_core.declared.line.Reply.{Reply}
use Rattle.query_workers.specs.session_core.declared.line.Request.{Request}
use Rattle.query_workers.specs.session_core.declared.line.Request.TheVariants as requests
use Rattle.query_workers.specs.session_core.declared.head.Head.{Head}
use Rattle.query_workers.specs.session_core.Inner.Told.{or_memory}
use Rattle.live_seats.specs.Inner.Replies.{RepliesTo}
use Rattle.live_seats.proofs.Lines.{grid_replies}
use Rattle.live_seats.proofs.line.take_edit.Goals as goal

abbrev asked : Result Act GridFault → Request
asked r = requests.Edit r

pub take_act-requires-clause-asks : goal.take_act-requires-clause-asks
take_act-requires-clause-asks g c = c.requires.asks ∙ ap asked c.in-Ok.is

pub returns-in-Err-clause-replies : goal.returns-in-Err-clause-replies
returns-in-Err-clause-replies g c looks =
    subst (λ (r : Reply). RepliesTo g.K.Opening.opened c.args.pass.now.list c.answer_grid.new.pass.list c.args.share.now c.args.share.now looks looks c.args.kept.now.acts c.args.kept.now.acts c.args.line.now r None)
    (sym (c.or_memory.ensures ∙ ap (λ (h : Head). or_memory h c.answer_grid.result) c.head.ensures))
    (grid_replies g.K.Opening.opened c.args.pass.now.list c.answer_grid.new.pass.list c.args.share.now looks c.args.kept.now.acts c.args.line.now c.answer_grid.ensures.learnt c.requires.place
    c.in-Err.fault c.answer_grid.result (c.requires.asks ∙ ap asked c.in-Err.is) c.answer_grid.ensures.refused)
