use Rattle.std.proofs.Common.{◌∙◌, refl, sym, subst, List, ap}
use Rattle.query_workers.specs.session_core.declared.kept_acts.KeptAct.{KeptAct}
use Rattle.query_workers.specs.session_core.Inner.Kept.{head_entry}
use Rattle.edit_rules.specs.declared.commit_fault.EditFault.TheVariants as faults
use Rattle.live_book.proofs.Answering.{memory_is_none}
use Rattle.live_book.proofs.Committing.{refused_commits}
use Rattle.session_run.specs.Inner.Taken.{acts_behind}
use Rattle.session_run.proofs.Commits.{wanting}
use Rattle.session_run.proofs.turns.commit_act.Goals as goal

pub returns-in-Err : goal.returns-in-Err
returns-in-Err g c =
    wanting g.D.Disk.may_leave g.D.Disk.moment g.D.Disk.left_since g.D.Disk.faults c.args.book.now c.args.kept.now.acts c.make_room.new.self.acts c.args.head c.args.act.now c.memory_reply.result
    (refused_commits g.D.Disk.may_leave g.D.Disk.moment g.D.Disk.left_since g.D.Disk.faults g.met.D.Disk.only_now c.args.book.now (head_entry c.args.head c.args.act.now) faults.Memory tt memory_is_none)
    c.make_room.ensures.acts c.memory_reply.ensures

pub returns-in-Ok : goal.returns-in-Ok
returns-in-Ok g c = record {
  made = c.commit_kept-made.result;
  commits = c.commit_kept-made.ensures.commits;
  inverse = c.commit_kept-made.ensures.inverse;
  told = c.keep_made.ensures.reply;
  behind = c.keep_made.ensures.acts ∙ ap (λ (ks : List KeptAct). acts_behind ks c.args.head c.commit_kept-made.result) c.make_room.ensures.acts;
}
