use Rattle.work_script.specs.Inner.Script.{adding}
use Rattle.work_script.proofs.Lists.{each_step}
use Rattle.work_script.proofs.lines.additions.Goals as goal

pub loop-bundle-preserved : goal.loop-bundle-preserved
loop-bundle-preserved c = record {
  made = each_step (adding c.args.number) c.loop-bundle.bundle c.loop-bundle.lines c.push.new.self c.in_ok-adding.field-0 c.loop-bundle.invariant.made c.in_ok-adding.ensures c.in_ok-push.ensures.ok;
}
