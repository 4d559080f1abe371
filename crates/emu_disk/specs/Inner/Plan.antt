-- Which call of a disk in memory is to fail.
use Rattle.std.specs.Prelude.{◌<◌, Contains, IfSome}
use Rattle.emu_disk.specs.declared.plan.Plan.{Plan}

-- the call that comes next is not to fail
pub record IsDue (plan : Plan) : Type 0 where
  pub not_listed : ¬ Contains plan.failing.items plan.made
  pub not_stopped : IfSome plan.stop (λ n. plan.made < n)
