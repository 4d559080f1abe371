use Rattle.std.proofs.Common.{true, false, None, inl, [], ◌∷◌, ◌++◌}
use Rattle.emu_disk.proofs.Moments.{started}
use Rattle.edit_journal.specs.Inner.Held.{DuringAppend}
use Rattle.edit_journal.proofs.Kept.{small_end, stands_may, noted, noted_held, noted_before}
use Rattle.edit_journal.proofs.journal.Journal.append.Goals as goal

pub overflow_sub-self : goal.overflow_sub-self
overflow_sub-self g c = small_end g.D.Disk.may_leave c.args.self.now c.requires

pub returns-then-self-len-clause-held : goal.returns-then-self-len-clause-held
returns-then-self-len-clause-held g c = noted_held g.D.Disk.may_leave c.args.self.now false c.requires

pub returns-then-self-len-clause-any_moment : goal.returns-then-self-len-clause-any_moment
returns-then-self-len-clause-any_moment g c = λ texts lost holds.
    started g.D.Disk.moment g.D.Disk.left_since c.args.self.now.disk (DuringAppend texts lost c.args.frame.now) (λ x left. inl (stands_may g.D.Disk.may_leave texts lost c.args.self.now holds x (g.met.D.Disk.only_now c.args.self.now.disk x left)))

pub returns-in-Ok-clause-held : goal.returns-in-Ok-clause-held
returns-in-Ok-clause-held g c = noted_held g.D.Disk.may_leave c.put.new.self false c.put.ensures.held

pub returns-in-Ok-clause-ok : goal.returns-in-Ok-clause-ok
returns-in-Ok-clause-ok g c = λ texts lost holds. noted g.D.Disk.may_leave (texts ++ c.args.frame.now ∷ []) None c.put.new.self false (c.in-Ok.ensures.ok texts lost holds)

pub returns-in-Ok-clause-safe : goal.returns-in-Ok-clause-safe
returns-in-Ok-clause-safe g c = λ texts lost holds x image. stands_may g.D.Disk.may_leave (texts ++ c.args.frame.now ∷ []) None c.put.new.self (c.in-Ok.ensures.ok texts lost holds) x image

pub returns-in-Err-clause-held : goal.returns-in-Err-clause-held
returns-in-Err-clause-held g c = noted_held g.D.Disk.may_leave c.put.new.self true c.put.ensures.held

pub returns-in-Err-clause-err : goal.returns-in-Err-clause-err
returns-in-Err-clause-err g c = λ texts lost holds. noted_before g.D.Disk.may_leave texts lost c.args.frame.now c.put.new.self true (c.in-Err.ensures.err texts lost holds)
