use Rattle.std.proofs.Common.{[], sym}
use Rattle.std.proofs.lemmas.List.{append-nil}
use Rattle.emu_disk.specs.declared.sure.Mark.TheVariants.{Cut}
use Rattle.emu_disk.proofs.Past.{shortened_to, total_cut, time_to}
use Rattle.emu_disk.proofs.sure.SureDiskDisk.cut.Goals as goal

pub invariant_of-self-clause-replays : goal.invariant_of-self-clause-replays
invariant_of-self-clause-replays c =
    let s = c.args.self.now in
    shortened_to s.marks.items c.push.new.marks.items s.written.items s.bytes.items c.truncate.new.self.items c.args.len s.replays c.truncate.ensures.items c.push.ensures.marks

pub invariant_of-self-clause-all : goal.invariant_of-self-clause-all
invariant_of-self-clause-all c =
    let s = c.args.self.now in
    total_cut s.marks.items c.push.new.marks.items s.written.items c.args.len s.all c.push.ensures.marks

pub returns-then-len-clause-time : goal.returns-then-len-clause-time
returns-then-len-clause-time c =
    let s = c.args.self.now in
    time_to s.marks.items c.push.new.marks.items (Cut c.args.len) s.written.items [] s.written.items c.truncate.new.self.items s.all c.push.ensures.marks (sym (append-nil s.written.items))
    (shortened_to s.marks.items c.push.new.marks.items s.written.items s.bytes.items c.truncate.new.self.items c.args.len s.replays c.truncate.ensures.items c.push.ensures.marks)
