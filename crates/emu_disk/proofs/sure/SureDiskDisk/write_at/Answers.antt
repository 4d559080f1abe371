use Rattle.std.proofs.Common.{length, refl}
use Rattle.emu_disk.specs.declared.sure.Mark.TheVariants.{Wrote}
use Rattle.emu_disk.proofs.Past.{wrote_to, total_to, time_to}
use Rattle.emu_disk.proofs.sure.SureDiskDisk.write_at.Goals as goal

pub invariant_of-self-2-clause-replays : goal.invariant_of-self-2-clause-replays
invariant_of-self-2-clause-replays c =
    let s = c.args.self.now in
    wrote_to s.marks.items c.push.new.marks.items s.written.items c.extend.new.bytes.items s.bytes.items c.overlay.new.bytes.items c.args.bytes.now c.args.at (length c.args.bytes.now)
    s.replays s.all refl c.overlay.ensures.bytes c.extend.ensures.bytes c.push.ensures.marks

pub invariant_of-self-2-clause-all : goal.invariant_of-self-2-clause-all
invariant_of-self-2-clause-all c =
    let s = c.args.self.now in
    total_to s.marks.items c.push.new.marks.items s.written.items c.extend.new.bytes.items c.args.bytes.now c.args.at (length c.args.bytes.now) s.all refl c.extend.ensures.bytes c.push.ensures.marks

pub returns-clause-time : goal.returns-clause-time
returns-clause-time c =
    let s = c.args.self.now in
    time_to s.marks.items c.push.new.marks.items (Wrote c.args.at (length c.args.bytes.now)) s.written.items c.args.bytes.now c.extend.new.bytes.items c.overlay.new.bytes.items s.all c.push.ensures.marks c.extend.ensures.bytes
    (wrote_to s.marks.items c.push.new.marks.items s.written.items c.extend.new.bytes.items s.bytes.items c.overlay.new.bytes.items c.args.bytes.now c.args.at (length c.args.bytes.now)
    s.replays s.all refl c.overlay.ensures.bytes c.extend.ensures.bytes c.push.ensures.marks)
