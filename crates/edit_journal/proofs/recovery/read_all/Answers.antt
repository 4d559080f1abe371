use Rattle.std.proofs.Common.{◌≡◌, ◌∙◌, ◌++◌, length, take, Err, sym, subst, arith}
use Rattle.std.proofs.lemmas.Grind.{common_steps}
use Rattle.emu_disk.proofs.Moments.{goes_on}
use Rattle.edit_journal.specs.Store.{limit}
use Rattle.edit_journal.specs.Inner.Held.{Reads}
use Rattle.edit_journal.proofs.Found.{FrontOf, front_more, front_all, front_long}
use Rattle.edit_journal.proofs.recovery.read_all.Goals as goal

pub returns-then-count-eq0-clause-told : goal.returns-then-count-eq0-clause-told
returns-then-count-eq0-clause-told g c =
    let inv = c.reads.invariant in
    let here : c.len-in-reads.result ≡ length c.reads.bytes.items = omega (arith, c.len-in-reads.ensures, c.reads.bytes.ok.0) in
    front_all (g.D.Disk.reads c.args.disk.now) c.reads.bytes.items c.read.new.buf c.len-in-reads.result c.in-Ok.count here inv.front c.if-count-eq0.true (omega (arith, c.read.auto.buf, c.len-in-reads.array_long))
    (λ xs is. c.in-Ok.ensures.bytes xs (inv.same ∙ is))

pub reads-preserved : goal.reads-preserved
reads-preserved g c =
    let inv = c.reads.invariant in
    let here : c.len-in-reads.result ≡ length c.reads.bytes.items = omega (arith, c.len-in-reads.ensures, c.reads.bytes.ok.0) in
    let more = front_more (g.D.Disk.reads c.args.disk.now) c.reads.bytes.items c.read.new.buf c.len-in-reads.result c.in-Ok.count here inv.front c.in-Ok.ensures.bound (λ xs is. c.in-Ok.ensures.bytes xs (inv.same ∙ is)) in
    let items : c.extend_from_slice.new.self.items ≡ c.reads.bytes.items ++ take c.in-Ok.count c.read.new.buf = grind (arith, common_steps) in
    record {
      front = subst (FrontOf (g.D.Disk.reads c.args.disk.now)) (sym items) more;
      same = c.read.ensures.same ∙ inv.same;
      crash = λ x now. inv.crash x (c.read.ensures.crash x now);
      moments = goes_on g.D.Disk.moment g.D.Disk.left_since c.args.disk.now c.reads.disk c.read.new.self (g.D.Disk.may_leave c.args.disk.now) _ inv.moments c.read.ensures.time (λ x now. inv.crash x (c.read.ensures.crash x now));
      later = omega (arith, inv.later, c.read.ensures.cause.later);
    }

pub returns-clause-damaged : goal.returns-clause-damaged
returns-clause-damaged g c = λ at is.
    let same : limit ≡ at = cc in
    subst (λ n. Reads (g.D.Disk.reads c.args.disk.now) (Err n)) same (front_long (g.D.Disk.reads c.args.disk.now) c.reads.bytes.items c.reads.invariant.front (omega (arith, c.reads.bytes.ok.0)))
