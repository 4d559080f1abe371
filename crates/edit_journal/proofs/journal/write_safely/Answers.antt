use Rattle.std.proofs.Common.{ℕ, List, length}
use Rattle.emu_disk.specs.Disk.{Torn}
use Rattle.emu_disk.specs.Inner.Laws.{torn_same}
use Rattle.emu_disk.proofs.Moments.{started, goes_on}
use Rattle.edit_journal.proofs.journal.write_safely.Goals as goal

pub returns-in_err-write_at-clause-any_moment : goal.returns-in_err-write_at-clause-any_moment
returns-in_err-write_at-clause-any_moment g c =
    let old = c.args.disk.now in
    let n = length c.args.bytes.now in
    let P : List ℕ → Type 0 = λ x. (d : List ℕ) × g.D.Disk.may_leave old d × Torn c.args.at n d x in
    let at_start = started g.D.Disk.moment g.D.Disk.left_since old P (λ x left. (x, g.met.D.Disk.only_now old x left, torn_same c.args.at n x)) in
    goes_on g.D.Disk.moment g.D.Disk.left_since old old c.write_at.new.self P _ at_start c.write_at.ensures.time (λ x now. c.write_at.ensures.crash x now)

pub returns-clause-any_moment : goal.returns-clause-any_moment
returns-clause-any_moment g c =
    let old = c.args.disk.now in
    let n = length c.args.bytes.now in
    let P : List ℕ → Type 0 = λ x. (d : List ℕ) × g.D.Disk.may_leave old d × Torn c.args.at n d x in
    let at_start = started g.D.Disk.moment g.D.Disk.left_since old P (λ x left. (x, g.met.D.Disk.only_now old x left, torn_same c.args.at n x)) in
    let written = goes_on g.D.Disk.moment g.D.Disk.left_since old old c.write_at.new.self P _ at_start c.write_at.ensures.time (λ x now. c.write_at.ensures.crash x now) in
    goes_on g.D.Disk.moment g.D.Disk.left_since old c.write_at.new.self c.sync.new.self P _ written c.sync.ensures.time (λ x now. c.write_at.ensures.crash x (c.sync.ensures.crash x now))
