use Rattle.std.proofs.Common.{length, slice_index, ◌-◌, ap, sym, subst, refl, arith}
use Rattle.std.proofs.lemmas.List.{drop_all}
use Rattle.bundle_index.specs.Inner.Keys.{AreBytes, number_of}
use Rattle.bundle_index.proofs.ShortLabels.{all_read, byte_more, number_fits}
use Rattle.bundle_index.proofs.short_keys.number_of.Goals as goal

pub loop-left-init : goal.loop-left-init
loop-left-init c =
    let none = sym (drop_all (length c.args.bytes.now) c.args.bytes.now (omega arith)) in
    record { within = omega arith; number = ap number_of none; bytes = subst AreBytes none tt }

pub loop-left-preserved : goal.loop-left-preserved
loop-left-preserved c =
    let so = c.loop-left.invariant in
    let more = byte_more c.args.bytes.now c.loop-left.left c.loop-left.number
    (slice_index c.args.bytes.now (c.loop-left.left - 1)) c.loop-left-test.true so.within refl (omega arith)
    so.number so.bytes in
    record { within = omega (arith, so.within); number = more.0; bytes = more.1 }

pub returns : goal.returns
returns c =
    let so = c.loop-left.invariant in
    let read = all_read c.args.bytes.now c.loop-left.left c.loop-left.number c.loop-left-test.false so.number so.bytes in
    record { number = read.0; bytes = read.1 }

pub overflow_mul-number : goal.overflow_mul-number
overflow_mul-number c =
    let so = c.loop-left.invariant in
    let fits = number_fits c.args.bytes.now c.loop-left.left c.loop-left.number c.loop-left-test.true c.requires so.number so.bytes in
    omega (arith, fits)

pub overflow_add-number : goal.overflow_add-number
overflow_add-number c =
    let so = c.loop-left.invariant in
    let fits = number_fits c.args.bytes.now c.loop-left.left c.loop-left.number c.loop-left-test.true c.requires so.number so.bytes in
    omega (arith, fits)
