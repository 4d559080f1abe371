use Rattle.std.proofs.Common.{arith}
use Rattle.work_script.proofs.Ordered.{script_comes}
use Rattle.work_script.proofs.Parts.{front_size, is_script, whole_size}
use Rattle.work_script.proofs.lines.work_lines.Goals as goal

pub overflow_cast-first : goal.overflow_cast-first
overflow_cast-first g c =
    let size = front_size c.args.number c.args.bundles c.in_ok-lines.lines c.in_ok-waits.field-0 c.append.new.self c.in_ok-lines.ensures.added c.in_ok-waits.ensures c.in_ok-append.ensures.ok in
    let len = c.len.ensures in
    let few = c.requires in
    omega (arith, size, len, few)

pub overflow_add-first : goal.overflow_add-first
overflow_add-first g c =
    let size = front_size c.args.number c.args.bundles c.in_ok-lines.lines c.in_ok-waits.field-0 c.append.new.self c.in_ok-lines.ensures.added c.in_ok-waits.ensures c.in_ok-append.ensures.ok in
    let len = c.len.ensures in
    let few = c.requires in
    omega (arith, size, len, few)

pub asks-requires : goal.asks-requires
asks-requires g c =
    let size = front_size c.args.number c.args.bundles c.in_ok-lines.lines c.in_ok-waits.field-0 c.append.new.self c.in_ok-lines.ensures.added c.in_ok-waits.ensures c.in_ok-append.ensures.ok in
    let len = c.len.ensures in
    let few = c.requires in
    omega (arith, size, len, few)

pub returns-clause-order : goal.returns-clause-order
returns-clause-order g c =
    script_comes c.args.number c.args.bundles c.append-2.new.self
    (is_script c.args.number c.args.bundles c.in_ok-lines.lines c.in_ok-waits.field-0 c.append.new.self c.in_ok-lines.ensures.added c.in_ok-waits.ensures c.in_ok-append.ensures.ok
    c.in_ok-asks.field-0 c.append-2.new.self c.len.result c.len.ensures c.in_ok-asks.ensures c.in_ok-append-2.ensures.ok)

pub returns-clause-few : goal.returns-clause-few
returns-clause-few g c =
    let size = whole_size c.args.number c.args.bundles c.in_ok-lines.lines c.in_ok-waits.field-0 c.append.new.self c.in_ok-lines.ensures.added c.in_ok-waits.ensures c.in_ok-append.ensures.ok
    c.in_ok-asks.field-0 c.append-2.new.self c.len.result c.in_ok-asks.ensures c.in_ok-append-2.ensures.ok in
    let most = size.1 in
    let few = c.requires in
    (size.0, omega (arith, most, few))
