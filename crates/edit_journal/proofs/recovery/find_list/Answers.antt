use Rattle.std.proofs.Common.{◌≡◌, ◌∙◌, Err, length, refl, ap, arith, length-append}
use Rattle.edit_journal.specs.Store.{start}
use Rattle.edit_journal.specs.Held.{texts_of}
use Rattle.edit_journal.proofs.Found.{front_next, front_closed, closed_read, damaged_read}
use Rattle.edit_journal.proofs.recovery.find_list.Goals as goal

pub returns-in-Closed-clause-ok : goal.returns-in-Closed-clause-ok
returns-in-Closed-clause-ok c =
    let front = c.gates.invariant in
    let stood = c.in-Closed.ensures in
    let stands = front_closed c.args.bytes.now c.gates.rest.now c.gates.bodies c.gates.at stood.0 stood.1 front stood.2 stood.3 c.requires.fits in
    record {
      read = closed_read c.args.bytes.now c.gates.rest.now c.gates.bodies c.gates.at front stands;
      places = front.places;
      sized = front.sized;
      end = front.place;
      small = omega (arith, front.place, ap length front.cut, length-append (start (texts_of c.gates.bodies)) c.gates.rest.now, c.requires.fits);
      by_gate = refl;
      stands = stands;
    }

pub returns-in-Damaged-clause-damaged : goal.returns-in-Damaged-clause-damaged
returns-in-Damaged-clause-damaged c = λ at is.
    let same : c.gates.at ≡ at = cc in
    damaged_read c.args.bytes.now c.gates.rest.now c.gates.bodies c.gates.at c.gates.invariant c.in-Damaged.ensures c.requires.long c.requires.fits ∙ ap Err same

pub gates-preserved : goal.gates-preserved
gates-preserved c =
    let pushed = rw c.in_ok-bytes-in-Open.ensures at c.in_ok-push-in-Open.ensures.ok in
    front_next c.args.bytes.now c.gates.rest.now c.in-Open.behind.now c.gates.bodies c.push.new.self c.gates.at _ c.in-Open.body.now c.gates.invariant c.in-Open.ensures.0 c.in-Open.ensures.1 pushed refl
