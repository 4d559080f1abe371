use Rattle.edit_code.proofs.ReadSteps.{body_some, body_none, body_exit}
use Rattle.edit_code.proofs.Exits.{exit_if, session_stops, line_stops}
use Rattle.edit_code.proofs.entries.read_body.Goals as goal

pub returns-in_err-session : goal.returns-in_err-session
returns-in_err-session c =
    exit_if _ _ _ _ _ _ _ c.from_residual.ensures.1 c.in_err-session.ensures
    (λ n e. session_stops c.args.body c.args.from.now n e)

pub returns-in_err-line : goal.returns-in_err-line
returns-in_err-line c =
    exit_if _ _ _ _ _ _ _ c.from_residual-in_err-line.ensures.1 c.in_err-line.ensures
    (λ n e. line_stops c.args.body c.args.from.now c.read.new.from c.in_ok-session.session n c.in_ok-session.ensures e)

pub returns-in_err-act : goal.returns-in_err-act
returns-in_err-act c =
    body_exit c.args.body c.args.from.now c.read.new.from c.read-2.new.from c.read_act.new.from c.in_ok-session.session c.in_ok-line.line
    c.in_ok-session.ensures c.in_ok-line.ensures _ _ c.from_residual-in_err-act.ensures.1 c.in_err-act.ensures

pub returns-in-Some : goal.returns-in-Some
returns-in-Some c =
    body_some c.args.body c.args.from.now c.read.new.from c.read-2.new.from c.read_act.new.from c.in_ok-session.session c.in_ok-line.line
    c.in_ok-session.ensures c.in_ok-line.ensures _ c.in-Some.act c.in_ok-act.ensures c.in-Some.is

pub returns-in-None : goal.returns-in-None
returns-in-None c =
    body_none c.args.body c.args.from.now c.read.new.from c.read-2.new.from c.read_act.new.from c.in_ok-session.session c.in_ok-line.line
    c.in_ok-session.ensures c.in_ok-line.ensures _ c.in_ok-act.ensures c.in-None.is
