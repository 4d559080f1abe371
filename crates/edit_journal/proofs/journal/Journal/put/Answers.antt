use Rattle.std.proofs.Common.{None, Some, [], ◌∷◌, ◌++◌}
use Rattle.std.proofs.Math.Logic.{∥∥₁_map}
use Rattle.edit_journal.proofs.Kept.{held_after}
use Rattle.edit_journal.proofs.journal.Journal.put.Goals as goal

pub returns-in_err-settle-clause-held : goal.returns-in_err-settle-clause-held
returns-in_err-settle-clause-held g c = ∥∥₁_map c.requires.held (λ (texts, lost, holds). (texts, lost, c.in_err-settle.ensures.err texts lost holds))

pub stage-requires-clause-held : goal.stage-requires-clause-held
stage-requires-clause-held g c = ∥∥₁_map c.requires.held (λ (texts, lost, holds). (texts, None, c.in_ok-settle.ensures.ok texts lost holds))

pub returns-in_err-stage-clause-held : goal.returns-in_err-stage-clause-held
returns-in_err-stage-clause-held g c = ∥∥₁_map c.requires.held (λ (texts, lost, holds). (texts, None, c.in_err-stage.ensures.err texts (c.in_ok-settle.ensures.ok texts lost holds)))

pub open_gate-requires-clause-held : goal.open_gate-requires-clause-held
open_gate-requires-clause-held g c = ∥∥₁_map c.requires.held (λ (texts, lost, holds).
    let is_staged = c.in_ok-stage.ensures.ok texts (c.in_ok-settle.ensures.ok texts lost holds) in
    (texts, None, is_staged.holds))

pub returns-clause-held : goal.returns-clause-held
returns-clause-held g c = ∥∥₁_map c.requires.held (λ (texts, lost, holds).
    let is_staged = c.in_ok-stage.ensures.ok texts (c.in_ok-settle.ensures.ok texts lost holds) in
    held_after g.D.Disk.may_leave c.open_gate.result texts (texts ++ c.args.frame.now ∷ []) (Some c.args.frame.now) c.open_gate.new.self (c.open_gate.ensures.ok texts is_staged) (c.open_gate.ensures.err texts is_staged))
