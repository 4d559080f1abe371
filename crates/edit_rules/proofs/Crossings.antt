-- What may be sent to a thread.
use denote.Param.Send.{IsSend, sendable, view_send}
use denote.Param.SendFields.{declared_send}
use Rattle.std.proofs.Crossing.{crosses}
use Rattle.emu_names.proofs.series.Series.TheSendSync as series
use Rattle.edit_rules.specs.contracts.history.Noted as noted
use Rattle.edit_rules.specs.contracts.history.Entries as entries

noted_send : IsSend noted.the_row
noted_send =
    view_send noted.TheInside.the_row _ _ _ _ (declared_send noted.TheInside.the_type (
      search (crosses, sendable) depth 20,
      (search (crosses, sendable) depth 20, (search (crosses, sendable) depth 20, (search (crosses, sendable) depth 20, tt))),
    ))

pub entries_send : IsSend entries.the_row
entries_send =
    view_send entries.TheInside.the_row _ _ _ _
    (declared_send entries.TheInside.the_type (search (series.the_send, noted_send, sendable) depth 20, tt))
