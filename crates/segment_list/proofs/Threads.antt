-- What may be sent to a thread.
use denote.Param.Send.{IsSend, sendable, view_send}
use denote.Param.SendFields.{declared_send}
use Rattle.std.proofs.Crossing.{crosses}
use Rattle.emu_names.proofs.series.Series.TheSendSync as series
use Rattle.emu_names.proofs.texts.Text.TheSendSync as text
use Rattle.segment_list.specs.contracts.results.Results as results
use Rattle.segment_list.specs.contracts.listing.Printed as printed
use Rattle.segment_list.specs.contracts.listing.Listing as listing

results_send : IsSend results.the_row
results_send =
    view_send results.TheInside.the_row _ _ _ _ (declared_send results.TheInside.the_type (
      search (crosses, sendable) depth 20,
      (search (crosses, sendable) depth 20, (search (crosses, sendable) depth 20, (search (crosses, sendable) depth 20, tt))),
    ))

printed_send : IsSend printed.the_row
printed_send =
    view_send printed.TheInside.the_row _ _ _ _ (declared_send printed.TheInside.the_type (
      search (crosses, sendable) depth 20,
      (
        search (series.the_send, results_send, sendable) depth 20,
        (search sendable depth 20, (search (text.the_send, sendable) depth 20, tt)),
      ),
    ))

pub listing_send : IsSend listing.the_row
listing_send =
    view_send listing.TheInside.the_row _ _ _ _ (declared_send listing.TheInside.the_type (
      search (series.the_send, printed_send, sendable) depth 20,
      (search sendable depth 20, tt),
    ))
