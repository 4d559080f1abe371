-- What may be sent to a thread, and what threads may share.
use denote.Param.Send.{IsSend, IsSync, sendable, view_send, view_sync}
use denote.Param.SendFields.{declared_send, declared_sync}
use Rattle.std.proofs.Crossing.{crosses}
use Rattle.std.proofs.MapsCrossing.{String-send, String-sync}
use Rattle.std.proofs.option.Option.TheSendSync as option
use Rattle.label_match.specs.contracts.pattern.Pattern as pattern
use Rattle.regex.specs.contracts.string.regex.Regex as regex
use Rattle.regex.specs.contracts.pattern.Pattern as inner
use Rattle.regex_hir.proofs.look.Look.TheSendSync as look
use Rattle.regex_hir.specs.contracts.hir.Hir as hir
use Rattle.regex.below.regex_class.proofs.Class.TheSendSync as class
use Rattle.regex_hir.proofs.hir.Hir.TheLaws.TheKnot.{send-Hir, sync-Hir}
use Rattle.regex_meta.proofs.plan.Role.TheSendSync as role
use Rattle.regex_meta.specs.contracts.program.Program as program
use Rattle.regex_meta.specs.contracts.plan.Plan as plan
use Rattle.regex_meta.specs.contracts.plan.Plans as plans
use Rattle.regex_meta.specs.contracts.signs.Signs as signs
use Rattle.regex.below.regex_dfa.proofs.dfa.Dfa.TheSendSync as dfa
use Rattle.regex.below.regex_extract.proofs.frames.Frame.TheSendSync as frame
use Rattle.regex.below.regex_literal.proofs.byte_set.ByteSet.TheSendSync as byte_set
use Rattle.regex.below.regex_literal.proofs.caseless.Caseless.TheSendSync as caseless
use Rattle.regex.below.regex_literal.proofs.ladder.Ladder.TheSendSync as ladder
use Rattle.regex.below.regex_literal.proofs.prefilter.Prefilter.TheSendSync as prefilter

hir_send : IsSend hir.the_row
hir_send = search (send-Hir, class.the_field_send, look.the_field_send, option.the_field_send, crosses, sendable) depth 30

hir_sync : IsSync hir.the_row
hir_sync = search (sync-Hir, class.the_field_sync, look.the_field_sync, option.the_field_sync, crosses, sendable) depth 30

plan_send : IsSend plan.the_row
plan_send = search (hir_send, role.the_field_send, prefilter.the_send, frame.the_send, ladder.the_field_send, option.the_field_send, sendable) depth 30

plan_sync : IsSync plan.the_row
plan_sync = search (hir_sync, role.the_field_sync, prefilter.the_sync, frame.the_sync, ladder.the_field_sync, option.the_field_sync, sendable) depth 30

plans_send : IsSend plans.the_row
plans_send = declared_send plans.the_type (search (plan_send, crosses) depth 30, tt)

plans_sync : IsSync plans.the_row
plans_sync = declared_sync plans.the_type (search (plan_sync, crosses) depth 30, tt)

signs_send : IsSend signs.the_row
signs_send = search (hir_send, caseless.the_send, crosses, sendable) depth 30

signs_sync : IsSync signs.the_row
signs_sync = search (hir_sync, caseless.the_sync, crosses, sendable) depth 30

program_send : IsSend program.the_row
program_send = declared_send program.the_type (
  hir_send,
  (
    search (dfa.the_field_send, sendable) depth 30,
    (
      plans_send,
      (
        search (signs_send, option.the_field_send, crosses, sendable) depth 30,
        (
          search (byte_set.the_send, option.the_field_send, sendable) depth 30,
          (
            search sendable depth 30,
            (
              search sendable depth 30,
              (search (option.the_field_send, sendable) depth 30, tt),
            ),
          ),
        ),
      ),
    ),
  ),
)

program_sync : IsSync program.the_row
program_sync = declared_sync program.the_type (
  hir_sync,
  (
    search (dfa.the_field_sync, sendable) depth 30,
    (
      plans_sync,
      (
        search (signs_sync, option.the_field_sync, crosses, sendable) depth 30,
        (
          search (byte_set.the_sync, option.the_field_sync, sendable) depth 30,
          (
            search sendable depth 30,
            (
              search sendable depth 30,
              (search (option.the_field_sync, sendable) depth 30, tt),
            ),
          ),
        ),
      ),
    ),
  ),
)

inner_send : IsSend inner.the_row
inner_send = declared_send inner.the_type (String-send, (search sendable depth 20, (search (crosses, String-send, sendable) depth 20, (program_send, tt))))

inner_sync : IsSync inner.the_row
inner_sync = declared_sync inner.the_type (String-sync, (search sendable depth 20, (search (crosses, String-sync, sendable) depth 20, (program_sync, tt))))

pub regex_send : IsSend regex.the_row
regex_send = declared_send regex.the_type (inner_send, tt)

pub regex_sync : IsSync regex.the_row
regex_sync = declared_sync regex.the_type (inner_sync, tt)

pub pattern_send : IsSend pattern.the_row
pattern_send = view_send pattern.TheInside.the_row _ _ _ _ (declared_send pattern.TheInside.the_type (String-send, (regex_send, tt)))

pub pattern_sync : IsSync pattern.the_row
pattern_sync = view_sync pattern.TheInside.the_row _ _ _ _ (declared_sync pattern.TheInside.the_type (String-sync, (regex_sync, tt)))
