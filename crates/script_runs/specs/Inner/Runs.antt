-- Words of contracts and loops beside `specs/Runs.antt`; no promise of the program rests on them.
use Rattle.std.specs.Prelude.{List}
use Rattle.live_run.specs.edit_rules.declared.acts.Entry.{Entry}
use Rattle.live_run.specs.session_core.declared.line.Reply.{Reply}
use Rattle.live_run.specs.session_core.InOrder.{Outage}
use Rattle.script_runs.specs.Scripts.{Parsed}
use Rattle.script_runs.specs.Bases.{Base}
use Rattle.script_runs.specs.Runs.{history_from, replies_from, setting_by}

-- the replies to the requests
abbrev pub replies_by : Base → Parsed → List Outage → List Reply
replies_by base p outages = replies_from (setting_by base p 0 0) p outages

-- the history that a run leaves
abbrev pub history_by : Base → Parsed → List Outage → List Entry
history_by base p outages = history_from (setting_by base p 0 0) p outages
