-- The lines of the script of work: the additions, and the lines in which session 1 waits for those of the others.
use Rattle.std.specs.Prelude.{ℕ, ◌+◌, ◌*◌, ◌-◌, ◌/◌, ◌%◌, List, Ok, min}
use Rattle.edit_rules.specs.declared.acts.Act.{Act}
use Rattle.live_run.specs.session_core.declared.line.Command.TheVariants as commands
use Rattle.live_run.specs.session_core.declared.line.Line.{Line}
use Rattle.live_run.specs.session_core.declared.line.Request.TheVariants as requests
use Rattle.work_script.specs.Script.{each, work_annot, work_key}
use Rattle.work_script.specs.States.{addition}

-- the addition of bundle k
abbrev pub work_act : ℕ → ℕ → Act
work_act number k = addition (work_key k) (work_annot number k)

-- the line that adds bundle k: the sessions 1 to 4 add bundles in turn
abbrev pub adding : ℕ → ℕ → Line
adding number k = record {
  line = k + 2;
  session = record { 0 = k % 4 + 1 };
  command = commands.AddBundle;
  request = requests.Edit (Ok (work_act number k));
}

-- the last of so many bundles that a session adds, where it adds one
abbrev pub last_of : ℕ → ℕ → ℕ
last_of count session = session - 1 + 4 * ((count - session) / 4)

-- a line in which session 1 waits for an earlier line
abbrev pub awaiting : ℕ → ℕ → Line
awaiting line earlier = record {
  line = line;
  session = record { 0 = 1 };
  command = commands.After;
  request = requests.After earlier;
}

-- how many of the sessions 2 to 4 add a bundle
abbrev pub others : ℕ → ℕ
others count = min 3 (count - 1)

-- line i of those in which session 1 waits, counted from 0: for the last addition of session i + 2
abbrev pub wait_of : ℕ → ℕ → Line
wait_of count i = awaiting (count + 2 + i) (last_of count (i + 2) + 2)

-- the lines in which session 1 waits for the last addition of each other session that has one
abbrev pub waits : ℕ → List Line
waits count = each (wait_of count) (others count)
