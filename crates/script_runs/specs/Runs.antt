-- The run of a script in order, and the text that it writes.
use Rattle.std.specs.Prelude.{IsTrue, ◌≡◌, ◌≤◌, ℕ, Bool, List, [], ◌∷◌, ◌++◌, length, take, map, flat_map, Option, Some, None}
use Rattle.std.specs.Io.KnownBytes.{Appends}
use Rattle.db_config.specs.declared.parts.ConfigParts.{ConfigParts}
use Rattle.live_run.specs.edit_rules.declared.acts.Entry.{Entry}
use Rattle.live_run.specs.session_core.declared.line.Line.{Line}
use Rattle.live_run.specs.session_core.declared.line.Reply.{Reply}
use Rattle.live_run.specs.session_core.Steps.{State, start}
use Rattle.db_config.specs.Valid.{is_valid}
use Rattle.live_run.specs.edit_rules.Database.{KeepsDatabaseRules}
use Rattle.live_run.specs.edit_rules.Effects.{database_after}
use Rattle.live_run.specs.session_core.InOrder.{Outage, in_turn, ComeInOrder}
use Rattle.live_run.specs.session_core.Readings.{IsInOrder}
use Rattle.live_run.specs.session_core.Legal.{Legal}
use Rattle.program_output.specs.reply_texts.Texts.{reply_text}
use Rattle.program_output.specs.Texts.{fault_text}
use Rattle.program_output.specs.Texts.{config_reply, limit_text}
use Rattle.script_runs.specs.Scripts.{Parsed, Stop, limit, at_fault}
use Rattle.script_runs.specs.Bases.{Base, config_by, opening_by, is_stored, counted}

-- What a run is given beside its script: its configuration, once there is one; the history before it; whether
-- there is a store; and the disk's count of faults before and after the run.
pub record Setting : Type 0 where
  pub config : Option ConfigParts
  pub opening : List Entry
  pub store : Bool
  pub faults : ℕ
  pub faults_after : ℕ

-- the replies to requests, and the state behind them once there is a configuration
abbrev pub run_from : List Entry → Bool → Option ConfigParts → List Line → List Outage → List Reply × Option State
run_from opening store None requests outages = ([], None)
run_from opening store (Some config) requests outages = (
  (in_turn store (start config opening) requests outages).0,
  Some (in_turn store (start config opening) requests outages).1,
)

-- the replies to the requests of a script, where memory ran out or the disk failed at these places
abbrev pub replies_from : Setting → Parsed → List Outage → List Reply
replies_from setting p outages = (run_from setting.opening setting.store setting.config p.requests outages).0

-- the history of the state that a run leaves, or the one before it where there was no configuration
abbrev pub history_in : List Entry → Option State → List Entry
history_in opening None = opening
history_in opening (Some st) = st.entries

-- the history that a run leaves
abbrev pub history_from : Setting → Parsed → List Outage → List Entry
history_from setting p outages =
    history_in setting.opening (run_from setting.opening setting.store setting.config p.requests outages).1

-- the text of the reply of the configuration, where the script gives one
abbrev pub config_text : Option ConfigParts → List ℕ
config_text None = []
config_text (Some config) = reply_text config_reply

-- what a run writes: the reply of the configuration, where the script gives one, and then the others
abbrev pub text_from : Setting → Parsed → List Outage → List ℕ
text_from setting p outages = config_text p.config ++ flat_map reply_text (replies_from setting p outages)

-- The same as texts, one for each reply.

-- the text of the reply of the configuration, where the script gives one
abbrev pub config_texts : Option ConfigParts → List (List ℕ)
config_texts None = []
config_texts (Some config) = reply_text config_reply ∷ []

-- the texts of all replies of a run
abbrev pub texts_from : Setting → Parsed → List Outage → List (List ℕ)
texts_from setting p outages = config_texts p.config ++ map reply_text (replies_from setting p outages)

-- texts as one
abbrev pub flat : List (List ℕ) → List ℕ
flat texts = flat_map (λ text. text) texts

-- Texts were written one after another, all but the last one whole, and then a front of that
pub record WritesToLast (before now : Option (List ℕ)) (texts : List (List ℕ)) : Type 0 where
  pub whole : List (List ℕ)
  pub last : List (List ℕ)
  pub one : length last ≤ 1
  pub split : texts ≡ whole ++ last
  pub cut : ℕ
  pub output : Appends before now (flat whole ++ take cut (flat last))

-- A run under a configuration: its replies to these requests, beside the history that it leaves.
pub record RunsUnder (setting : Setting) (config : ConfigParts) (requests : List Line) (replies : List Reply)
    (history : List Entry) : Type 0 where
  -- the configuration keeps its rules
  pub valid : IsTrue (is_valid config)
  -- the numbers of the requests rise, and what they name stands before them
  pub come : ComeInOrder [] requests
  -- the replies are legal beside the history
  pub legal : Legal config setting.opening requests replies history setting.store setting.faults setting.faults_after
  -- each number but a `finish`'s is the number of the entries that stand when its line is done
  pub in_order : IsInOrder setting.opening requests legal.turns
  -- the state after each beginning of the history keeps the rules
  pub states : (n : ℕ) → KeepsDatabaseRules (database_after config (take n history))

-- before there is a configuration there is no request and no reply
abbrev pub Runs : Setting → Option ConfigParts → List Line → List Reply → List Entry → Type 0
Runs setting None requests replies history = (requests ≡ []) × (replies ≡ [])
Runs setting (Some config) requests replies history = RunsUnder setting config requests replies history

-- A run of the requests of a script: each has its place among the outages, and this is the history that it leaves.
pub record IsRunFrom (setting : Setting) (p : Parsed) (outages : List Outage) (history : List Entry) : Type 0 where
  pub each : length outages ≡ length p.requests
  pub made : history ≡ history_from setting p outages
  pub run : Runs setting setting.config p.requests (replies_from setting p outages) history

-- The same by what a run begins with.

-- the setting of a run, by the disk's count of faults before and after it
abbrev pub setting_by : Base → Parsed → ℕ → ℕ → Setting
setting_by base p faults faults_after = record {
  config = config_by base p.config;
  opening = opening_by base;
  store = is_stored base;
  faults = counted base faults;
  faults_after = counted base faults_after;
}

-- what a run writes
abbrev pub run_text : Base → Parsed → List Outage → List ℕ
run_text base p outages = text_from (setting_by base p 0 0) p outages

-- the texts of its replies
abbrev pub run_texts : Base → Parsed → List Outage → List (List ℕ)
run_texts base p outages = texts_from (setting_by base p 0 0) p outages

-- The last line of a run that ends early.

-- by what ends the script: a limit, or a line at fault
abbrev pub stop_text : Stop → List ℕ
stop_text limit = limit_text
stop_text (at_fault number fault) = fault_text number fault
