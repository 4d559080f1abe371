-- A small run, worked out: one bundle with two segments is added, and one of them is asked for
-- (EMU-SDMS Manual, "The EMU Query Language": `Phonetic == m`).
use Rattle.std.specs.Prelude.{ℕ, false, List, [], ◌∷◌, Some, codes, None, Ok}
use Rattle.emu_names.specs.declared.kinds.LevelKind.TheVariants as kinds
use Rattle.emu_names.specs.declared.kinds.SessionNo.{SessionNo}
use Rattle.level_items.specs.declared.times.Time.TheVariants.{Span}
use Rattle.level_items.specs.declared.annot.AnnotItem.{AnnotItem}
use Rattle.level_items.specs.declared.annot.Annot.{Annot}
use Rattle.db_config.specs.declared.parts.LevelDef.{LevelDef}
use Rattle.db_config.specs.declared.parts.ConfigParts.{ConfigParts}
use Rattle.edit_undo.specs.edit_rules.declared.acts.Act.{Act}
use Rattle.edit_undo.specs.edit_rules.declared.acts.Act.TheVariants as acts
use Rattle.bundle_edits.specs.declared.edit.Edit.TheVariants as edits
use Rattle.edit_undo.specs.edit_rules.declared.acts.Entry.{Entry}
use Rattle.eql_syntax.specs.declared.query.Op.TheVariants.{Is}
use Rattle.eql_syntax.specs.declared.query.Term.TheVariants.{Test}
use Rattle.eql_syntax.specs.Tree.{Conjunction}
use Rattle.session_core.specs.declared.event.Event.{Event}
use Rattle.session_core.specs.declared.event.Event.TheVariants as events
use Rattle.requery.specs.eql_rows.declared.row.Row.{Row}
use Rattle.session_core.specs.declared.line.Ask.{Ask}
use Rattle.session_core.specs.declared.line.Answer.TheVariants.{Done, Segments}
use Rattle.session_core.specs.declared.line.Command.TheVariants as commands
use Rattle.session_core.specs.declared.line.Request.TheVariants as requests
use Rattle.session_core.specs.declared.line.Line.{Line}
use Rattle.session_core.specs.declared.line.Reply.{Reply}
use Rattle.session_core.specs.Answers.{memory}

-- one SEGMENT level, Phonetic, with one attribute of its name
abbrev pub phonetic_level : LevelDef
phonetic_level = record {
  name = codes "Phonetic";
  kind = kinds.Segment;
  attributes = (record { name = codes "Phonetic"; legal = None; groups = [] }) ∷ [];
}

-- a configuration of that level alone
abbrev pub example_config : ConfigParts
example_config = record {
  name = codes "t";
  uuid = [];
  extension = [];
  tracks = [];
  levels = phonetic_level ∷ [];
  groups = [];
  links = [];
}

-- a segment with one label
abbrev pub segment : ℕ → ℕ → ℕ → List ℕ → AnnotItem
segment id start dur label = record {
  id = record { 0 = id };
  time = Span start dur;
  labels = (record { name = codes "Phonetic"; value = label }) ∷ [];
}

-- V from sample 3749 to 5138, and m from sample 5139 to 6803, at 20,000 Hz
abbrev pub example_annot : Annot
example_annot = record {
  annotates = codes "b1.wav";
  rate = 20000;
  levels = (record {
    name = codes "Phonetic";
    kind = kinds.Segment;
    items = segment 1 3749 1389 (codes "V") ∷ segment 2 5139 1664 (codes "m") ∷ [];
  }) ∷ [];
  links = [];
}

-- that annotation as bundle b1 of session s1
abbrev pub example_act : Act
example_act =
    acts.Edits (edits.AddBundle (record { session = codes "s1"; bundle = codes "b1" }) example_annot ∷ [])

-- the script's session 1
abbrev pub first_session : SessionNo
first_session = record { 0 = 1 }

-- line 2 of a script, whose line 1 gives the configuration
abbrev pub add_line : Line
add_line = record {
  line = 2;
  session = first_session;
  command = commands.AddBundle;
  request = requests.Edit (Ok example_act);
}

-- `Phonetic == m`, with no patterns and no level of the times
abbrev pub example_ask : Ask
example_ask = record {
  prepared = Ok (record {
    query = Conjunction (Test false (codes "Phonetic") Is (codes "m" ∷ []) ∷ []);
    patterns = [];
  });
  time = None;
  requery = None;
}

-- line 3 asks for m
abbrev pub ask_line : Line
ask_line = record {
  line = 3;
  session = first_session;
  command = commands.Query;
  request = requests.Query example_ask;
}

-- the lines behind the configuration
abbrev pub example_lines : List Line
example_lines = add_line ∷ ask_line ∷ []

-- the lines as events of the core
abbrev pub example_events : List Event
example_events =
    events.Edit add_line ∷ events.Look ask_line ∷ events.Piece first_session
    ∷ events.Finish 3 first_session commands.Query ∷ []

-- the entry of the edit
abbrev pub adding : Entry
adding = record { session = first_session; line = 2; act = example_act }

-- the one entry that they leave
abbrev pub example_history : List Entry
example_history = adding ∷ []

-- m, from 256925 to 340175 microseconds
abbrev pub example_row : Row
example_row = record {
  session = codes "s1";
  bundle = codes "b1";
  level = codes "Phonetic";
  attribute = codes "Phonetic";
  labels = codes "m";
  start = Some 256925;
  end = Some 340175;
  sample_start = Some 5139;
  sample_end = Some 6803;
  rate = 20000;
  start_item = record { 0 = 2 };
  end_item = record { 0 = 2 };
  start_pos = 1;
  end_pos = 1;
}

-- the edit is accepted as entry 1, and the query is answered over a state by these rows
abbrev pub replies_with : ℕ → List Row → List Reply
replies_with n rows =
    (record { line = 2; session = first_session; n = Some 1; answer = Done commands.AddBundle })
    ∷ (record { line = 3; session = first_session; n = Some n; answer = Segments rows }) ∷ []

-- the right answer is the segment m after entry 1
abbrev pub example_replies : List Reply
example_replies = replies_with 1 (example_row ∷ [])

-- the edit is answered want of memory
abbrev pub no_memory_reply : Reply
no_memory_reply = record { line = 2; session = first_session; n = None; answer = memory }

-- another entry: session 1, at line 3, takes item 7 out of (s1, b1)
abbrev pub removing : Entry
removing = record {
  session = first_session;
  line = 3;
  act = acts.Edits (edits.RemoveItem (record { session = codes "s1"; bundle = codes "b1" }) (record { 0 = 7 }) ∷ []);
}
