-- The top call: what its words ask for, and what its status says by them.
use Rattle.std.specs.Prelude.{◌≡◌, ◌⊎◌, ◌<◌, ◌-◌, ◌^◌, ℕ, Bool, true, false, List, [], map, Some, string_bytes}
use Rattle.std.specs.declared.string.String.{String}
use Rattle.std.specs.Io.KnownBytes.{Appends}
use Rattle.emu_names.specs.Count.{Rose}
use Rattle.emu_io.specs.Fronts.{WritesFront}
use Rattle.emu_io.specs.declared.traits.Source as sources
use Rattle.emu_io.specs.declared.traits.Sink as sinks
use Rattle.emu_io.specs.declared.folder.Folder as folders
use Rattle.emu_disk.specs.declared.disk.Disk as disks
use Rattle.label_match.specs.declared.maker.PatternMaker as makers
use Rattle.cli_words.specs.declared.words.Words.{Words}
use Rattle.cli_words.specs.declared.words.Words.TheVariants as forms
use Rattle.cli_words.specs.Forms.{words_of}
use Rattle.script_runs.specs.program_output.declared.ending.Ending.{Ending}
use Rattle.script_runs.specs.program_output.declared.ending.Ending.TheVariants as endings
use Rattle.emu_cli.specs.Ends.{EndsOnStore, IsFaultlessOn, folder_told, is_of_store, refusals_told}
use Rattle.script_runs.specs.program_output.declared.status.Status.{Status}
use Rattle.script_runs.specs.program_output.declared.status.Status.TheVariants as statuses
use Rattle.script_runs.specs.Bases.{EachOf}
use Rattle.script_runs.specs.program_output.Texts.{usage_text}
use Rattle.script_runs.specs.Says.{Call, Completes, IsFaultless, Says}
use Rattle.script_runs.specs.program_output.Statuses.{code_of}
use Rattle.script_runs.specs.Lives.{SaysLive}
use Rattle.script_runs.specs.Told.{FinishesBy, call_by}
use Rattle.work_script.specs.Summary.{IsWorkText}

-- the bytes of each word of a command line
abbrev pub texts_of : {A : Type 0} → List (String A) → List (List ℕ)
texts_of words = map (λ w. string_bytes w) words

-- the words ask for a run, without a store or with one
abbrev pub IsRunWords : List (List ℕ) → Bool → Type 0
IsRunWords words store = words_of words ≡ Some (forms.Run store)

-- the words ask for no run
abbrev pub IsNoRun : List (List ℕ) → Type 0
IsNoRun words = (store : Bool) → IsRunWords words store → ⊥

-- the words ask for a live run, without a store or with one, by some number of workers
abbrev pub IsLiveWords : List (List ℕ) → Bool → Type 0
IsLiveWords words store = (workers : ℕ) × (words_of words ≡ Some (forms.Live store workers))

-- the words ask for no live run
abbrev pub IsNoLive : List (List ℕ) → Type 0
IsNoLive words = (store : Bool) → IsLiveWords words store → ⊥

-- the words ask for a run in order or for a live one, without a store or with one
abbrev pub AskForRun : List (List ℕ) → Bool → Type 0
AskForRun words store = IsRunWords words store ⊎ IsLiveWords words store

-- what is said where the words are no command: the last line was written, or a front of it, and a write failed or
-- memory ran out
abbrev pub SaysUsage : Status → Call → Type 0
SaysUsage statuses.Usage call = Appends call.written call.written_after usage_text
SaysUsage statuses.Write call =
    Rose call.writes call.writes_after × WritesFront call.written call.written_after usage_text
SaysUsage statuses.Memory call = WritesFront call.written call.written_after usage_text
SaysUsage status call = ⊥

-- memory ran out before the words were known, and nothing was written; no image is new then
abbrev pub SaysNothing : Status → Call → Type 0
SaysNothing status call = (status ≡ statuses.Memory) × Appends call.written call.written_after []

-- the words ask for a command on the store
abbrev pub AsksForStore : List (List ℕ) → Type 0
AsksForStore words = (command : Words) × (words_of words ≡ Some command) × (is_of_store command ≡ true)

-- the words ask for the script of work of a number, with so many bundles
abbrev pub IsWorkWords : List (List ℕ) → ℕ → ℕ → Type 0
IsWorkWords words number bundles = words_of words ≡ Some (forms.Work number bundles)

-- the words ask for no script of work
abbrev pub IsNoWork : List (List ℕ) → Type 0
IsNoWork words = (number bundles : ℕ) → IsWorkWords words number bundles → ⊥

-- the words ask for nothing that the program does
pub record IsNoCommand (words : List (List ℕ)) : Type 0 where
  pub no_run : IsNoRun words
  pub no_live : IsNoLive words
  pub no_store : AsksForStore words → ⊥
  pub no_work : IsNoWork words

-- a command on the store that the words ask for ended so, and the status goes with the ending
abbrev pub SaysStore : List (List ℕ) → (Words → Ending → Type 0) → (Ending → Type 0) → Type 0
SaysStore words Ends Writes =
    (command : Words) × (words_of words ≡ Some command) × (is_of_store command ≡ true)
    × (ending : Ending) × Ends command ending × Writes ending

-- how `work` ends: with the line of the summary of the script of a number, with so many bundles, or memory ran out
abbrev pub EndsWork : ℕ → ℕ → Ending → Type 0
EndsWork number bundles (endings.Fine text) = IsWorkText number bundles text
EndsWork number bundles endings.Memory = Unit {0}
EndsWork number bundles ending = ⊥

-- a script of work that the words ask for was summed up, and the status goes with the ending
abbrev pub SaysWork : List (List ℕ) → (Ending → Type 0) → Type 0
SaysWork words Writes =
    (number : ℕ) × (bundles : ℕ) × IsWorkWords words number bundles
    × (ending : Ending) × EndsWork number bundles ending × Writes ending

-- What a status says of a call by its words, of the images of its disk before it, of those of some moment since then,
-- and of those after it. The call is given with a store and without; `Stores` is what it says of a command on the store,
-- and `Works` of a script of work.
abbrev pub CallEnds : List (List ℕ) → (Bool → Call) → (List ℕ → Type 0) → (List ℕ → Type 0) → (List ℕ → Type 0)
    → (Status → Type 0) → (Status → Type 0) → Status → Type 0
CallEnds words call before since images Stores Works status =
    ((store : Bool) × IsRunWords words store × Says status (call store) before since images)
    ⊎ (((store : Bool) × IsLiveWords words store × SaysLive status (call store) before images)
    ⊎ ((IsNoCommand words × SaysUsage status (call false))
    ⊎ ((SaysNothing status (call false) × EachOf images before × EachOf since before)
    ⊎ (Stores status ⊎ Works status))))

-- what the code that a call answers says of it
abbrev pub CallSays : List (List ℕ) → (Bool → Call) → (List ℕ → Type 0) → (List ℕ → Type 0) → (List ℕ → Type 0)
    → (Status → Type 0) → (Status → Type 0) → ℕ → Type 0
CallSays words call before since images Stores Works code =
    (status : Status) × (code ≡ code_of status) × CallEnds words call before since images Stores Works status

-- where nothing is wrong outside or in the script, only want of memory keeps a run from its end
abbrev pub RunCompletes : List (List ℕ) → (Bool → Call) → Status → Type 0
RunCompletes words call status = (store : Bool) → AskForRun words store → Completes (call store) status

-- the same of the code
abbrev pub CallCompletes : List (List ℕ) → (Bool → Call) → ℕ → Type 0
CallCompletes words call code =
    (store : Bool) → AskForRun words store → IsFaultless (call store) → (code ≡ 0) ⊎ (code ≡ 8)

-- a command on the store whose outside is faultless ends well, is refused, or memory ran out
abbrev pub CommandCompletes : List (List ℕ) → Type 0 → Status → Type 0
CommandCompletes words IsFaultless status =
    AsksForStore words → IsFaultless
    → (status ≡ statuses.Fine) ⊎ (status ≡ statuses.Refused) ⊎ (status ≡ statuses.Memory)

-- the same of the code
abbrev pub CommandCodeCompletes : List (List ℕ) → Type 0 → ℕ → Type 0
CommandCodeCompletes words IsFaultless code =
    AsksForStore words → IsFaultless → (code ≡ 0) ⊎ (code ≡ 10) ⊎ (code ≡ 8)

-- where no write fails, only want of memory keeps `work` from its line
abbrev pub WorkCodeCompletes : List (List ℕ) → ℕ → ℕ → ℕ → Type 0
WorkCodeCompletes words writes writes_after code =
    (number bundles : ℕ) → IsWorkWords words number bundles → writes_after ≡ writes → writes < 2 ^ 64 - 1
    → (code ≡ 0) ⊎ (code ≡ 8)

-- By what source, sink, folder, disk and maker of patterns tell before the call and after it.

module _ {F D P : Type 0} (folder : folders.Ghosts F) (disk : disks.Ghosts D) (maker : makers.Ghosts P)
    (files files_after : F) (before after : D) (patterns patterns_after : P) where
  -- a command on the store ended so
  abbrev pub EndsOnStoreBy : Words → Ending → Type 0
  EndsOnStoreBy command ending =
      EndsOnStore disk (folder_told folder files files_after) (refusals_told maker patterns patterns_after) command ending
      before after

module _ {K F D : Type 0} (sink : sinks.Ghosts K) (folder : folders.Ghosts F) (disk : disks.Ghosts D)
    (words : List (List ℕ)) (out out_after : K) (files files_after : F) (before after : D) where
  -- nothing was at fault outside
  abbrev pub IsFaultlessBy : Type 0
  IsFaultlessBy =
      IsFaultlessOn disk (folder_told folder files files_after) (sink.faults out) (sink.faults out_after) before after

  -- a command on the store then ends well, is refused, or memory ran out
  abbrev pub CommandCompletesBy : Status → Type 0
  CommandCompletesBy status = CommandCompletes words IsFaultlessBy status

  -- the same of the code
  abbrev pub CommandCodeCompletesBy : ℕ → Type 0
  CommandCodeCompletesBy code = CommandCodeCompletes words IsFaultlessBy code

module _ {S K F D P : Type 0} (source : sources.Ghosts S) (sink : sinks.Ghosts K) (folder : folders.Ghosts F)
    (disk : disks.Ghosts D) (maker : makers.Ghosts P) (words : List (List ℕ)) (script script_after : S)
    (out out_after : K) (files files_after : F) (before after : D) (patterns patterns_after : P) where
  -- the call, with a store or without
  abbrev calls : Bool → Call
  calls store =
      call_by source sink disk maker store script script_after out out_after before after patterns patterns_after

  -- what a status says of it where the words ask for a command on the store
  abbrev stores : Status → Type 0
  stores status =
      SaysStore words
      (EndsOnStoreBy folder disk maker files files_after before after patterns patterns_after)
      (FinishesBy sink out out_after status)

  -- what a status says of it where the words ask for a script of work
  abbrev works : Status → Type 0
  works status = SaysWork words (FinishesBy sink out out_after status)

  -- the images of some moment since it began
  abbrev since : List ℕ → Type 0
  since = disk.left_since after (disk.moment before)

  -- what a status says of it
  abbrev pub CallEndsBy : Status → Type 0
  CallEndsBy status = CallEnds words calls (disk.may_leave before) since (disk.may_leave after) stores works status

  -- what the code that it answers says of it
  abbrev pub CallSaysBy : ℕ → Type 0
  CallSaysBy code = CallSays words calls (disk.may_leave before) since (disk.may_leave after) stores works code

  -- where nothing is wrong outside or in the script, only want of memory keeps a run from its end
  abbrev pub RunCompletesBy : Status → Type 0
  RunCompletesBy status = RunCompletes words calls status

  -- the same of the code
  abbrev pub CallCompletesBy : ℕ → Type 0
  CallCompletesBy code = CallCompletes words calls code
