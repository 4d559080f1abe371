-- What a status says, of a whole call.
use Rattle.std.proofs.Common.{◌≡◌, ◌⊎◌, inl, inr, ℕ, Bool, true, false, List, Option, Some, None, refl, sym, ◌∙◌, ap, subst}
use Rattle.script_runs.specs.program_output.declared.status.Status.{Status}
use Rattle.script_runs.specs.program_output.declared.status.Status.TheVariants as statuses
use Rattle.script_runs.specs.program_output.Texts.{usage_text}
use Rattle.cli_words.specs.declared.words.Words.{Words}
use Rattle.cli_words.specs.declared.words.Words.TheVariants as forms
use Rattle.cli_words.specs.Forms.{words_of}
use Rattle.script_runs.specs.program_output.declared.ending.Ending.{Ending}
use Rattle.emu_cli.specs.Ends.{is_of_store}
use Rattle.script_runs.specs.Says.{Call}
use Rattle.script_runs.specs.program_output.Statuses.{WritesLast, code_of}
use Rattle.emu_cli.specs.Calls.{AskForRun, AsksForStore, CallEnds, IsLiveWords, IsNoCommand, IsNoLive, IsNoRun, IsRunWords, IsWorkWords, RunCompletes, SaysStore, SaysUsage, SaysWork}
use Rattle.emu_cli.specs.Inner.Calls.{EndsApart, live_asked, run_asked}

-- the last line, as a status says it
pub usage_says : (status : Status) (before after : Option (List ℕ)) (w ws : ℕ) (call : Call) → call.written ≡ before → call.written_after ≡ after → call.writes ≡ w → call.writes_after ≡ ws → WritesLast status statuses.Usage before after w ws usage_text → SaysUsage status call
usage_says status before after w ws call b a o n (inl h) = subst (λ st. SaysUsage st call) (sym h.0) (rw (b, a) h.1)
usage_says status before after w ws call b a o n (inr (inl h)) = subst (λ st. SaysUsage st call) (sym h.0) (rw (o, n) h.1, rw (b, a) h.2)
usage_says status before after w ws call b a o n (inr (inr h)) = subst (λ st. SaysUsage st call) (sym h.0) (rw (b, a) h.1)

-- The codes of a call that completes.
pub complete_code : (status : Status) (code : ℕ) → code ≡ code_of status → (status ≡ statuses.Fine) ⊎ (status ≡ statuses.Memory) → (code ≡ 0) ⊎ (code ≡ 8)
complete_code status code is (inl h) = inl (is ∙ ap code_of h)
complete_code status code is (inr h) = inr (is ∙ ap code_of h)

-- What the words ask for.

abbrev some_words : Words → Option Words
some_words w = Some w

abbrev some_flag : Bool → Option Bool
some_flag b = Some b

no_flag : (b : Bool) → None ≡ some_flag b → ⊥
no_flag b h = cc

flag_same : {a b : Bool} → some_flag a ≡ some_flag b → a ≡ b
flag_same h = cc

words_same : {v w : Words} → some_words v ≡ some_words w → v ≡ w
words_same h = cc

pub asked_run : (words : List (List ℕ)) (asked : Words) (store : Bool) → words_of words ≡ Some asked → run_asked asked ≡ Some store → IsRunWords words store
asked_run words (forms.Run s) store h e = h ∙ ap (λ b. some_words (forms.Run b)) (flag_same e)
asked_run words (forms.Live s n) store h e = absurd (no_flag store e)
asked_run words (forms.Ask eql time) store h e = absurd (no_flag store e)
asked_run words (forms.Load name) store h e = absurd (no_flag store e)
asked_run words (forms.Import session bundle rate file) store h e = absurd (no_flag store e)
asked_run words (forms.Export session bundle) store h e = absurd (no_flag store e)
asked_run words (forms.TextGrid session bundle) store h e = absurd (no_flag store e)
asked_run words forms.History store h e = absurd (no_flag store e)
asked_run words forms.Config store h e = absurd (no_flag store e)
asked_run words (forms.Work number bundles) store h e = absurd (no_flag store e)

pub asked_none : (words : List (List ℕ)) (asked : Words) → words_of words ≡ Some asked → run_asked asked ≡ None → IsNoRun words
asked_none words asked h e = λ store r. no_flag store (sym e ∙ ap run_asked (words_same (sym h ∙ r)))

no_words : (w : Words) → None ≡ some_words w → ⊥
no_words w e = cc

usage_none : (words : List (List ℕ)) → words_of words ≡ None → IsNoRun words
usage_none words h = λ store r. no_words (forms.Run store) (sym h ∙ r)

run_same : (words : List (List ℕ)) (a b : Bool) → IsRunWords words a → IsRunWords words b → a ≡ b
run_same words a b h k = flag_same (ap run_asked (words_same (sym h ∙ k)))

pub asked_live : (words : List (List ℕ)) (asked : Words) (store : Bool) → words_of words ≡ Some asked → live_asked asked ≡ Some store → IsLiveWords words store
asked_live words (forms.Live s n) store h e = (n, h ∙ ap (λ b. some_words (forms.Live b n)) (flag_same e))
asked_live words (forms.Run s) store h e = absurd (no_flag store e)
asked_live words (forms.Ask eql time) store h e = absurd (no_flag store e)
asked_live words (forms.Load name) store h e = absurd (no_flag store e)
asked_live words (forms.Import session bundle rate file) store h e = absurd (no_flag store e)
asked_live words (forms.Export session bundle) store h e = absurd (no_flag store e)
asked_live words (forms.TextGrid session bundle) store h e = absurd (no_flag store e)
asked_live words forms.History store h e = absurd (no_flag store e)
asked_live words forms.Config store h e = absurd (no_flag store e)
asked_live words (forms.Work number bundles) store h e = absurd (no_flag store e)

pub asked_no_live : (words : List (List ℕ)) (asked : Words) → words_of words ≡ Some asked → live_asked asked ≡ None → IsNoLive words
asked_no_live words asked h e = λ store r. no_flag store (sym e ∙ ap live_asked (words_same (sym h ∙ r.1)))

usage_no_live : (words : List (List ℕ)) → words_of words ≡ None → IsNoLive words
usage_no_live words h = λ store r. no_words (forms.Live store r.0) (sym h ∙ r.1)

run_is_not_live : (words : List (List ℕ)) (a b : Bool) → IsRunWords words a → IsLiveWords words b → ⊥
run_is_not_live words a b h r = no_flag a (sym (ap run_asked (words_same (sym h ∙ r.1))))

-- words ask for one run alone
pub only_run : (words : List (List ℕ)) (a b : Bool) → IsRunWords words a → AskForRun words b → a ≡ b
only_run words a b h (inl r) = run_same words a b h r
only_run words a b h (inr r) = absurd (run_is_not_live words a b h r)

pub only_live : (words : List (List ℕ)) (a b : Bool) → IsLiveWords words a → AskForRun words b → a ≡ b
only_live words a b h (inl r) = absurd (run_is_not_live words b a r h)
only_live words a b h (inr r) = flag_same (ap live_asked (words_same (sym h.1 ∙ r.1)))

asks_no_run : (words : List (List ℕ)) (store : Bool) → IsNoRun words → IsNoLive words → AskForRun words store → ⊥
asks_no_run words store none none_live (inl r) = none store r
asks_no_run words store none none_live (inr r) = none_live store r

pub none_completes : (words : List (List ℕ)) (calls : Bool → Call) (status : Status) → words_of words ≡ None → RunCompletes words calls status
none_completes words calls status h = λ store r. absurd (asks_no_run words store (usage_none words h) (usage_no_live words h) r)

pub store_false : (words : List (List ℕ)) (store : Bool) → AskForRun words store → (AskForRun words true → ⊥) → store ≡ false
store_false words true h other = absurd (other h)
store_false words false h other = refl

-- Commands on the store.

pub store_words : (words : List (List ℕ)) (asked : Words) → words_of words ≡ Some asked → AsksForStore words → is_of_store asked ≡ true
store_words words asked h (command, k, is) = ap is_of_store (words_same (sym h ∙ k)) ∙ is

not_both : (b : Bool) → b ≡ true → b ≡ false → ⊥
not_both b h k = cc

-- a command that is no run and none on the store is `work`, or none that the program does
apart_ends : (words : List (List ℕ)) (asked : Words) (calls : Bool → Call) (before since images : List ℕ → Type 0) (Stores : Status → Type 0) (Writes : Status → Ending → Type 0) (Last : Type 0) (status : Status) → is_of_store asked ≡ false → words_of words ≡ Some asked → run_asked asked ≡ None → live_asked asked ≡ None →
    EndsApart asked (Writes status) Last → (Last → SaysUsage status (calls false)) → CallEnds words calls before since images Stores (λ st. SaysWork words (Writes st)) status
apart_ends words (forms.Work number bundles) calls before since images Stores Writes Last status is h n l ended usage = inr (inr (inr (inr (inr (number, bundles, h, ended.0, ended.1, ended.2)))))
apart_ends words forms.Config calls before since images Stores Writes Last status is h n l ended usage = absurd (not_both true refl is)
apart_ends words (forms.Run s) calls before since images Stores Writes Last status is h n l ended usage = absurd (no_flag s (sym n))
apart_ends words (forms.Live s workers) calls before since images Stores Writes Last status is h n l ended usage = absurd (no_flag s (sym l))
apart_ends words (forms.Ask eql time) calls before since images Stores Writes Last status is h n l ended usage = absurd (not_both true refl is)
apart_ends words (forms.Load name) calls before since images Stores Writes Last status is h n l ended usage = absurd (not_both true refl is)
apart_ends words (forms.Import session bundle rate file) calls before since images Stores Writes Last status is h n l ended usage = absurd (not_both true refl is)
apart_ends words (forms.Export session bundle) calls before since images Stores Writes Last status is h n l ended usage = absurd (not_both true refl is)
apart_ends words (forms.TextGrid session bundle) calls before since images Stores Writes Last status is h n l ended usage = absurd (not_both true refl is)
apart_ends words forms.History calls before since images Stores Writes Last status is h n l ended usage = absurd (not_both true refl is)

-- a command that is no run is one on the store, `work`, or none that the program does
pub other_ends : (words : List (List ℕ)) (asked : Words) (calls : Bool → Call) (before since images : List ℕ → Type 0) (Ends : Words → Ending → Type 0) (Writes : Status → Ending → Type 0) (Last : Type 0) (status : Status) (b : Bool) → is_of_store asked ≡ b → words_of words ≡ Some asked → run_asked asked ≡ None → live_asked asked ≡ None →
    (is_of_store asked ≡ true → (ending : Ending) × Ends asked ending × Writes status ending) → (is_of_store asked ≡ false → EndsApart asked (Writes status) Last) → (Last → SaysUsage status (calls false)) →
    CallEnds words calls before since images (λ st. SaysStore words Ends (Writes st)) (λ st. SaysWork words (Writes st)) status
other_ends words asked calls before since images Ends Writes Last status true is h n l stored apart usage = inr (inr (inr (inr (inl (asked, h, is, (stored is).0, (stored is).1, (stored is).2)))))
other_ends words asked calls before since images Ends Writes Last status false is h n l stored apart usage =
    apart_ends words asked calls before since images (λ st. SaysStore words Ends (Writes st)) Writes Last status is h n l (apart is) usage

pub other_store : (words : List (List ℕ)) (asked : Words) (b : Bool) → is_of_store asked ≡ b → words_of words ≡ Some asked → (AsksForStore words → ⊥) → is_of_store asked ≡ false
other_store words asked true is h none = absurd (none (asked, h, is))
other_store words asked false is h none = is

pub no_command : (words : List (List ℕ)) → words_of words ≡ None → IsNoCommand words
no_command words h = record { no_run = usage_none words h; no_live = usage_no_live words h; no_store = λ asks. no_words asks.0 (sym h ∙ asks.1); no_work = λ number bundles w. no_words (forms.Work number bundles) (sym h ∙ w) }

-- a run is no command on the store
run_not_stored : (asked : Words) (store : Bool) → run_asked asked ≡ Some store → is_of_store asked ≡ true → ⊥
run_not_stored (forms.Run s) store e is = not_both false is refl
run_not_stored (forms.Live s n) store e is = not_both false is refl
run_not_stored (forms.Ask eql time) store e is = no_flag store e
run_not_stored (forms.Load name) store e is = no_flag store e
run_not_stored (forms.Import session bundle rate file) store e is = no_flag store e
run_not_stored (forms.Export session bundle) store e is = no_flag store e
run_not_stored (forms.TextGrid session bundle) store e is = no_flag store e
run_not_stored forms.History store e is = no_flag store e
run_not_stored forms.Config store e is = no_flag store e
run_not_stored (forms.Work number bundles) store e is = not_both false is refl

live_not_stored : (asked : Words) (store : Bool) → live_asked asked ≡ Some store → is_of_store asked ≡ true → ⊥
live_not_stored (forms.Run s) store e is = not_both false is refl
live_not_stored (forms.Live s n) store e is = not_both false is refl
live_not_stored (forms.Ask eql time) store e is = no_flag store e
live_not_stored (forms.Load name) store e is = no_flag store e
live_not_stored (forms.Import session bundle rate file) store e is = no_flag store e
live_not_stored (forms.Export session bundle) store e is = no_flag store e
live_not_stored (forms.TextGrid session bundle) store e is = no_flag store e
live_not_stored forms.History store e is = no_flag store e
live_not_stored forms.Config store e is = no_flag store e
live_not_stored (forms.Work number bundles) store e is = not_both false is refl

pub runs_no_store : (words : List (List ℕ)) (asked : Words) (store : Bool) → words_of words ≡ Some asked → run_asked asked ≡ Some store → AsksForStore words → ⊥
runs_no_store words asked store h e asks = run_not_stored asked store e (store_words words asked h asks)

pub lives_no_store : (words : List (List ℕ)) (asked : Words) (store : Bool) → words_of words ≡ Some asked → live_asked asked ≡ Some store → AsksForStore words → ⊥
lives_no_store words asked store h e asks = live_not_stored asked store e (store_words words asked h asks)

-- Scripts of work.

pub runs_no_work : (words : List (List ℕ)) (asked : Words) (store : Bool) → words_of words ≡ Some asked → run_asked asked ≡ Some store → (number bundles : ℕ) → IsWorkWords words number bundles → ⊥
runs_no_work words asked store h e number bundles w = no_flag store (ap run_asked (words_same (sym w ∙ h)) ∙ e)

pub lives_no_work : (words : List (List ℕ)) (asked : Words) (store : Bool) → words_of words ≡ Some asked → live_asked asked ≡ Some store → (number bundles : ℕ) → IsWorkWords words number bundles → ⊥
lives_no_work words asked store h e number bundles w = no_flag store (ap live_asked (words_same (sym w ∙ h)) ∙ e)

pub work_words : (words : List (List ℕ)) (asked : Words) (number bundles : ℕ) → words_of words ≡ Some asked → IsWorkWords words number bundles → asked ≡ forms.Work number bundles
work_words words asked number bundles h w = words_same (sym h ∙ w)
