-- A parse of all words: the first names a command, and the others are this command's.
use Rattle.std.proofs.Common.{◌≡◌, ◌∙◌, ◌&&◌, ◌||◌, ap, ap₂, sym, subst, refl, ℕ, Bool, true, false, cond, List, [], ◌∷◌, ◌++◌, map, append_assoc, append-nil, Option, Some, None}
use Rattle.std.specs.Prelude.{codes, find, fold, option_map, option_and_then}
use Rattle.std.specs.List.{list_any}
use Rattle.std.specs.Str.{bytes_eq}
use Rattle.std.proofs.lemmas.Slice.Eq.{bytes_eq-Decides}
use Rattle.clap.specs.Kinds.{Kinds, or_else}
use Rattle.clap.specs.declared.error.kind.ErrorKind.{ErrorKind}
use Rattle.clap.specs.declared.error.kind.ErrorKind.TheVariants as kind
use Rattle.clap.specs.Walk.{Names, Row, Rule, Walk, answers_to, idle, nothing_held, rows_after, subcommand_met, walk_from, walked}
use Rattle.clap.specs.Simple.{App, Shape, built, label_of, names_of, subcommand_of}
use Rattle.clap.specs.Faults.{defaults_fault, fault_of, flags_fault, level_fault, turn_fault, walk_fault}
use Rattle.cli_words.specs.declared.words.Words.{Words}
use Rattle.cli_words.specs.Lines.{Form, Line, Text, is_dashed, named, with_dashed, with_word, with_words}
use Rattle.cli_words.specs.Forms.{CommandLine, asked_of, command_lines, words_of}
use Rattle.cli_words.specs.Inner.Apps.{emu}
use Rattle.cli_words.specs.Inner.Readings.{ends_options, read_by, read_found, read_named}
use Rattle.cli_words.proofs.Leaves.{IsRead, ask_read, config_read, export_read, history_read, import_read, live_read, load_read, run_read, textgrid_read, work_read}
use Rattle.cli_words.proofs.Looks.{Look, Looks, long, plain, short}
use Rattle.cli_words.proofs.Shapes.{shape}
use Rattle.cli_words.proofs.Steps.{or_else_none, unless}

-- a parse that met a command, and the words behind it
abbrev met : Text → List Text → Walk
met name words = record { held = nothing_held; waiting = idle; position = 1; is_trailing = false; stopped = Some (name, words) }

-- the words behind are kept as they are
past : (rules : List Rule) (names : Names) (name : Text) (words ws : List Text) → fold (walked rules names) (met name words) ws ≡ met name (words ++ ws)
unfolding walked
past rules names name words [] = ap (met name) (sym (append-nil words))
past rules names name words (w ∷ ws) = past rules names name (words ++ w ∷ []) ws ∙ ap (met name) (append_assoc words (w ∷ []) ws)

-- and nothing is refused of them
past_fault : (s : Shape) (names : Names) (name : Text) (words ws : List Text) → walk_fault s names (met name words) ws ≡ []
unfolding walk_fault walked
past_fault s names name words [] = refl
past_fault s names name words (w ∷ ws) = past_fault s names name (words ++ w ∷ []) ws

not_help : (b : Bool) {A : Type 0} (x y : A) → cond (b && false) x y ≡ y
not_help true x y = refl
not_help false x y = refl

-- the command line has its subcommand, by which it is read
pub record HasSubcommand (line : CommandLine) : Type 0 where
  pub met : subcommand_met (names_of (built emu)) idle line.name ≡ Some line.name
  pub found : find (λ s. answers_to line.name (label_of s)) (built emu).subs ≡ Some (shape line)
  pub name : (shape line).name ≡ line.name
  pub is_read : IsRead line
  pub flags : named line.form.flags [] ≡ None
  pub options : named line.form.options [] ≡ None

module _ (line : CommandLine) (has : HasSubcommand line) (ws : List Text) where
  stops : walked [] (names_of (built emu)) (walk_from nothing_held) line.name ≡ met line.name []
  unfolding walked
  stops = rw has.met refl

  rows_is : subcommand_of emu (line.name ∷ ws) ≡ Some (line.name, rows_after (shape line).rules [] ws)
  rows_is = rw stops (rw (past [] (names_of (built emu)) line.name [] ws) (rw has.found (rw has.name refl)))

  fault_is : fault_of emu (line.name ∷ ws) ≡ level_fault (shape line) [] nothing_held ws false []
  unfolding walk_fault defaults_fault
  fault_is = rw has.met (rw (not_help (bytes_eq line.name (codes "help")) (kind.DisplayHelp ∷ kind.InvalidSubcommand ∷ []) []) (rw stops
      (rw (past [] (names_of (built emu)) line.name [] ws) (rw (past_fault (built emu).top (names_of (built emu)) line.name [] ws) (rw has.found (or_else_none _))))))

  -- what is read of a line that begins with its name
  line_read : find (λ l. bytes_eq line.name l.name) command_lines ≡ Some line → Looks ws
      → unless (fault_of emu (line.name ∷ ws)) (option_and_then (λ p. read_named p.0 p.1) (subcommand_of emu (line.name ∷ ws))) ≡ words_of (line.name ∷ ws)
  line_read is looks = rw fault_is (rw rows_is (rw is (has.is_read ws looks)))

-- ---- a first word that names no command

-- what holds of each command line
abbrev pub Each : (CommandLine → Type 0) → List CommandLine → Type 0
Each P [] = Unit {0}
Each P (line ∷ lines) = P line × Each P lines

all_have : Each HasSubcommand command_lines
all_have = (
  record { met = refl; found = refl; name = refl; is_read = run_read; flags = refl; options = refl },
  (
    record { met = refl; found = refl; name = refl; is_read = live_read; flags = refl; options = refl },
    (
      record { met = refl; found = refl; name = refl; is_read = ask_read; flags = refl; options = refl },
      (
        record { met = refl; found = refl; name = refl; is_read = load_read; flags = refl; options = refl },
        (
          record { met = refl; found = refl; name = refl; is_read = import_read; flags = refl; options = refl },
          (
            record { met = refl; found = refl; name = refl; is_read = export_read; flags = refl; options = refl },
            (
              record { met = refl; found = refl; name = refl; is_read = textgrid_read; flags = refl; options = refl },
              (
                record { met = refl; found = refl; name = refl; is_read = history_read; flags = refl; options = refl },
                (
                  record { met = refl; found = refl; name = refl; is_read = config_read; flags = refl; options = refl },
                  (record { met = refl; found = refl; name = refl; is_read = work_read; flags = refl; options = refl }, tt),
                ),
              ),
            ),
          ),
        ),
      ),
    ),
  ),
)

abbrev pub find_line : Text → List CommandLine → Option CommandLine
find_line name lines = find (λ line. bytes_eq name line.name) lines

-- what holds of each line holds of one that is found, and this has the name
pub found_has : (P : CommandLine → Type 0) (name : Text) (lines : List CommandLine) → Each P lines → (line : CommandLine) → find_line name lines ≡ Some line → P line × (name ≡ line.name)
found_has P name [] all line e = cc
found_has P name (l ∷ ls) all line e = go (bytes_eq name l.name) refl e (found_has P name ls all.1 line)
  where
    go : (b : Bool) → bytes_eq name l.name ≡ b → cond b (Some l) (find_line name ls) ≡ Some line → (find_line name ls ≡ Some line → P line × (name ≡ line.name)) → P line × (name ≡ line.name)
    go true is h rest =
        let same : l ≡ line = cc in
        subst (λ x. P x × (name ≡ x.name)) same (all.0, (bytes_eq-Decides name l.name).0 is)
    go false is h rest = rest h

-- a name that no command line has is no subcommand's
no_line : (name : Text) (lines : List CommandLine) → find_line name lines ≡ None → find (answers_to name) (map (λ l. (l.name, [])) lines) ≡ None
no_line name [] e = refl
no_line name (l ∷ ls) e = go (bytes_eq name l.name) refl e (no_line name ls)
  where
    go : (b : Bool) → bytes_eq name l.name ≡ b → cond b (Some l) (find_line name ls) ≡ None → (find_line name ls ≡ None → find (answers_to name) (map (λ l. (l.name, [])) ls) ≡ None)
        → cond (bytes_eq l.name name || false) (Some (l.name, [])) (find (answers_to name) (map (λ l. (l.name, [])) ls)) ≡ None
    go true is h rest = cc
    go false is h rest = other (bytes_eq l.name name) refl
      where
        other : (c : Bool) → bytes_eq l.name name ≡ c → cond (c || false) (Some (l.name, [])) (find (answers_to name) (map (λ l. (l.name, [])) ls)) ≡ None
        other true same =
            let bad : bytes_eq name l.name ≡ true = (bytes_eq-Decides name l.name).1 (sym ((bytes_eq-Decides l.name name).0 same)) in
            cc
        other false same = rest h

-- a first word that names no subcommand
first_turn : (w : Text) → subcommand_met (names_of (built emu)) idle w ≡ None → Look w
    → (k : ErrorKind) × (ks : Kinds) × (turn_fault (built emu).top (names_of (built emu)) (walk_from nothing_held) w ≡ k ∷ ks)
unfolding flags_fault
first_turn w none (plain v) = (kind.UnknownArgument, kind.InvalidSubcommand ∷ [], rw none (rw v.no_end (rw v.no_long (rw v.no_short refl))))
first_turn w none (long text v) = (kind.UnknownArgument, [], rw none (rw v.no_end (rw v.long refl)))
first_turn w none (short x y flags v) = (kind.UnknownArgument, [], rw none (rw v.no_end (rw v.no_long (rw v.short (rw v.first refl)))))

refused_first : (w : Text) (ws : List Text) (k : ErrorKind) (ks : Kinds) → turn_fault (built emu).top (names_of (built emu)) (walk_from nothing_held) w ≡ k ∷ ks
    → fault_of emu (w ∷ ws) ≡ k ∷ ks
unfolding walk_fault
refused_first w ws k ks fault = rw fault refl

-- what a parse reads of words is what they ask for
pub all_read : (ws : List Text) → Looks ws → unless (fault_of emu ws) (read_found (subcommand_of emu ws)) ≡ words_of ws
unfolding walk_fault defaults_fault
all_read [] l = refl
all_read (w ∷ ws) (look, looks) = go (find_line w command_lines) refl
  where
    go : (o : Option CommandLine) → find_line w command_lines ≡ o → unless (fault_of emu (w ∷ ws)) (read_found (subcommand_of emu (w ∷ ws))) ≡ words_of (w ∷ ws)
    go (Some line) e =
        let has = found_has HasSubcommand w command_lines all_have line e in
        subst (λ x. unless (fault_of emu (x ∷ ws)) (read_found (subcommand_of emu (x ∷ ws))) ≡ words_of (x ∷ ws)) (sym has.1)
        (line_read line has.0 ws (ap (λ x. find_line x command_lines) (sym has.1) ∙ e) looks)
    go None e =
        let first = first_turn w (ap (option_map (λ s. s.0)) (no_line w command_lines e)) look in
        rw (refused_first w ws first.0 first.1 first.2) (rw e refl)

-- ---- the word `--`

dashes_read : (form : Form) (l : Line) → named form.flags [] ≡ None → named form.options [] ≡ None → (waiting : Option Text) → with_dashed form waiting (codes "--") l ≡ None
dashes_read form l f o (Some option) = refl
dashes_read form l f o None = rw f (rw o refl)

no_words : (form : Form) → named form.flags [] ≡ None → named form.options [] ≡ None → (ws : List Text) → list_any ends_options ws ≡ true → (l : Line) → with_words form ws l ≡ None
no_words form f o [] e l = cc
no_words form f o (w ∷ ws) e l = go (ends_options w) refl e (no_words form f o ws)
  where
    onward : (next : Option Line) → ((l : Line) → with_words form ws l ≡ None) → option_and_then (λ n. with_words form ws n) next ≡ None
    onward None rest = refl
    onward (Some n) rest = rest n

    go : (b : Bool) → ends_options w ≡ b → (b || list_any ends_options ws) ≡ true → (list_any ends_options ws ≡ true → (l : Line) → with_words form ws l ≡ None)
        → with_words form (w ∷ ws) l ≡ None
    go true is h rest =
        let same : w ≡ codes "--" = (bytes_eq-Decides w (codes "--")).0 is in
        rw same (rw (dashes_read form l f o l.waiting) refl)
    go false is h rest = onward (with_word form w l) (rest h)

-- words with `--` among them are no command line
pub none_with_dashes : (ws : List Text) → list_any ends_options ws ≡ true → words_of ws ≡ None
none_with_dashes [] e = cc
none_with_dashes (w ∷ ws) e = go (ends_options w) refl e
  where
    behind : (o : Option CommandLine) → find_line w command_lines ≡ o → list_any ends_options ws ≡ true → option_and_then (λ line. asked_of line ws) o ≡ None
    behind None is h = refl
    behind (Some line) is h =
        let has = found_has HasSubcommand w command_lines all_have line is in
        rw (no_words line.form has.0.flags has.0.options ws h _) refl

    go : (b : Bool) → ends_options w ≡ b → (b || list_any ends_options ws) ≡ true → words_of (w ∷ ws) ≡ None
    go true is h = rw ((bytes_eq-Decides w (codes "--")).0 is) refl
    go false is h = behind (find_line w command_lines) refl h
