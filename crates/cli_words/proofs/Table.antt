-- The command by the rows of the table, one after another.
use Rattle.std.proofs.Common.{◌≡◌, ℕ, ◌+◌, ◌<◌, ◌≤◌, List, [], ◌∷◌, ◌++◌, length, map, take, get_or, refl, sym, ap, ◌∙◌}
use Rattle.std.specs.Prelude.{fold}
use Rattle.std.proofs.lemmas.Grind.{fold-append}
use Rattle.std.proofs.lemmas.List.{map-append, take_all, take_more}
use Rattle.clap.specs.Words.{App, app_of, with_rule, with_subcommand}
use Rattle.clap.specs.declared.builder.command.Command.{Command}
use Rattle.cli_words.specs.Forms.{CommandLine, command_lines}
use Rattle.cli_words.specs.Inner.Apps.{IsApp, bare, emu, leaf, with_lines}
use Rattle.cli_words.specs.Inner.Table.{row_app, taken_rule, with_rows}
use Rattle.cli_words.specs.declared.command.Row.{Row}
use Rattle.cli_words.specs.declared.command.Taken.{Taken}

fold_more : {A X : Type 0} (f : A → X → A) (a : A) (xs : List X) (i : ℕ) (d : X) → i < length xs → fold f a (take (i + 1) xs) ≡ f (fold f a (take i xs)) (get_or xs i d)
fold_more f a xs i d within = ap (fold f a) (take_more xs i d within) ∙ fold-append f a (take i xs) (get_or xs i d ∷ [])

-- one row more
pub row_more : (app : App) (rows : List Row) (i : ℕ) (d : Row) (c r : Command) → i < length rows → IsApp (with_rows app (take i rows)) c
    → IsApp (with_subcommand (app_of c) (row_app (get_or rows i d)).top) r → IsApp (with_rows app (take (i + 1) rows)) r
row_more app rows i d c r within so_far more = record {
  same = more.same ∙ ap (λ a. with_subcommand a (row_app (get_or rows i d)).top) so_far.same
      ∙ sym (fold_more (λ a row. with_subcommand a (row_app row).top) app rows i d within);
  own = more.own;
}

-- with what a subcommand takes
abbrev pub with_all : App → List Taken → App
with_all app takes = fold with_rule app (map taken_rule takes)

one_taken : (app : App) (takes : List Taken) (i : ℕ) (d : Taken) → i < length takes
    → with_all app (take (i + 1) takes) ≡ with_rule (with_all app (take i takes)) (taken_rule (get_or takes i d))
one_taken app takes i d within =
    ap (with_all app) (take_more takes i d within)
    ∙ ap (fold with_rule app) (map-append taken_rule (take i takes) (get_or takes i d ∷ []))
    ∙ fold-append with_rule app (map taken_rule (take i takes)) (taken_rule (get_or takes i d) ∷ [])

-- one thing more that is taken
pub taken_more : (app : App) (takes : List Taken) (i : ℕ) (d : Taken) (c r : Command) → i < length takes → IsApp (with_all app (take i takes)) c
    → IsApp (with_rule (app_of c) (taken_rule (get_or takes i d))) r → IsApp (with_all app (take (i + 1) takes)) r
taken_more app takes i d c r within so_far more = record {
  same = more.same ∙ ap (λ a. with_rule a (taken_rule (get_or takes i d))) so_far.same ∙ sym (one_taken app takes i d within);
  own = more.own;
}

-- with the apps of these subcommands more
abbrev with_apps : App → List App → App
with_apps app subs = fold (λ a sub. with_subcommand a sub.top) app subs

rows_by_apps : (app : App) (rows : List Row) → with_rows app rows ≡ with_apps app (map row_app rows)
rows_by_apps app [] = refl
rows_by_apps app (row ∷ rows) = rows_by_apps (with_subcommand app (row_app row).top) rows

lines_by_apps : (app : App) (lines : List CommandLine) → with_apps app (map leaf lines) ≡ with_lines app lines
lines_by_apps app [] = refl
lines_by_apps app (line ∷ lines) = lines_by_apps (with_subcommand app (leaf line).top) lines

-- all rows are the whole command
pub all_rows : (rows : List Row) (i : ℕ) → length rows ≤ i → map row_app rows ≡ map leaf command_lines → with_rows bare (take i rows) ≡ emu
all_rows rows i over same =
    ap (with_rows bare) (take_all i rows over) ∙ rows_by_apps bare rows ∙ ap (with_apps bare) same ∙ lines_by_apps bare command_lines
