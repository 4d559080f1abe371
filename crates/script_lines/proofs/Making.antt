-- Readings that use what was made of a query, where nothing is asked of a maker.
use Rattle.std.proofs.Common.{◌≡◌, ◌≢◌, ℕ, ◌≤◌, Bool, true, false, List, Option, None, refl, subst, arith, codes}
use Rattle.std.specs.Prelude.{Result, Ok, Err}
use Rattle.std.specs.Result.{IsErrAnd}
use Rattle.emu_names.specs.Count.{RoseBy}
use Rattle.serde_json.specs.Data.{Data}
use Rattle.json_view.specs.declared.faults.Shape.{Shape}
use Rattle.json_view.specs.declared.faults.ViewFault.{ViewFault}
use Rattle.json_view.specs.declared.faults.ViewFault.TheVariants as views
use Rattle.json_view.specs.Seen.{Seen}
use Rattle.json_view.specs.Steps.{◌>>=◌}
use Rattle.emu_names.specs.Texts.{same_text}
use Rattle.session_core.specs.declared.line.Command.{Command}
use Rattle.script_lines.specs.declared.faults.LineFault.{LineFault}
use Rattle.script_lines.specs.declared.faults.LineFault.TheVariants as faults
use Rattle.script_lines.specs.declared.faults.ReadLine.{ReadLine}
use Rattle.script_lines.specs.declared.faults.ReadLine.TheVariants as reads
use Rattle.script_lines.specs.Faults.{form}
use Rattle.script_lines.specs.Inner.Faults.{Reads, as_line_fault, misread}
use Rattle.script_lines.specs.Values.{is_blank, word_of_line}
use Rattle.script_lines.specs.Questions.{Question, question_command}
use Rattle.script_lines.specs.Made.{eql_read, eql_told, eql_in, eql_of}
use Rattle.eql_resolve.specs.Made.{Made}
use Rattle.script_lines.specs.Inner.Made.{no_question}
use Rattle.script_lines.specs.declared.line_set.EarlierLine.{EarlierLine}
use Rattle.script_lines.specs.Lines.{asking_line, told_line, placed_line, value_line, json_line, request_of}
use Rattle.script_lines.specs.Inner.Lines.{ReadsBy, ReadsMade}

-- an answer that goes so in each case goes so
pub reads_made : (result : Result ReadLine LineFault) (asked : Option (List ℕ)) (there : Made → Result ReadLine LineFault) (before now : ℕ)
    → before ≤ now → ReadsBy result asked there before now → ReadsMade result asked there before now
reads_made (Ok read) asked there before now later by = by
reads_made (Err faults.NotJson) asked there before now later by = by
reads_made (Err (faults.Shape s)) asked there before now later by = by
reads_made (Err faults.NoSuchCommand) asked there before now later by = by
reads_made (Err faults.ConfigPlace) asked there before now later by = by
reads_made (Err (faults.Config e)) asked there before now later by = by
reads_made (Err faults.BadAfter) asked there before now later by = by
reads_made (Err faults.BadUndo) asked there before now later by = by
reads_made (Err faults.Memory) asked there before now later by = later

no_refusal : (n : ℕ) → RoseBy 0 n n
no_refusal n = omega arith

-- a line that asks nothing
pub asks_nothing : (result : Result ReadLine LineFault) (there : Made → Result ReadLine LineFault) (n : ℕ)
    → Reads result (there no_question) → ReadsMade result None there n n
asks_nothing result there n read =
    reads_made result None there n n (omega arith)
    (record { made = no_question; of_line = tt; rose = no_refusal n; read = read })

-- the readings behind which nothing is asked

word_stops : (v : ViewFault) (word : Result (List ℕ) Shape) (s : Seen) (rest : Made → List ℕ → Result ReadLine LineFault) (n : ℕ)
    → ((there : Shape) → v ≡ views.Shape there → word ≡ Err there)
    → ReadsMade (Err (as_line_fault v)) (eql_told word s) (λ made. form word >>= rest made) n n
word_stops (views.Shape x) word s rest n tells =
    rw (tells x refl) (asks_nothing (Err (faults.Shape x)) (λ made. Err (faults.Shape x)) n (λ other. refl))
word_stops views.Memory word s rest n tells = omega arith

-- the word of a line is none
pub value_stops : (answer : Result ReadLine LineFault) (v : ViewFault) (number : ℕ) (wants : Bool) (earlier : List EarlierLine) (s : Seen) (n : ℕ)
    → IsErrAnd answer (λ e. e ≡ as_line_fault v)
    → ((there : Shape) → v ≡ views.Shape there → word_of_line s ≡ Err there)
    → ReadsMade answer (eql_told (word_of_line s) s) (λ made. value_line number wants earlier made s) n n
unfolding value_line
value_stops (Ok r) v number wants earlier s n is tells = absurd is
value_stops (Err e) v number wants earlier s n is tells =
    rw is (word_stops v (word_of_line s) s (λ made word. told_line (question_command word) number wants earlier made word s) n tells)

told_nothing : (answer : Result ReadLine LineFault) (word : Result (List ℕ) Shape) (w : List ℕ) (number : ℕ) (wants : Bool) (earlier : List EarlierLine) (s : Seen) (n : ℕ)
    → word ≡ Ok w → question_command w ≡ None
    → Reads answer (placed_line wants (same_text w (codes "config")) number earlier w s)
    → ReadsMade answer (eql_told word s) (λ made. form word >>= λ x. told_line (question_command x) number wants earlier made x s) n n
told_nothing answer word w number wants earlier s n is none reads =
    rw (is, none) (asks_nothing answer (λ made. placed_line wants (same_text w (codes "config")) number earlier w s) n reads)

-- the word of a line is no question's
pub value_none : (answer : Result ReadLine LineFault) (w : List ℕ) (is_config : Bool) (number : ℕ) (wants : Bool) (earlier : List EarlierLine) (s : Seen) (n : ℕ)
    → word_of_line s ≡ Ok w → question_command w ≡ None → is_config ≡ same_text w (codes "config")
    → Reads answer (placed_line wants is_config number earlier w s)
    → ReadsMade answer (eql_told (word_of_line s) s) (λ made. value_line number wants earlier made s) n n
unfolding value_line
value_none answer w is_config number wants earlier s n is none same reads =
    told_nothing answer (word_of_line s) w number wants earlier s n is none
    (subst (λ b. Reads answer (placed_line wants b number earlier w s)) same reads)

-- the members of a question are not of their form
asking_none : (v : ViewFault) (wants : Bool) (number : ℕ) (command : Command) (question : Result Question Shape) (n : ℕ)
    → ((there : Shape) → v ≡ views.Shape there → question ≡ Err there)
    → ReadsMade (Err (misread wants v)) (eql_read question) (λ made. asking_line wants number command made question) n n
asking_none (views.Shape x) true number command question n tells =
    rw (tells x refl) (asks_nothing (Err faults.ConfigPlace) (λ made. Err faults.ConfigPlace) n (λ other. refl))
asking_none (views.Shape x) false number command question n tells =
    rw (tells x refl) (asks_nothing (Err (faults.Shape x)) (λ made. Err (faults.Shape x)) n (λ other. refl))
asking_none views.Memory wants number command question n tells = omega arith

pub asking_stops : (e : LineFault) (v : ViewFault) (wants : Bool) (number : ℕ) (command : Command) (question : Result Question Shape) (n : ℕ)
    → e ≡ misread wants v → ((there : Shape) → v ≡ views.Shape there → question ≡ Err there)
    → ReadsMade (Err e) (eql_read question) (λ made. asking_line wants number command made question) n n
asking_stops e v wants number command question n is tells = rw is (asking_none v wants number command question n tells)

json_none : (e : LineFault) (d : Option Data) (number : ℕ) (wants : Bool) (earlier : List EarlierLine) (n : ℕ)
    → d ≡ None → e ≡ faults.NotJson → ReadsMade (Err e) (eql_in d) (λ made. json_line number wants earlier made d) n n
json_none e d number wants earlier n none is =
    rw (none, is) (asks_nothing (Err faults.NotJson) (λ made. Err faults.NotJson) n (λ other. refl))

json_fault : (e : LineFault) (d : Option Data) (number : ℕ) (wants : Bool) (earlier : List EarlierLine) (n : ℕ)
    → (e ≢ faults.Memory → d ≡ None) → (e ≢ faults.Memory → e ≡ faults.NotJson)
    → ReadsMade (Err e) (eql_in d) (λ made. json_line number wants earlier made d) n n
json_fault faults.NotJson d number wants earlier n none is = json_none faults.NotJson d number wants earlier n (none (λ h. cc)) refl
json_fault (faults.Shape s) d number wants earlier n none is = json_none (faults.Shape s) d number wants earlier n (none (λ h. cc)) (is (λ h. cc))
json_fault faults.NoSuchCommand d number wants earlier n none is = json_none faults.NoSuchCommand d number wants earlier n (none (λ h. cc)) (is (λ h. cc))
json_fault faults.ConfigPlace d number wants earlier n none is = json_none faults.ConfigPlace d number wants earlier n (none (λ h. cc)) (is (λ h. cc))
json_fault (faults.Config c) d number wants earlier n none is = json_none (faults.Config c) d number wants earlier n (none (λ h. cc)) (is (λ h. cc))
json_fault faults.BadAfter d number wants earlier n none is = json_none faults.BadAfter d number wants earlier n (none (λ h. cc)) (is (λ h. cc))
json_fault faults.BadUndo d number wants earlier n none is = json_none faults.BadUndo d number wants earlier n (none (λ h. cc)) (is (λ h. cc))
json_fault faults.Memory d number wants earlier n none is = omega arith

-- the line is no JSON
pub json_stops : (answer : Result ReadLine LineFault) (e : LineFault) (d : Option Data) (number : ℕ) (wants : Bool) (earlier : List EarlierLine) (n : ℕ)
    → IsErrAnd answer (λ x. x ≡ e) → (e ≢ faults.Memory → d ≡ None) → (e ≢ faults.Memory → e ≡ faults.NotJson)
    → ReadsMade answer (eql_in d) (λ made. json_line number wants earlier made d) n n
json_stops (Ok r) e d number wants earlier n same none is = absurd same
json_stops (Err x) e d number wants earlier n same none is = rw same (json_fault e d number wants earlier n none is)

-- white space alone

pub blank_wanted : (line : List ℕ) (number : ℕ) (wants : Bool) (earlier : List EarlierLine) (n : ℕ) → is_blank line ≡ true → wants ≡ true
    → ReadsMade (Err faults.ConfigPlace) (eql_of line) (λ made. request_of line number wants earlier made) n n
unfolding eql_of request_of
blank_wanted line number wants earlier n blank wanted =
    rw (blank, wanted) (asks_nothing (Err faults.ConfigPlace) (λ made. Err faults.ConfigPlace) n (λ other. refl))

pub blank_passed : (line : List ℕ) (number : ℕ) (wants : Bool) (earlier : List EarlierLine) (n : ℕ) → is_blank line ≡ true → wants ≡ false
    → ReadsMade (Ok reads.Blank) (eql_of line) (λ made. request_of line number wants earlier made) n n
unfolding eql_of request_of
blank_passed line number wants earlier n blank wanted =
    rw (blank, wanted) (asks_nothing (Ok reads.Blank) (λ made. Ok reads.Blank) n refl)
