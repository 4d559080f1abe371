-- A script that is read whole.
use Rattle.std.proofs.Common.{◌≡◌, ℕ, ◌+◌, ◌≤◌, Bool, true, false, List, [], ◌∷◌, ◌++◌, Some, Result, Ok, Err, All, OnOk, IfErr, refl, sym, ◌∙◌, ap, subst, arith, append_assoc, append-nil}
use Rattle.std.proofs.lemmas.List.{map-append}
use Rattle.emu_names.specs.Count.{RoseBy}
use Rattle.db_config.specs.declared.parts.ConfigParts.{ConfigParts}
use Rattle.live_run.specs.session_core.declared.line.Line.{Line}
use Rattle.script_lines.specs.declared.line_set.EarlierLine.{EarlierLine}
use Rattle.script_lines.specs.declared.faults.LineFault.TheVariants as faults
use Rattle.script_lines.specs.declared.faults.ReadLine.{ReadLine}
use Rattle.script_lines.specs.declared.faults.ReadLine.TheVariants as reads
use Rattle.eql_resolve.specs.Made.{times_too_large}
use Rattle.script_lines.specs.Known.{Known}
use Rattle.program_output.specs.declared.ended.Ended.{Ended}
use Rattle.program_output.specs.declared.ended.Ended.TheVariants as ends
use Rattle.script_runs.specs.declared.reading.Reading.{Reading}
use Rattle.script_runs.specs.Scripts.{AskedLine, AreRead, too_large_in, Parsed, read_from, with_read, parse, parse_line, line_at, earlier_line, earlier_of, passes_limit, end_behind, if_over, if_configured, Stop, limit, at_fault, ◌>>=◌}
use Rattle.script_runs.specs.Inner.Scripts.{asked_line}
use Rattle.script_runs.specs.Inner.Turns.{IsLineRead, ReadsNext}
use Rattle.script_runs.specs.Inner.Reads.{IsReading, HasRead, IsOverNext, IsStoppedNext, ReadsLine, InReading, IsWhole, IsStopped, ReadsScript, ReadsLines, read_end}
use Rattle.script_runs.proofs.ParseLemmas.{parse_push, parse_stop}
use Rattle.script_runs.proofs.ReadLemmas.{read_none, read_push, read_later, read_front, script_behind}
use Rattle.script_runs.proofs.Rises.{rises_request}
use Rattle.script_runs.proofs.ComeLemmas.{comes, gives_config}

-- nothing is read
pub has_none : (wants : Bool) (reading : Reading) (m : ℕ) → IsReading reading (read_from wants) → HasRead wants [] reading m m
has_none wants reading m same = record { asked = []; read = read_none m m (omega arith); parsed = read_from wants; script = refl; same = same }

-- what the code reads behind so many lines is what the definition reads behind them
read_there : (reading : Reading) (p : Parsed) (l : AskedLine) → IsReading reading p → line_at (p.number + 1) p.wants (earlier_of p.requests) l ≡ line_at (reading.number + 1) reading.wants reading.earlier l
read_there reading p l s = rw (s.wants, s.number, s.earlier) refl

next_read : (reading : Reading) (p : Parsed) (l : AskedLine) (read : ReadLine) → IsReading reading p → line_at (reading.number + 1) reading.wants reading.earlier l ≡ Ok read → parse_line p l ≡ Ok (with_read p read)
next_read reading p l read s h = ap (λ r. r >>= λ x. Ok (with_read p x)) (read_there reading p l s ∙ h)

next_stop : (reading : Reading) (p : Parsed) (l : AskedLine) (stop : Stop) → IsReading reading p → line_at (reading.number + 1) reading.wants reading.earlier l ≡ Err stop → parse_line p l ≡ Err stop
next_stop reading p l stop s h = ap (λ r. r >>= λ x. Ok (with_read p x)) (read_there reading p l s ∙ h)

-- one line more was read
has_more : (wants : Bool) (lines : List (List ℕ)) (line : List ℕ) (reading new : Reading) (read : ReadLine) (m n k : ℕ) (h : HasRead wants lines reading m n) →
    IsLineRead line (reading.number + 1) reading.wants reading.earlier n k (Ok read) → IsReading new (with_read h.parsed read) → HasRead wants (lines ++ line ∷ []) new m k
has_more wants lines line reading new read m n k h l same = record {
  asked = h.asked ++ asked_line line l.made ∷ [];
  read = read_push h.asked lines line l.made m n k h.read l.answered l.rose;
  parsed = with_read h.parsed read;
  script = parse_push (read_from wants) h.asked (asked_line line l.made) h.parsed (with_read h.parsed read) h.script (next_read reading h.parsed (asked_line line l.made) read h.same l.read);
  same = same;
}

-- a line of white space alone
pub has_blank : (wants : Bool) (lines : List (List ℕ)) (line : List ℕ) (reading new : Reading) (m n k : ℕ) → HasRead wants lines reading m n →
    IsLineRead line (reading.number + 1) reading.wants reading.earlier n k (Ok reads.Blank) →
    new.number ≡ reading.number + 1 → new.wants ≡ reading.wants → new.config ≡ reading.config → new.lines ≡ reading.lines → new.earlier ≡ reading.earlier →
    HasRead wants (lines ++ line ∷ []) new m k
has_blank wants lines line reading new m n k h l number asks config requests earlier = has_more wants lines line reading new reads.Blank m n k h l (record {
  number = number ∙ ap (λ n. n + 1) h.same.number;
  wants = asks ∙ h.same.wants;
  config = config ∙ h.same.config;
  lines = requests ∙ h.same.lines;
  earlier = earlier ∙ h.same.earlier;
})

-- the line of the configuration
pub has_config : (wants : Bool) (lines : List (List ℕ)) (line : List ℕ) (reading new : Reading) (config : ConfigParts) (m n k : ℕ) → HasRead wants lines reading m n →
    IsLineRead line (reading.number + 1) reading.wants reading.earlier n k (Ok (reads.Config config)) →
    new.number ≡ reading.number + 1 → new.wants ≡ false → new.config ≡ Some config → new.lines ≡ reading.lines → new.earlier ≡ reading.earlier →
    HasRead wants (lines ++ line ∷ []) new m k
has_config wants lines line reading new config m n k h l number asks given requests earlier = has_more wants lines line reading new (reads.Config config) m n k h l (record {
  number = number ∙ ap (λ n. n + 1) h.same.number;
  wants = asks;
  config = given;
  lines = requests ∙ h.same.lines;
  earlier = earlier ∙ h.same.earlier;
})

-- a request
has_request : (wants : Bool) (lines : List (List ℕ)) (line : List ℕ) (reading new : Reading) (l : Line) (m n k : ℕ) → HasRead wants lines reading m n →
    IsLineRead line (reading.number + 1) reading.wants reading.earlier n k (Ok (reads.Request l)) →
    new.number ≡ reading.number + 1 → new.wants ≡ reading.wants → new.config ≡ reading.config → new.lines ≡ reading.lines ++ l ∷ [] → new.earlier ≡ reading.earlier ++ earlier_line l ∷ [] →
    HasRead wants (lines ++ line ∷ []) new m k
has_request wants lines line reading new l m n k h read number asks config requests earlier = has_more wants lines line reading new (reads.Request l) m n k h read (record {
  number = number ∙ ap (λ n. n + 1) h.same.number;
  wants = asks ∙ h.same.wants;
  config = config ∙ h.same.config;
  lines = requests ∙ ap (λ ls. ls ++ l ∷ []) h.same.lines;
  earlier = earlier ∙ ap (λ e. e ++ earlier_line l ∷ []) h.same.earlier ∙ sym (map-append earlier_line h.parsed.requests (l ∷ []));
})

-- the line could not be read, or stops the script
stopped_here : (wants : Bool) (stop : Stop) (lines : List (List ℕ)) (line : List ℕ) (reading : Reading) (m n k : ℕ) → HasRead wants lines reading m n →
    IsLineRead line (reading.number + 1) reading.wants reading.earlier n k (Err stop) → IsStoppedNext wants stop lines line m k
stopped_here wants stop lines line reading m n k h l = record {
  asked = h.asked;
  last = asked_line line l.made;
  read = read_push h.asked lines line l.made m n k h.read l.answered l.rose;
  parsed = h.parsed;
  script = h.script;
  stops = next_stop reading h.parsed (asked_line line l.made) stop h.same l.read;
}

over_here : (wants : Bool) (lines : List (List ℕ)) (line : List ℕ) (reading : Reading) (m n k : ℕ) → HasRead wants lines reading m n → passes_limit (reading.number + 1) line ≡ true → n ≤ k → IsOverNext wants lines line m k
over_here wants lines line reading m n k h over later = record {
  asked = h.asked;
  read = read_later h.asked lines m n k h.read later;
  parsed = h.parsed;
  script = h.script;
  over = ap (λ number. passes_limit (number + 1) line) (sym h.same.number) ∙ over;
}

rose_none : (j m n k : ℕ) → RoseBy j m n → n ≤ k → RoseBy 0 m k
rose_none j m n k h later = omega arith

pub ends_unread : (A : Type 0) (end : Ended) (wants : Bool) (lines : List (List ℕ)) (line : List ℕ) (reading new : Reading) (m n k : ℕ) → HasRead wants lines reading m n →
    ReadsNext (Err end) line (reading.number + 1) reading.wants reading.earlier n k → ReadsLine {A = A} (Err end) wants lines line new m k
ends_unread A ends.Limit wants lines line reading new m n k h r = over_here wants lines line reading m n k h r.0 r.1
ends_unread A (ends.AtFault number fault) wants lines line reading new m n k h r = stopped_here wants (at_fault number fault) lines line reading m n k h r.0
ends_unread A ends.Memory wants lines line reading new m n k h r = rose_none (too_large_in h.asked) m n k h.read.refused r
ends_unread A ends.Write wants lines line reading new m n k h r = absurd r
ends_unread A ends.NoRoom wants lines line reading new m n k h r = absurd r
ends_unread A ends.Disk wants lines line reading new m n k h r = absurd r

rose_both : (i j m n k : ℕ) → RoseBy i m n → RoseBy j n k → RoseBy 0 m k
rose_both i j m n k h g = omega arith

-- whatever became of a request: it was put last, or memory ran out
pub adds_request : {A : Type 0} (result : Result A Ended) (wants : Bool) (lines : List (List ℕ)) (line : List ℕ) (reading new : Reading) (l : Line) (m n k : ℕ) → HasRead wants lines reading m n →
    IsLineRead line (reading.number + 1) reading.wants reading.earlier n k (Ok (reads.Request l)) →
    OnOk result (new.number ≡ reading.number + 1) → OnOk result (new.wants ≡ reading.wants) → OnOk result (new.config ≡ reading.config) → OnOk result (new.lines ≡ reading.lines ++ l ∷ []) → OnOk result (new.earlier ≡ reading.earlier ++ earlier_line l ∷ []) →
    IfErr result (λ end. end ≡ ends.Memory) → ReadsLine result wants lines line new m k
adds_request (Ok x) wants lines line reading new l m n k h r number asks config requests earlier why = has_request wants lines line reading new l m n k h r number asks config requests earlier
adds_request {A = A} (Err end) wants lines line reading new l m n k h r number asks config requests earlier why =
    subst (λ e. ReadsLine {A = A} (Err e) wants lines line new m k) (sym why) (rose_both (too_large_in h.asked) (times_too_large r.made) m n k h.read.refused r.rose)

-- the numbers of the requests stay below those to come
request_number : (number : ℕ) (asks : Bool) (earlier : List EarlierLine) (l : Line) → Known number asks earlier (reads.Request l) → l.line ≡ number
request_number number true earlier l k = absurd k
request_number number false earlier l k = k.number

pub adds_rise : {A : Type 0} (result : Result A Ended) (reading new : Reading) (asks : Bool) (l : Line) → All (λ it. it.line ≤ reading.number) reading.earlier → Known (reading.number + 1) asks reading.earlier (reads.Request l) →
    OnOk result (new.number ≡ reading.number + 1) → OnOk result (new.earlier ≡ reading.earlier ++ earlier_line l ∷ []) → OnOk result (All (λ it. it.line ≤ new.number) new.earlier)
adds_rise (Ok x) reading new asks l below k number earlier =
    let line : l.line ≡ reading.number + 1 = request_number (reading.number + 1) asks reading.earlier l k in
    rises_request reading.number new.number (earlier_line l) reading.earlier new.earlier earlier number line below
adds_rise (Err e) reading new asks l below k number earlier = tt

-- Over all lines.

pub split_more : (all done rest next : List (List ℕ)) → all ≡ done ++ rest → rest ≡ next → all ≡ done ++ next
split_more all done rest next split h = split ∙ ap (λ x. done ++ x) h

on_line : (all done : List (List ℕ)) (line : List ℕ) (rest : List (List ℕ)) → all ≡ done ++ line ∷ rest → all ≡ (done ++ line ∷ []) ++ rest
on_line all done line rest split = split ∙ sym (append_assoc done (line ∷ []) rest)

-- the loop goes on by one line
pub reading_more : (wants : Bool) (all : List (List ℕ)) (line : List ℕ) (rest done : List (List ℕ)) (new : Reading) (m n : ℕ) → all ≡ done ++ line ∷ rest → HasRead wants (done ++ line ∷ []) new m n → InReading wants all rest new m n
reading_more wants all line rest done new m n split h = record { done = done ++ line ∷ []; split = on_line all done line rest split; has = h }

-- the loop is at its end
pub reading_end : (wants : Bool) (all rest : List (List ℕ)) (reading : Reading) (m n : ℕ) → rest ≡ [] → InReading wants all rest reading m n → HasRead wants all reading m n
reading_end wants all rest reading m n none i =
    let whole : i.done ≡ all = sym (i.split ∙ ap (λ x. i.done ++ x) none ∙ append-nil i.done) in
    subst (λ ls. HasRead wants ls reading m n) whole i.has

-- something behind the lines that were read ends the script
stopped_behind : (wants : Bool) (stop : Stop) (past : Bool) (all done rest : List (List ℕ)) (asked : List AskedLine) (parsed : Parsed) (m n : ℕ) → all ≡ done ++ rest → AreRead asked done m n → parse (read_from wants) asked ≡ Ok parsed →
    end_behind past rest parsed ≡ Some (Err stop) → IsStopped wants past all stop m n
stopped_behind wants stop past all done rest asked parsed m n split read script ends = record {
  asked = asked;
  read = read_front asked all done rest m n split read;
  script = script_behind wants past asked all done rest m n (Ok parsed) split read script ∙ ends;
}

stopped_in : (wants : Bool) (stop : Stop) (past : Bool) (all lines : List (List ℕ)) (line : List ℕ) (rest : List (List ℕ)) (m n : ℕ) → all ≡ lines ++ line ∷ rest → IsStoppedNext wants stop lines line m n → IsStopped wants past all stop m n
stopped_in wants stop past all lines line rest m n split s =
    let read = s.asked ++ s.last ∷ [] in
    let done = lines ++ line ∷ [] in record {
      asked = read;
      read = read_front read all done rest m n (on_line all lines line rest split) s.read;
      script = script_behind wants past read all done rest m n (Err stop) (on_line all lines line rest split) s.read (parse_stop (read_from wants) s.asked s.last [] s.parsed stop s.script s.stops);
    }

-- where the reading of one line ends, the reading of all lines ends
pub ends_in : (A B : Type 0) (end : Ended) (wants past : Bool) (all lines : List (List ℕ)) (line : List ℕ) (rest : List (List ℕ)) (new : Reading) (m n : ℕ) → all ≡ lines ++ line ∷ rest → ReadsLine {A = A} (Err end) wants lines line new m n → ReadsLines {A = B} (Err end) wants past all new m n
ends_in A B ends.Limit wants past all lines line rest new m n split o = stopped_behind wants limit past all lines (line ∷ rest) o.asked o.parsed m n split o.read o.script (ap if_over o.over)
ends_in A B (ends.AtFault number fault) wants past all lines line rest new m n split s = stopped_in wants (at_fault number fault) past all lines line rest m n split s
ends_in A B ends.Memory wants past all lines line rest new m n split h = h
ends_in A B ends.Write wants past all lines line rest new m n split h = absurd h
ends_in A B ends.NoRoom wants past all lines line rest new m n split h = absurd h
ends_in A B ends.Disk wants past all lines line rest new m n split h = absurd h

-- The end of a script whose lines were all read.

has_past : (wants : Bool) (lines : List (List ℕ)) (reading : Reading) (m n : ℕ) → HasRead wants lines reading m n → IsStopped wants true lines limit m n
has_past wants lines reading m n h = stopped_behind wants limit true lines lines [] h.asked h.parsed m n (sym (append-nil lines)) h.read h.script refl

abbrev stop_at : ℕ → Stop
stop_at number = at_fault (number + 1) faults.ConfigPlace

has_none_given : (wants : Bool) (lines : List (List ℕ)) (reading : Reading) (m n : ℕ) → reading.wants ≡ true → HasRead wants lines reading m n → IsStopped wants false lines (stop_at reading.number) m n
has_none_given wants lines reading m n asks h =
    stopped_behind wants (stop_at reading.number) false lines lines [] h.asked h.parsed m n (sym (append-nil lines)) h.read h.script
    (ap (λ w. Some (if_configured h.parsed w)) (sym h.same.wants ∙ asks) ∙ ap (λ number. Some (Err (stop_at number))) (sym h.same.number))

has_whole : (wants : Bool) (lines : List (List ℕ)) (reading : Reading) (m n : ℕ) → reading.wants ≡ false → HasRead wants lines reading m n → IsWhole wants false lines reading m n
has_whole wants lines reading m n asks h =
    let none : h.parsed.wants ≡ false = sym h.same.wants ∙ asks in
    let c = comes wants h.asked h.parsed h.script in record {
      asked = h.asked;
      read = h.read;
      parsed = h.parsed;
      script = script_behind wants false h.asked lines lines [] m n (Ok h.parsed) (sym (append-nil lines)) h.read h.script ∙ ap (λ w. Some (if_configured h.parsed w)) none;
      same = h.same;
      come = c.come;
      gives = gives_config wants h.parsed c none;
    }

script_ends : (wants past asks : Bool) (lines : List (List ℕ)) (reading : Reading) (m n : ℕ) → reading.wants ≡ asks → HasRead wants lines reading m n → ReadsScript (read_end past asks reading) wants past lines m n
script_ends wants true asks lines reading m n is h = has_past wants lines reading m n h
script_ends wants false true lines reading m n is h = has_none_given wants lines reading m n is h
script_ends wants false false lines reading m n is h = has_whole wants lines reading m n is h

pub script_end : (result : Result Reading Ended) (wants past : Bool) (lines : List (List ℕ)) (reading : Reading) (m n : ℕ) → result ≡ read_end past reading.wants reading → HasRead wants lines reading m n → ReadsScript result wants past lines m n
script_end result wants past lines reading m n is h = subst (λ r. ReadsScript r wants past lines m n) (sym is) (script_ends wants past reading.wants lines reading m n refl h)
