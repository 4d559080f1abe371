-- What is known of the requests that were read of a script: they come in order.
use Rattle.std.proofs.Common.{◌≡◌, ℕ, ◌+◌, Bool, true, false, List, [], ◌∷◌, ◌++◌, Option, Some, Result, Ok, Err, refl, sym, ◌∙◌, subst, arith, append-nil, append_assoc}
use Rattle.std.specs.List.{list_any}
use Rattle.db_config.specs.declared.parts.ConfigParts.{ConfigParts}
use Rattle.db_config.specs.Valid.{is_valid}
use Rattle.live_run.specs.session_core.declared.line.Line.{Line}
use Rattle.live_run.specs.session_core.declared.line.Request.{Request}
use Rattle.live_run.specs.session_core.declared.line.Request.TheVariants as requests
use Rattle.live_run.specs.session_core.Worlds.{Each, NamesChange}
use Rattle.live_run.specs.session_core.InOrder.{ComeInOrder, ComesNext, NamesEarlier, IsBelow}
use Rattle.live_run.proofs.of_session_core.Turns.{each_push, each_map}
use Rattle.script_lines.specs.declared.faults.LineFault.{LineFault}
use Rattle.script_lines.specs.declared.faults.ReadLine.{ReadLine}
use Rattle.script_lines.specs.declared.faults.ReadLine.TheVariants as reads
use Rattle.script_lines.specs.Lines.{request_of}
use Rattle.script_lines.specs.declared.line_set.EarlierLine.{EarlierLine}
use Rattle.script_lines.specs.Earlier.{is_change_of, is_line}
use Rattle.script_lines.specs.Known.{Known, NamesOneOf}
use Rattle.script_lines.proofs.KnownLines.{known}
use Rattle.script_runs.specs.Scripts.{AskedLine, Parsed, read_from, with_read, parse, parse_line, line_at, unless_over, as_stop, passes_limit, earlier_line, earlier_of, Stop, ◌>>=◌}
use Rattle.script_runs.specs.Inner.Reads.{GivesConfig}

-- an `after` or an `undo` that names one of the earlier lines names one of the lines
any_earlier : (test : EarlierLine → Bool) (ls : List Line) → list_any test (earlier_of ls) ≡ list_any (λ (l : Line). test (earlier_line l)) ls
any_earlier test [] = refl
any_earlier test (l ∷ ls) = rw (any_earlier test ls) refl

pub names_earlier : (ls : List Line) (session : ℕ) (r : Request) → NamesOneOf (earlier_of ls) session r → NamesEarlier ls r
names_earlier ls session (requests.After line) h = sym (any_earlier (is_line line) ls) ∙ h
names_earlier ls session (requests.Edit act) h = tt
names_earlier ls session (requests.Undo line) h = tt
names_earlier ls session (requests.Query ask) h = tt
names_earlier ls session (requests.Look ask) h = tt
names_earlier ls session requests.Finish h = tt

pub names_change : (ls : List Line) (session : ℕ) (r : Request) → NamesOneOf (earlier_of ls) session r → NamesChange ls session r
names_change ls session (requests.Undo line) h = sym (any_earlier (is_change_of session line) ls) ∙ h
names_change ls session (requests.After line) h = tt
names_change ls session (requests.Edit act) h = tt
names_change ls session (requests.Query ask) h = tt
names_change ls session (requests.Look ask) h = tt
names_change ls session requests.Finish h = tt

pub come_push : (before ls : List Line) (l : Line) → ComeInOrder before ls → ComesNext (before ++ ls) l → ComeInOrder before (ls ++ l ∷ [])
come_push before [] l h next = (subst (λ ks. ComesNext ks l) (append-nil before) next, tt)
come_push before (k ∷ ks) l h next = (h.0, come_push (before ++ k ∷ []) ks l h.1 (subst (λ x. ComesNext x l) (sym (append_assoc before (k ∷ []) ks)) next))

-- What each line that is read keeps, the whole script keeps.

abbrev stop_ok : ReadLine → Result ReadLine Stop
stop_ok x = Ok x

abbrev fault_ok : ReadLine → Result ReadLine LineFault
fault_ok x = Ok x

stop_same : {x y : ReadLine} → stop_ok x ≡ stop_ok y → fault_ok x ≡ fault_ok y
stop_same e = cc

abbrev parsed_ok : Parsed → Result Parsed Stop
parsed_ok x = Ok x

parsed_same : {x y : Parsed} → parsed_ok x ≡ parsed_ok y → x ≡ y
parsed_same e = cc

-- what line_at read is what request_of gave
over_ok : (over : Bool) (number : ℕ) (r : Result ReadLine LineFault) (read : ReadLine) → unless_over over (as_stop number r) ≡ Ok read → r ≡ Ok read
over_ok true number r read h = absurd (cc)
over_ok false number (Ok x) read h = stop_same h
over_ok false number (Err f) read h = absurd (cc)

module _ (P : Parsed → Type 0) (more : (p : Parsed) (read : ReadLine) → P p → Known (p.number + 1) p.wants (earlier_of p.requests) read → P (with_read p read)) where
  keeps_step : (p q : Parsed) (r : Result ReadLine Stop) → P p → ((read : ReadLine) → r ≡ Ok read → Known (p.number + 1) p.wants (earlier_of p.requests) read) → (r >>= λ x. Ok (with_read p x)) ≡ Ok q → P q
  keeps_step p q (Ok read) o k h = let same : with_read p read ≡ q = parsed_same h in subst P same (more p read o (k read refl))
  keeps_step p q (Err stop) o k h = absurd (cc)

  keeps_line : (p q : Parsed) (line : AskedLine) → P p → parse_line p line ≡ Ok q → P q
  keeps_line p q line o h =
      keeps_step p q (line_at (p.number + 1) p.wants (earlier_of p.requests) line) o
      (λ read e. known line.line (p.number + 1) p.wants (earlier_of p.requests) line.made read (over_ok (passes_limit (p.number + 1) line.line) (p.number + 1) (request_of line.line (p.number + 1) p.wants (earlier_of p.requests) line.made) read e)) h

  keeps_first : (first : Result Parsed Stop) (lines : List AskedLine) (q : Parsed) → ((n : Parsed) → first ≡ Ok n → P n) → ((n : Parsed) → P n → parse n lines ≡ Ok q → P q) → (first >>= λ n. parse n lines) ≡ Ok q → P q
  keeps_first (Ok n) lines q this later h = later n (this n refl) h
  keeps_first (Err stop) lines q this later h = absurd (cc)

  pub parse_keeps : (lines : List AskedLine) (p q : Parsed) → P p → parse p lines ≡ Ok q → P q
  parse_keeps [] p q o h = let same : p ≡ q = parsed_same h in subst P same o
  parse_keeps (line ∷ lines) p q o h = keeps_first (parse_line p line) lines q (λ n e. keeps_line p n line o e) (λ n k e. parse_keeps lines n q k e) h

-- The requests of a script come in order, and its configuration is there where it has to give one.

-- whether the configuration is there that the script has to give, or will be: the first flag says whether it has to give
-- one, the second whether it is still wanted
abbrev Gives : Bool → Bool → Option ConfigParts → Type 0
Gives true true given = Unit {0}
Gives true false given = GivesConfig true given
Gives false true given = ⊥
Gives false false given = GivesConfig false given

pub record Comes (wants : Bool) (p : Parsed) : Type 0 where
  pub come : ComeInOrder [] p.requests
  pub below : Each (IsBelow (p.number + 1)) p.requests
  pub gives : Gives wants p.wants p.config

gives_now : (wants : Bool) (given : Option ConfigParts) (config : ConfigParts) → Gives wants true given → is_valid config ≡ true → Gives wants false (Some config)
gives_now true given config g h = h
gives_now false given config g h = absurd g

comes_more : (wants : Bool) (p : Parsed) (asks : Bool) (read : ReadLine) → p.wants ≡ asks → Comes wants p → Known (p.number + 1) asks (earlier_of p.requests) read → Comes wants (with_read p read)
comes_more wants p true (reads.Config config) e o k = record {
  come = o.come;
  below = each_map (IsBelow (p.number + 1)) (IsBelow (p.number + 1 + 1)) (λ l h. omega arith) p.requests o.below;
  gives = gives_now wants p.config config (subst (λ (b : Bool). Gives wants b p.config) e o.gives) k;
}
comes_more wants p true reads.Blank e o k = absurd k
comes_more wants p true (reads.Request l) e o k = absurd k
comes_more wants p false (reads.Config config) e o k = absurd k
comes_more wants p false reads.Blank e o k = record {
  come = o.come;
  below = each_map (IsBelow (p.number + 1)) (IsBelow (p.number + 1 + 1)) (λ l h. omega arith) p.requests o.below;
  gives = o.gives;
}
comes_more wants p false (reads.Request l) e o k = record {
  come = come_push [] p.requests l o.come (record {
    rises = each_map (IsBelow (p.number + 1)) (IsBelow l.line) (λ m h. let here : l.line ≡ p.number + 1 = k.number in omega arith) p.requests o.below;
    place = k.place;
    command = k.command;
    earlier = names_earlier p.requests l.session.0 l.request k.names;
    names = names_change p.requests l.session.0 l.request k.names;
  });
  below = each_push (IsBelow (p.number + 1 + 1)) p.requests l (each_map (IsBelow (p.number + 1)) (IsBelow (p.number + 1 + 1)) (λ m h. omega arith) p.requests o.below) (let here : l.line ≡ p.number + 1 = k.number in omega arith);
  gives = o.gives;
}

comes_none : (wants : Bool) → Comes wants (read_from wants)
comes_none true = record { come = tt; below = tt; gives = tt }
comes_none false = record { come = tt; below = tt; gives = tt }

pub comes : (wants : Bool) (lines : List AskedLine) (q : Parsed) → parse (read_from wants) lines ≡ Ok q → Comes wants q
comes wants lines q h = parse_keeps (λ p. Comes wants p) (λ p read o k. comes_more wants p p.wants read refl o k) lines (read_from wants) q (comes_none wants) h

gives_end : (wants : Bool) (given : Option ConfigParts) → Gives wants false given → GivesConfig wants given
gives_end true given g = g
gives_end false given g = g

pub gives_config : (wants : Bool) (q : Parsed) → Comes wants q → q.wants ≡ false → GivesConfig wants q.config
gives_config wants q c e = gives_end wants q.config (subst (λ (b : Bool). Gives wants b q.config) e c.gives)
