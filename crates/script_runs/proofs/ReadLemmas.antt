-- Lines that were read, by a maker that counts what it refuses.
use Rattle.std.proofs.Common.{◌≡◌, ℕ, ◌+◌, ◌≤◌, Bool, List, [], ◌∷◌, ◌++◌, length, take, drop, Result, refl, sym, ◌∙◌, ap, subst, arith}
use Rattle.std.proofs.lemmas.List.{map-append, length-map}
use Rattle.std.proofs.lemmas.List.Elements.{All-push}
use Rattle.std.proofs.Math.Seq.{take-append_seam, drop-append_seam}
use Rattle.emu_names.specs.Count.{RoseBy}
use Rattle.eql_resolve.specs.Made.{Made, times_too_large}
use Rattle.script_runs.specs.Scripts.{AskedLine, lines_in, IsAnswered, too_large_in, AreRead, Parsed, read_from, parse, Stop, end_from, script_from}
use Rattle.script_runs.specs.Inner.Scripts.{asked_line}

too_large_push : (lines : List AskedLine) (l : AskedLine) → too_large_in (lines ++ l ∷ []) ≡ too_large_in lines + times_too_large l.made
too_large_push [] l = omega arith
too_large_push (k ∷ lines) l =
    let rest : too_large_in (lines ++ l ∷ []) ≡ too_large_in lines + times_too_large l.made = too_large_push lines l in omega arith

pub rose_both : (j k a b c : ℕ) → RoseBy j a b → RoseBy k b c → RoseBy (j + k) a c
rose_both j k a b c h g = omega arith

rose_later : (j a b c : ℕ) → RoseBy j a b → b ≤ c → RoseBy j a c
rose_later j a b c h g = omega arith

rose_more : (j k a b c : ℕ) → RoseBy j a b → RoseBy k b c → RoseBy j a c
rose_more j k a b c h g = omega arith

rose_none : (a b : ℕ) → a ≤ b → RoseBy 0 a b
rose_none a b h = omega arith

-- no line was read
pub read_none : (m n : ℕ) → m ≤ n → AreRead [] [] m n
read_none m n h = record { bytes = refl; made = λ k d low. absurd (omega arith); refused = rose_none m n h }

-- one line more
pub read_push : (lines : List AskedLine) (script : List (List ℕ)) (line : List ℕ) (made : Made) (m n k : ℕ) → AreRead lines script m n → IsAnswered (asked_line line made) → RoseBy (times_too_large made) n k → AreRead (lines ++ asked_line line made ∷ []) (script ++ line ∷ []) m k
read_push lines script line made m n k r h g = record {
  bytes = map-append (λ (l : AskedLine). l.line) lines (asked_line line made ∷ []) ∙ ap (λ ls. ls ++ line ∷ []) r.bytes;
  made = All-push IsAnswered lines (asked_line line made) r.made h;
  refused = subst (λ t. RoseBy t m k) (sym (too_large_push lines (asked_line line made))) (rose_both (too_large_in lines) (times_too_large made) m n k r.refused g);
}

-- the maker refused more
pub read_later : (lines : List AskedLine) (script : List (List ℕ)) (m n k : ℕ) → AreRead lines script m n → n ≤ k → AreRead lines script m k
read_later lines script m n k r h = record { bytes = r.bytes; made = r.made; refused = rose_later (too_large_in lines) m n k r.refused h }

pub read_more : (lines : List AskedLine) (script : List (List ℕ)) (times m n k : ℕ) → AreRead lines script m n → RoseBy times n k → AreRead lines script m k
read_more lines script times m n k r h = record { bytes = r.bytes; made = r.made; refused = rose_more (too_large_in lines) times m n k r.refused h }

-- the same lines
pub read_same : (lines : List AskedLine) (script other : List (List ℕ)) (m n : ℕ) → script ≡ other → AreRead lines script m n → AreRead lines other m n
read_same lines script other m n same r = record { bytes = r.bytes ∙ same; made = r.made; refused = r.refused }

pub count_is : (lines : List AskedLine) (done : List (List ℕ)) → lines_in lines ≡ done → length lines ≡ length done
count_is lines done h = sym (length-map lines (λ (l : AskedLine). l.line)) ∙ ap length h

front_is : (lines : List AskedLine) (all done rest : List (List ℕ)) → lines_in lines ≡ done → all ≡ done ++ rest → take (length lines) all ≡ done
front_is lines all done rest h split = ap (λ n. take n all) (count_is lines done h) ∙ ap (take (length done)) split ∙ take-append_seam done rest

rest_is : (lines : List AskedLine) (all done rest : List (List ℕ)) → lines_in lines ≡ done → all ≡ done ++ rest → drop (length lines) all ≡ rest
rest_is lines all done rest h split = ap (λ n. drop n all) (count_is lines done h) ∙ ap (drop (length done)) split ∙ drop-append_seam done rest

-- the first lines of a script
pub read_front : (lines : List AskedLine) (all done rest : List (List ℕ)) (m n : ℕ) → all ≡ done ++ rest → AreRead lines done m n → AreRead lines (take (length lines) all) m n
read_front lines all done rest m n split r = read_same lines done (take (length lines) all) m n (sym (front_is lines all done rest r.bytes split)) r

-- what a script is, once its first lines were read
pub script_behind : (wants past : Bool) (lines : List AskedLine) (all done rest : List (List ℕ)) (m n : ℕ) (first : Result Parsed Stop) → all ≡ done ++ rest → AreRead lines done m n → parse (read_from wants) lines ≡ first → script_from wants past all lines ≡ end_from past rest first
script_behind wants past lines all done rest m n first split r h =
    ap (λ left. end_from past left (parse (read_from wants) lines)) (rest_is lines all done rest r.bytes split) ∙ ap (end_from past rest) h
