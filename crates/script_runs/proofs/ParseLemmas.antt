-- Scripts, line after line.
use Rattle.std.proofs.Common.{◌≡◌, List, [], ◌∷◌, ◌++◌, Result, Ok, Err, refl}
use Rattle.script_runs.specs.Scripts.{AskedLine, Parsed, parse, parse_line, parsed_front, front_from, Stop, ◌>>=◌}

abbrev ok_parsed : Parsed → Result Parsed Stop
ok_parsed p = Ok p

ok_same : {p q : Parsed} → ok_parsed p ≡ ok_parsed q → p ≡ q
ok_same h = cc

push_step : (first : Result Parsed Stop) (lines more : List AskedLine) (q : Parsed) (given : Result Parsed Stop) → (first >>= λ n. parse n lines) ≡ Ok q → ((n : Parsed) → parse n lines ≡ Ok q → parse n more ≡ given) → (first >>= λ n. parse n more) ≡ given
push_step (Ok n) lines more q given h later = later n h
push_step (Err stop) lines more q given h later = absurd (cc)

-- one line more was read
pub parse_push : (p : Parsed) (lines : List AskedLine) (line : AskedLine) (q r : Parsed) → parse p lines ≡ Ok q → parse_line q line ≡ Ok r → parse p (lines ++ line ∷ []) ≡ Ok r
parse_push p [] line q r h e = let same : p ≡ q = ok_same h in rw (same, e) refl
parse_push p (l ∷ lines) line q r h e = push_step (parse_line p l) lines (lines ++ line ∷ []) q (Ok r) h (λ n k. parse_push n lines line q r k e)

-- the next line stops the script, whatever follows it
pub parse_stop : (p : Parsed) (lines : List AskedLine) (line : AskedLine) (rest : List AskedLine) (q : Parsed) (stop : Stop) → parse p lines ≡ Ok q → parse_line q line ≡ Err stop → parse p (lines ++ line ∷ rest) ≡ Err stop
parse_stop p [] line rest q stop h e = let same : p ≡ q = ok_same h in rw (same, e) refl
parse_stop p (l ∷ lines) line rest q stop h e = push_step (parse_line p l) lines (lines ++ line ∷ rest) q (Err stop) h (λ n k. parse_stop n lines line rest q stop k e)

front_step : (first : Result Parsed Stop) (p : Parsed) (lines more : List AskedLine) (q : Parsed) → (first >>= λ n. parse n lines) ≡ Ok q → ((n : Parsed) → parse n lines ≡ Ok q → parsed_front n more ≡ q) → front_from first p (λ n. parsed_front n more) ≡ q
front_step (Ok n) p lines more q h later = later n h
front_step (Err stop) p lines more q h later = absurd (cc)

-- what comes before the line that stops the script
pub front_stop : (p : Parsed) (lines : List AskedLine) (line : AskedLine) (rest : List AskedLine) (q : Parsed) (stop : Stop) → parse p lines ≡ Ok q → parse_line q line ≡ Err stop → parsed_front p (lines ++ line ∷ rest) ≡ q
front_stop p [] line rest q stop h e = let same : p ≡ q = ok_same h in rw (same, e) refl
front_stop p (l ∷ lines) line rest q stop h e = front_step (parse_line p l) p lines (lines ++ line ∷ rest) q h (λ n k. front_stop n lines line rest q stop k e)

-- a script that nothing stops comes whole
pub front_whole : (p : Parsed) (lines : List AskedLine) (q : Parsed) → parse p lines ≡ Ok q → parsed_front p lines ≡ q
front_whole p [] q h = ok_same h
front_whole p (l ∷ lines) q h = front_step (parse_line p l) p lines lines q h (λ n k. front_whole n lines q k)
