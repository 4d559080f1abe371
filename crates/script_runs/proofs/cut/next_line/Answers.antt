use Rattle.std.proofs.Common.{◌≡◌, ◌<◌, ◌∷◌, [], length, ℕ, true, false, ◌==◌, List, take, drop, ◌∙◌, arith}
use Rattle.script_runs.specs.Cuts.{cut}
use Rattle.script_runs.specs.Inner.Cuts.{line_len}
use Rattle.script_runs.proofs.CutLemmas.{cut_at, cut_past, cut_last, one_line}
use Rattle.script_runs.proofs.cut.next_line.Goals as goal

at_feed : (past : _) (bytes front rest after : List ℕ) (len : ℕ) → len ≡ line_len bytes → front ≡ take len bytes → rest ≡ drop len bytes → after ≡ drop 1 rest → len < length bytes → cut past bytes ≡ front ∷ cut past after
at_feed past bytes front rest after len e f r a h = rw (a, r, f, e) (cut_at past bytes (omega arith))

pub returns-then-len-bytes-clause-lines : goal.returns-then-len-bytes-clause-lines
returns-then-len-bytes-clause-lines c =
    at_feed c.args.past c.args.bytes.now _ _ _ _ c.line_len-len.ensures.value c.split_at.ensures.front c.split_at.ensures.back c.split_at-then-len-bytes.ensures.back c.if-len-bytes.true

none_whole : (past : _) (bytes : List ℕ) (len : ℕ) → past ≡ true → len ≡ line_len bytes → length bytes ≡ len → cut past bytes ≡ []
none_whole past bytes len p e h = rw p (cut_past bytes (omega arith))

pub returns-then-past-clause-lines : goal.returns-then-past-clause-lines
returns-then-past-clause-lines c =
    none_whole c.args.past c.args.bytes.now c.line_len-len.result c.if-past.true c.line_len-len.ensures.value (omega (arith, c.line_len-len.ensures.bound))

some_left : (bytes : List ℕ) → false ≡ (length bytes == 0) → 0 < length bytes
some_left [] h = cc
some_left (b ∷ bs) h = omega arith

all_left : (past : _) (bytes : List ℕ) (len : ℕ) → past ≡ false → len ≡ line_len bytes → length bytes ≡ len → 0 < length bytes → cut past bytes ≡ bytes ∷ []
all_left past bytes len p e h n = rw p (cut_last bytes (omega arith) ∙ one_line bytes n)

pub returns-clause-lines : goal.returns-clause-lines
returns-clause-lines c =
    all_left c.args.past c.args.bytes.now c.line_len-len.result c.if-past.false c.line_len-len.ensures.value (omega (arith, c.line_len-len.ensures.bound)) (some_left c.args.bytes.now c.if-is_empty.ensures)
