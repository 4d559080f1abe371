use Rattle.std.proofs.Common.{◌≡◌, ◌++◌, drop, string_bytes, suc}
use Rattle.store_texts.specs.Texts.{lines_from}
use Rattle.store_texts.proofs.history.push_entries.Given as goal

abbrev pub invariant-loop-place : goal.invariant-loop-place
invariant-loop-place l =
    string_bytes l.out ++ lines_from (suc l.place) (drop l.place l.entries) ≡ string_bytes l.fn.out
    ++ lines_from 1 l.entries
