use Rattle.std.proofs.Common.{◌≡◌}
use Rattle.work_script.specs.Script.{each, word_of}
use Rattle.work_script.proofs.annotation.words.Given as goal

-- the words so far
abbrev pub invariant-loop-word : goal.invariant-loop-word
invariant-loop-word l = record { made : l.items ≡ each word_of l.word }
