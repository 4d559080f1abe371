use Rattle.std.proofs.Common.{◌≡◌, ◌++◌, take}
use Rattle.eql_resolve.proofs.compile.put_words.Given as goal

-- the words so far stand last
abbrev pub invariant-loop-word : goal.invariant-loop-word
invariant-loop-word l = l.texts ≡ l.fn.texts ++ take l.word-index l.words
