use Rattle.std.proofs.Common.{◌≡◌, take}
use Rattle.eql_tokens.proofs.word_list.copied_words.Given as goal

abbrev pub invariant-loop-word : goal.invariant-loop-word
invariant-loop-word l = l.made.items ≡ take l.word-index l.words
