use Rattle.std.proofs.Common.{◌≡◌, ◌+◌, length}
use Rattle.eql_tokens.specs.Tokens.{word_len}
use Rattle.eql_tokens.proofs.lexer.word_len.Given as goal

abbrev pub invariant-loop-rest : goal.invariant-loop-rest
invariant-loop-rest l = record {
  room : l.len + length l.rest ≡ length l.text;
  same : l.len + word_len l.rest ≡ word_len l.text;
}

abbrev pub decreases-loop-rest : goal.decreases-loop-rest
decreases-loop-rest l = length l.rest
