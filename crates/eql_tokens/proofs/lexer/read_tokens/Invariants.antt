use Rattle.std.proofs.Common.{◌≡◌, ◌+◌, ◌++◌, length}
use denote.Shadow.{shadow}
use denote.Text.{Utf8}
use Rattle.eql_tokens.specs.Tokens.{tokens_from, tokens_of}
use Rattle.eql_tokens.proofs.lexer.read_tokens.Given as goal

abbrev pub invariant-loop-rest : goal.invariant-loop-rest
invariant-loop-rest l = record {
  utf8 : shadow (Utf8 l.rest);
  room : l.at + length l.rest ≡ length l.text;
  same : l.tokens ++ tokens_from l.rest 0 l.at ≡ tokens_of l.text;
}

abbrev pub decreases-loop-rest : goal.decreases-loop-rest
decreases-loop-rest l = length l.rest
