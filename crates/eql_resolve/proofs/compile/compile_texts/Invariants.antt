use Rattle.eql_resolve.proofs.Loops.{AreCompiled}
use Rattle.eql_resolve.proofs.compile.compile_texts.Given as goal

-- the patterns so far
abbrev pub invariant-loop-text : goal.invariant-loop-text
invariant-loop-text g l =
    AreCompiled l.texts l.patterns.items l.text-index (g.P.PatternMaker.refusals l.fn.maker) (g.P.PatternMaker.refusals l.maker)
