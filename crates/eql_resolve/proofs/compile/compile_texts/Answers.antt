use Rattle.std.proofs.Common.{◌≡◌, arith}
use Rattle.eql_resolve.proofs.Steps.{all_compiled, compiled_next, refused_at}
use Rattle.eql_resolve.proofs.compile.compile_texts.Goals as goal

pub returns-in-Err-clause-fault : goal.returns-in-Err-clause-fault
returns-in-Err-clause-fault g c =
    let counted : c.len.result ≡ c.loop-text.text-index = omega (arith, c.loop-text.patterns.ok.0) in
    rw (c.refused.ensures, counted) (
    refused_at c.args.texts.now c.loop-text.patterns.items c.text-item.result c.loop-text.text-index _ _ _ c.in-Err.fault c.loop-text.invariant c.loop-text-test.true c.text-item.is
    (λ is. let no = c.in-Err.ensures.syntax (cc) in rw c.as_str.ensures at no)
    (λ is. c.in-Err.ensures.size (cc)))

pub loop-text-preserved : goal.loop-text-preserved
loop-text-preserved g c =
    compiled_next c.args.texts.now c.loop-text.patterns.items c.push.new.self.items c.text-item.result c.as_str.result.now c.in-Ok.pattern c.loop-text.text-index _ _ _ c.loop-text.invariant
    c.loop-text-test.true c.text-item.is c.as_str.ensures c.in-Ok.ensures.ok c.in-Ok.ensures.read c.in_ok-push-in-Ok.ensures.items c.compile.ensures.later

pub returns-clause-texts : goal.returns-clause-texts
returns-clause-texts g c = (all_compiled c.args.texts.now c.loop-text.patterns.items c.loop-text.text-index _ _ c.loop-text.invariant c.loop-text-test.false).0

pub returns-clause-read : goal.returns-clause-read
returns-clause-read g c = (all_compiled c.args.texts.now c.loop-text.patterns.items c.loop-text.text-index _ _ c.loop-text.invariant c.loop-text-test.false).1
