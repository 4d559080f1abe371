-- What preparing gives is what is made of the text.
use Rattle.std.proofs.Common.{◌≡◌, ◌≤◌, ◌<◌, ◌^◌, ℕ, true, List, Ok, Err, arith, ap, sym, subst, ◌∙◌}
use Rattle.std.specs.Prelude.{IfOk, IfErr, OnOk}
use Rattle.std.specs.List.{list_all}
use Rattle.emu_names.specs.Count.{RoseBy}
use Rattle.label_match.specs.Pattern.{are_patterns}
use Rattle.eql_syntax.specs.Tree.{Tree}
use Rattle.eql_syntax.specs.Answer.{IsQuery}
use Rattle.eql_resolve.specs.declared.faults.PrepareFault.TheVariants.{Query, BadPattern, PatternTooLarge, Memory}
use Rattle.eql_resolve.specs.Prepared.{patterns_of}
use Rattle.eql_resolve.specs.Made.{Made, times_too_large}
use Rattle.eql_resolve.specs.Inner.Prepare.{IsPatternFault, Prepares}

pub prepares : (text : List ℕ) (q : Tree) (before now : ℕ) (made : Made) → IsQuery text q → IfOk made (λ p. p.query ≡ q)
    → IfOk made (λ p. p.patterns ≡ patterns_of q) → OnOk made (list_all are_patterns (patterns_of q) ≡ true)
    → IfErr made (IsPatternFault (patterns_of q) before now) → Prepares text made
prepares text q before now (Ok p) is query patterns read because = record {
  query = subst (λ (r : Tree). IsQuery text r) (sym query) is;
  patterns = patterns ∙ ap patterns_of (sym query);
  read = ap (list_all are_patterns) patterns ∙ read;
}
prepares text q before now (Err (Query fault)) is query patterns read because = absurd because
prepares text q before now (Err (BadPattern k)) is query patterns read because = (q, (is, because))
prepares text q before now (Err (PatternTooLarge k)) is query patterns read because = (q, (is, because.0))
prepares text q before now (Err Memory) is query patterns read because = tt

pub rose_for : (patterns : List (List ℕ)) (before now : ℕ) (made : Made) → IfErr made (IsPatternFault patterns before now)
    → before ≤ now → RoseBy (times_too_large made) before now
rose_for patterns before now (Ok p) because later = omega arith
rose_for patterns before now (Err (Query fault)) because later = absurd because
rose_for patterns before now (Err (BadPattern k)) because later = omega arith
rose_for patterns before now (Err (PatternTooLarge k)) because later = because.1
rose_for patterns before now (Err Memory) because later = omega arith
