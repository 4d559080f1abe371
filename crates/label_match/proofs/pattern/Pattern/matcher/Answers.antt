use Rattle.label_match.proofs.Found.{found_as_read}
use Rattle.label_match.proofs.pattern.Pattern.matcher.Goals as goal

pub invariant_of-result : goal.invariant_of-result
invariant_of-result c =
    let kept = c.self.invariant in record {
      each = λ label bytes.
          rw (c.in_ok-matcher.ensures.pattern, ← c.self.view_is)
          (found_as_read c.self.inside.whole _ kept.source kept.config kept.read label bytes);
    }
