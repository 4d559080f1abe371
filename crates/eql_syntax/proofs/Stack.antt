-- The innermost bracket is the last one.
use Rattle.std.proofs.Common.{◌≡◌, List, [], ◌∷◌, ◌++◌, refl}
use Rattle.eql_syntax.specs.declared.machine.Bracket.{Bracket as CodeBracket}
use Rattle.eql_syntax.specs.Inner.Machine.{Bracket}
use Rattle.eql_syntax.specs.Inner.View.{bracket_view, stack_on, stack}

stack_on_more : (below : List Bracket) (bs : List CodeBracket) (b : CodeBracket) → stack_on below (bs ++ b ∷ []) ≡ bracket_view b ∷ stack_on below bs
stack_on_more below [] b = refl
stack_on_more below (x ∷ bs) b = stack_on_more (bracket_view x ∷ below) bs b

pub stack_more : (bs : List CodeBracket) (b : CodeBracket) → stack (bs ++ b ∷ []) ≡ bracket_view b ∷ stack bs
stack_more bs b = stack_on_more [] bs b
