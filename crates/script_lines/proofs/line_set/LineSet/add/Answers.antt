use Rattle.std.proofs.Common.{◌≡◌, ◌∷◌, ◌++◌, [], List, subst, sym}
use Rattle.std.specs.List.Sorted.{IsStrictlyIncreasing}
use Rattle.script_lines.specs.declared.line_set.EarlierLine.{EarlierLine}
use Rattle.script_lines.specs.Inner.Earlier.{numbers_of}
use Rattle.script_lines.proofs.Rising.{push_rises}
use Rattle.script_lines.proofs.line_set.LineSet.add.Goals as goal

pub invariant_of-self-2 : goal.invariant_of-self-2
invariant_of-self-2 c =
    let line : EarlierLine = record { line = c.args.line; session = c.args.session; command = c.args.command } in
    subst (λ (xs : List EarlierLine). IsStrictlyIncreasing (numbers_of xs)) (sym c.in_ok-push.ensures.items)
    (push_rises c.self.inside.lines.items line c.self.invariant (rw (← c.self.view_is) at c.requires))
