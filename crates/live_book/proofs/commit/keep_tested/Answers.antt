use Rattle.std.proofs.Common.{◌≡◌, Ok, rules, sym, subst}
use Rattle.std.specs.Arc.{arc_value}
use Rattle.version_steps.specs.edit_rules.Database.{DatabaseParts, KeepsDatabaseRules}
use Rattle.version_steps.specs.edit_rules.Effects.{effect}
use Rattle.edit_undo.specs.Inverse.{inverse_at}
use Rattle.version_steps.specs.version_tree.Version.{state_of}
use Rattle.version_steps.specs.edit_rules.declared.commit_fault.EditFault.TheVariants as edit_faults
use Rattle.live_book.specs.declared.published.Published.{Published}
use Rattle.live_book.specs.Inner.Kept.{book_of, config_in}
use Rattle.live_book.proofs.Committing.{refused_commits}
use Rattle.live_book.proofs.Answering.{memory_is_none}
use Rattle.live_book.proofs.Inverses.{commits_numbered, inverse_after, keeps_from, none_over}
use Rattle.live_book.proofs.States.{state_keeps}
use Rattle.live_book.proofs.commit.keep_tested.Goals as goal

pub inverse_over-requires-clause-keeps : goal.inverse_over-requires-clause-keeps
inverse_over-requires-clause-keeps g c =
    let p = c.args.parts.now in
    let same : c.deref.result.now ≡ arc_value p.current = search rules in
    subst (λ (x : Published). KeepsDatabaseRules (state_of x.version)) (sym same) (state_keeps (config_in p) p.entries (arc_value p.current).version c.requires.book.valid c.requires.book.state)

pub inverse_over-requires-clause-breaks_none : goal.inverse_over-requires-clause-breaks_none
inverse_over-requires-clause-breaks_none g c =
    let p = c.args.parts.now in
    let same : c.deref.result.now ≡ arc_value p.current = search rules in
    subst (λ (x : Published). (next : DatabaseParts) × (effect (state_of x.version) c.args.entry.act ≡ Ok next)) (sym same)
    (none_over (config_in p) p.entries (arc_value p.current).version c.requires.book.state c.args.entry.act c.requires.welcome.breaks_none)

pub returns-in-Err-clause-commits : goal.returns-in-Err-clause-commits
returns-in-Err-clause-commits g c =
    refused_commits g.D.Disk.may_leave g.D.Disk.moment g.D.Disk.left_since g.D.Disk.faults g.met.D.Disk.only_now (book_of c.args.parts.now) c.args.entry edit_faults.Memory tt memory_is_none

pub returns-in-Ok-clause-commits : goal.returns-in-Ok-clause-commits
returns-in-Ok-clause-commits g c =
    commits_numbered g.D.Disk.may_leave g.D.Disk.moment g.D.Disk.left_since g.D.Disk.faults (book_of c.args.parts.now) c.args.entry c.put_tested-made.result c.with_inverse.result (book_of c.put_tested-made.new.parts)
    c.with_inverse.ensures.number c.put_tested-made.ensures.commits

pub returns-in-Ok-clause-inverse : goal.returns-in-Ok-clause-inverse
returns-in-Ok-clause-inverse g c =
    let p = c.args.parts.now in
    let same : c.deref.result.now ≡ arc_value p.current = search rules in
    keeps_from (config_in p) p.entries c.args.entry.act c.with_inverse.result c.in-Ok.inverse c.with_inverse.ensures.inverse
    (inverse_after (config_in p) p.entries (arc_value p.current).version c.requires.book.state c.args.entry.act c.in-Ok.inverse
    (subst (λ (x : Published). c.in-Ok.inverse ≡ inverse_at (state_of x.version) c.args.entry.act) same c.in-Ok.ensures))
