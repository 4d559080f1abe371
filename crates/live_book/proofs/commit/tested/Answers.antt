use Rattle.std.proofs.Common.{◌≡◌, Bool, false, Err, sym, subst, rules, arith}
use Rattle.std.specs.Arc.{arc_value}
use Rattle.version_steps.specs.edit_rules.Database.{KeepsDatabaseRules}
use Rattle.version_steps.specs.version_tree.Version.{state_of}
use Rattle.version_steps.specs.edit_rules.declared.commit_fault.EditFault.{EditFault}
use Rattle.live_book.specs.declared.published.Published.{Published}
use Rattle.live_book.specs.Published.{IsStateAfter}
use Rattle.live_book.specs.Inner.Kept.{config_in}
use Rattle.live_book.specs.Commits.{has_journal, HasRoom, IsTooMuch, IsAnswer}
use Rattle.version_steps.specs.Inner.Drafts.{MayServe}
use Rattle.live_book.specs.Inner.Prepared.{IsTest}
use Rattle.live_book.proofs.Committing.{refused, store_full, breaks_none}
use Rattle.live_book.proofs.States.{state_keeps, next_state}
use Rattle.live_book.proofs.commit.tested.Goals as goal

pub next_drafted-requires-clause-keeps : goal.next_drafted-requires-clause-keeps
next_drafted-requires-clause-keeps g c =
    let p = c.args.parts.now in
    let same : c.deref.result.now ≡ arc_value p.current = search rules in
    subst (λ (x : Published). KeepsDatabaseRules (state_of x.version)) (sym same) (state_keeps (config_in p) p.entries (arc_value p.current).version c.requires.book.valid c.requires.book.state)

pub next_drafted-requires-clause-added : goal.next_drafted-requires-clause-added
next_drafted-requires-clause-added g c =
    let p = c.args.parts.now in
    let same : c.deref.result.now ≡ arc_value p.current = search rules in
    subst (λ (x : Published). MayServe x.version.config c.args.entry.now.act c.args.added) (sym same) c.requires.added

pub returns-in-Err-clause-refused : goal.returns-in-Err-clause-refused
returns-in-Err-clause-refused g c =
    let p = c.args.parts.now in
    let same : c.deref.result.now ≡ arc_value p.current = search rules in
    let state : IsStateAfter (config_in p) p.entries c.deref.result.now.version = subst (λ (x : Published). IsStateAfter (config_in p) p.entries x.version) (sym same) c.requires.book.state in
    let room : HasRoom p.entries = omega (arith, c.len-count.ensures, c.if-count-ge-HISTORY_EDITS.false) in
    subst (λ (f : EditFault). IsAnswer (has_journal p.journal) (config_in p) p.entries c.args.entry.now (Err f)) (sym c.refusal.ensures)
    (refused (config_in p) p.entries c.args.entry.now c.deref.result.now.version state (has_journal p.journal) c.in-Err.fault c.len-count.result c.len-count.ensures room c.in-Err.ensures.broken)

pub returns-then-is_too_much-clause-refused : goal.returns-then-is_too_much-clause-refused
returns-then-is_too_much-clause-refused g c =
    let p = c.args.parts.now in
    let same : c.deref.result.now ≡ arc_value p.current = search rules in
    let state : IsStateAfter (config_in p) p.entries c.deref.result.now.version = subst (λ (x : Published). IsStateAfter (config_in p) p.entries x.version) (sym same) c.requires.book.state in
    let room : HasRoom p.entries = omega (arith, c.len-count.ensures, c.if-count-ge-HISTORY_EDITS.false) in
    let much : IsTooMuch (has_journal p.journal) (config_in p) p.entries c.args.entry.now =
    subst (λ (t : Bool). IsTest t (IsTooMuch (has_journal p.journal) (config_in p) p.entries c.args.entry.now)) c.if-is_too_much.true (c.is_too_much.ensures (config_in p) p.entries c.requires.book.held.0 c.requires.book.held.1) in
    store_full (has_journal p.journal) (config_in p) p.entries c.args.entry.now c.len-count.result c.len-count.ensures room
    (breaks_none (config_in p) p.entries c.args.entry.now c.deref.result.now.version state c.in-Ok.version c.in-Ok.ensures.state) much

pub returns-else-is_too_much-clause-welcome : goal.returns-else-is_too_much-clause-welcome
returns-else-is_too_much-clause-welcome g c =
    let p = c.args.parts.now in
    let same : c.deref.result.now ≡ arc_value p.current = search rules in
    let state : IsStateAfter (config_in p) p.entries c.deref.result.now.version = subst (λ (x : Published). IsStateAfter (config_in p) p.entries x.version) (sym same) c.requires.book.state in
    let room : HasRoom p.entries = omega (arith, c.len-count.ensures, c.if-count-ge-HISTORY_EDITS.false) in
    let fits : IsTest false (IsTooMuch (has_journal p.journal) (config_in p) p.entries c.args.entry.now) =
    subst (λ (t : Bool). IsTest t (IsTooMuch (has_journal p.journal) (config_in p) p.entries c.args.entry.now)) c.if-is_too_much.false (c.is_too_much.ensures (config_in p) p.entries c.requires.book.held.0 c.requires.book.held.1) in
    record {
      room = room;
      breaks_none = breaks_none (config_in p) p.entries c.args.entry.now c.deref.result.now.version state c.in-Ok.version c.in-Ok.ensures.state;
      fits = fits;
    }

pub returns-else-is_too_much-clause-state : goal.returns-else-is_too_much-clause-state
returns-else-is_too_much-clause-state g c =
    let p = c.args.parts.now in
    let same : c.deref.result.now ≡ arc_value p.current = search rules in
    let state : IsStateAfter (config_in p) p.entries c.deref.result.now.version = subst (λ (x : Published). IsStateAfter (config_in p) p.entries x.version) (sym same) c.requires.book.state in
    let room : HasRoom p.entries = omega (arith, c.len-count.ensures, c.if-count-ge-HISTORY_EDITS.false) in
    next_state (config_in p) p.entries c.args.entry.now c.deref.result.now.version state c.in-Ok.version room c.in-Ok.ensures.state c.in-Ok.ensures.number
