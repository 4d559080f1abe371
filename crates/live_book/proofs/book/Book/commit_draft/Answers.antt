use Rattle.std.proofs.Common.{Option, Result, sym, subst}
use Rattle.emu_names.specs.declared.rules.Fault.{Fault}
use Rattle.version_steps.specs.bundle_index.Index.{IndexParts}
use Rattle.version_steps.specs.Inner.Drafts.{MayServe}
use Rattle.live_book.specs.Kept.{BookParts}
use Rattle.live_book.specs.Inner.Drafts.{IsDraftIn}
use Rattle.live_book.specs.Inner.Kept.{book_of, present_in}
use Rattle.live_book.proofs.Configs.{may_serve}
use Rattle.live_book.proofs.book.Book.commit_draft.Goals as goal

pub commit_noted_in-requires-clause-added : goal.commit_noted_in-requires-clause-added
commit_noted_in-requires-clause-added g c =
    let p = c.self.inside.parts in
    let draft = c.args.draft in
    let is : IsDraftIn (book_of p) draft.entry draft = subst (λ (b : BookParts g.row.D.Denot). IsDraftIn b draft.entry draft) (sym c.self.view_is) c.requires in
    subst (λ (o : Option (Result IndexParts Fault)). MayServe (present_in p) draft.entry.act o) (sym c.serving-added.ensures) (may_serve g.D.Disk.may_leave p draft c.self.invariant is)
