use Rattle.std.proofs.Common.{Ok, ◌∙◌, ap, codes, subst, sym}
use Rattle.store_texts.specs.edit_rules.declared.acts.Act.{Act}
use Rattle.emudb_files.specs.Answers.{Reads}
use Rattle.emudb_files.specs.Names.{path_in}
use Rattle.emudb_files.specs.Wanted.{bundle_wanted}
use Rattle.emudb_files.proofs.Reading.{bundle_read, bundle_stops}
use Rattle.emudb_files.proofs.bundles.bundle_act.Goals as goal

pub returns-in-Ok-clause-reads : goal.returns-in-Ok-clause-reads
returns-in-Ok-clause-reads g c =
    subst (λ (act : Act). Reads (g.F.Folder.content c.args.folder.now) (λ content. bundle_wanted c.args.path.now c.args.session.now content c.args.bundle.now) (Ok act))
    (sym c.in_ok-act-in-Ok.ensures)
    (bundle_read (g.F.Folder.content c.args.folder.now) c.args.path.now c.args.session.now c.args.bundle.now
    c.as_str.result.now c.as_str-3.result.now c.in_ok-name.name c.in_ok-session.session c.in-Ok.annot
    (c.as_str.ensures ∙ c.in_ok-below.ensures) c.in_ok-name.ensures
    (c.as_str-3.ensures ∙ c.in_ok-file.ensures
    ∙ ap (λ p. path_in p c.args.bundle.now (codes "_annot.json")) (c.as_str-2.ensures ∙ sym c.as_str.ensures))
    c.in_ok-session.ensures c.in-Ok.ensures.reads.given)

pub returns-clause-reads : goal.returns-clause-reads
returns-clause-reads g c =
    bundle_stops (g.F.Folder.content c.args.folder.now) c.args.path.now c.args.session.now c.args.bundle.now
    c.as_str.result.now c.as_str-3.result.now c.in_ok-name.name c.in-Err.fault
    (c.as_str.ensures ∙ c.in_ok-below.ensures) c.in_ok-name.ensures
    (c.as_str-3.ensures ∙ c.in_ok-file.ensures
    ∙ ap (λ p. path_in p c.args.bundle.now (codes "_annot.json")) (c.as_str-2.ensures ∙ sym c.as_str.ensures))
    c.in-Err.ensures.reads
