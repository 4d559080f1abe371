use Rattle.std.proofs.Common.{◌∙◌, [], ◌∷◌, ◌++◌, ap, filter_map}
use Rattle.emudb_files.specs.Names.{folder_stem}
use Rattle.emudb_files.proofs.Stems.{stems_more}
use Rattle.emudb_files.proofs.paths.stems.Goals as goal

pub entries-preserved : goal.entries-preserved
entries-preserved c =
    c.in_ok-add_stem.ensures
    ∙ ap (λ names. names ++ filter_map (folder_stem c.args.ending.now) (c.entry-item.result ∷ [])) c.entries.invariant
    ∙ stems_more (folder_stem c.args.ending.now) c.args.entries.now c.entries.entry-index c.entry-item.result
    c.entries-test.true c.entry-item.is
