use Rattle.std.proofs.Common.{◌∙◌, ap, subst, codes, List, ℕ}
use Rattle.emudb_files.specs.Answers.{Reads}
use Rattle.emudb_files.specs.Names.{path_in}
use Rattle.emudb_files.specs.Wanted.{config_in}
use Rattle.emudb_files.proofs.loading.config_wanted.Goals as goal

pub returns-clause-reads : goal.returns-clause-reads
returns-clause-reads g c =
    let P : List ℕ → Type 0 = λ p. Reads (g.F.Folder.content c.args.folder.now) (config_in p) c.config_in.result in
    subst P (c.as_str-2.ensures ∙ c.in_ok-file.ensures
    ∙ ap (λ p. path_in p c.args.name.now (codes "_DBconfig.json")) (c.as_str.ensures ∙ c.in_ok-path.ensures))
    c.config_in.ensures.reads
