use Rattle.std.proofs.Common.{◌∙◌, ap, filter_map}
use Rattle.emudb_files.specs.Names.{folder_stem, in_order}
use Rattle.emudb_files.proofs.Ordered.{sorted_is}
use Rattle.emudb_files.proofs.paths.names_with.Goals as goal

pub returns : goal.returns
returns c =
    c.from_vec.ensures
    ∙ sorted_is c.in_ok-names.names.items c.sort.new.self.items c.in_ok-sort.ensures.stable c.in_ok-sort.ensures.sorted
    ∙ ap in_order c.in_ok-names.ensures
    ∙ ap (λ entries. in_order (filter_map (folder_stem c.args.ending.now) entries)) c.as_slice.ensures
