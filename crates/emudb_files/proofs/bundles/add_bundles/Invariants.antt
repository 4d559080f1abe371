use Rattle.std.proofs.Common.{[], ◌∷◌, take, flat_map}
use Rattle.book_opening.specs.live_book.Kept.{faults_in}
use Rattle.emudb_files.specs.Wanted.{bundle_wanted}
use Rattle.emudb_files.proofs.Going.{Going}
use Rattle.emudb_files.proofs.bundles.add_bundles.Given as goal

-- what came so far was accepted
abbrev pub invariant-names : goal.invariant-names
invariant-names g l =
    Going g.D.Disk.may_leave g.D.Disk.moment g.D.Disk.left_since (g.F.Folder.content l.fn.folder) (g.F.Folder.content l.folder)
    (λ content. flat_map (λ bundle. bundle_wanted l.path l.session content bundle ∷ []) (take l.name-index l.names)) l.fn.book l.book
    (g.F.Folder.faults l.fn.folder) (g.F.Folder.faults l.folder) (g.F.Folder.misses l.fn.folder)
    (g.F.Folder.misses l.folder) (faults_in g.D.Disk.faults l.fn.book.journal)
    (faults_in g.D.Disk.faults l.book.journal)
