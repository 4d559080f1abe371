use Rattle.emu_cli.specs.Ends.{folder_told, refusals_told}
use Rattle.emu_cli.proofs.Opened.{load_ends, reads_end}
use Rattle.emu_cli.proofs.program.on_store.Goals as goal

pub returns-in-Load : goal.returns-in-Load
returns-in-Load g c =
    load_ends g.D.Disk (folder_told g.F.Folder c.args.folder.now c.load_store.new.folder)
    (refusals_told g.P.PatternMaker c.args.patterns.now c.args.patterns.now)
    c.load_store.result.ending c.args.disk c.load_store.result.disk c.args.command.now c.in-Load.name c.in-Load.is
    (rw c.as_str.ensures at c.load_store.ensures)

pub returns-in_default : goal.returns-in_default
returns-in_default g c =
    reads_end g.D.Disk (folder_told g.F.Folder c.args.folder.now c.args.folder.now)
    (refusals_told g.P.PatternMaker c.args.patterns.now c.read_store.new.patterns)
    c.read_store.result.ending c.args.disk c.read_store.result.disk c.args.command.now
    c.in_default.not-Load c.in_default.not-Import
    (c.read_store.ensures.ending, c.read_store.ensures.untouched)
