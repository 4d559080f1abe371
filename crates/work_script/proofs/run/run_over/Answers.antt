use Rattle.work_script.proofs.run.run_over.Goals as goal

pub returns : goal.returns
returns g c = λ number count script. c.summary_of-summary.ensures c.args.book number count c.requires.config c.requires.history c.run_live-book.ensures script
