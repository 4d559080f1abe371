use Rattle.book_opening.proofs.FirstBooks.{still_bare}
use Rattle.book_opening.proofs.making.new_book.Goals as goal

pub returns-then-is_head_too_much-clause-any_moment_err : goal.returns-then-is_head_too_much-clause-any_moment_err
returns-then-is_head_too_much-clause-any_moment_err g c =
    still_bare g.D.Disk.may_leave g.D.Disk.moment g.D.Disk.left_since g.met.D.Disk.only_now c.args.journal c.requires.empty

pub returns-in-Err-clause-any_moment_err : goal.returns-in-Err-clause-any_moment_err
returns-in-Err-clause-any_moment_err g c =
    still_bare g.D.Disk.may_leave g.D.Disk.moment g.D.Disk.left_since g.met.D.Disk.only_now c.args.journal c.requires.empty

pub returns-in-Ok-clause-made : goal.returns-in-Ok-clause-made
returns-in-Ok-clause-made g c = c.begin.ensures.made c.args.config c.args.readers c.in-Ok.ensures

pub returns-in-Ok-clause-passes : goal.returns-in-Ok-clause-passes
returns-in-Ok-clause-passes g c = c.begin.ensures.passes c.args.config c.args.readers c.in-Ok.ensures

pub returns-in-Ok-clause-refused : goal.returns-in-Ok-clause-refused
returns-in-Ok-clause-refused g c = c.begin.ensures.refused c.args.config c.args.readers c.in-Ok.ensures

pub returns-in-Ok-clause-any_moment : goal.returns-in-Ok-clause-any_moment
returns-in-Ok-clause-any_moment g c = c.begin.ensures.any_moment c.args.config c.args.readers c.in-Ok.ensures

pub returns-in-Ok-clause-any_moment_err : goal.returns-in-Ok-clause-any_moment_err
returns-in-Ok-clause-any_moment_err g c = c.begin.ensures.any_moment_err c.args.config c.args.readers c.in-Ok.ensures
