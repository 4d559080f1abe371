use Rattle.std.proofs.Common.{arith}
use Rattle.edit_code.proofs.ListSteps.{sized_several}
use Rattle.edit_code.proofs.lists.several_size.Goals as goal

pub returns : goal.returns
returns c =
    let it = sized_several c.args.key.now c.args.edits.now c.size.result c.inner_size.result c.min.result c.requires.key
    c.requires.several c.requires.few c.size.ensures.len c.size.ensures.some c.size.ensures.fits c.inner_size.ensures.len
    c.inner_size.ensures.fits (omega (arith, c.min.ensures)) in
    record { len = it.0; some = it.1; fits = it.2 }
