use Rattle.std.proofs.Common.{◌≡◌, true, rules}
use Rattle.cli_words.specs.Numbers.{is_number}
use Rattle.cli_words.proofs.Parsed.{parsed}
use Rattle.cli_words.proofs.numbers.number_of.Goals as goal

pub returns : goal.returns
returns c =
    let is : is_number c.args.text.now ≡ true = search rules in
    parsed c.args.text.now c.parse.result c.ok.result c.parse.ensures.value.0 is c.ok.ensures.value
