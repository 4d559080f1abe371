use Rattle.std.proofs.Common.{◌≡◌, rules}
use Rattle.std.specs.Prelude.{replicate}
use Rattle.eql_columns.proofs.Known.{known_none, none}
use Rattle.eql_columns.proofs.answers.Answers.none.Goals as goal

pub returns : goal.returns
returns c test =
    let is : c.from_vec-known.result ≡ replicate 512 none = search rules in
    known_none test c.from_vec-known.result is
