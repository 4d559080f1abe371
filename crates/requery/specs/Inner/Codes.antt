-- How the logic stores a query with its requery.
use Rattle.std.specs.Prelude.{refl}
use Rattle.std.specs.Coded.{Coded, code_by, coded×}
use Rattle.eql_resolve.specs.Asked.{AskedParts}
use Rattle.eql_resolve.specs.Inner.Codes.{asked_code}
use Rattle.requery.specs.declared.target.Target.{Target}
use Rattle.requery.specs.contracts.target.Target as target
use Rattle.requery.specs.Target.{ReachedParts}

abbrev pub reached_code : Coded ReachedParts
reached_code =
    code_by (AskedParts × Target) (coded× asked_code target.the_row.coded) (λ r. (r.asked, r.target))
    (λ p. record { asked = p.0; target = p.1 }) (λ _. refl)
