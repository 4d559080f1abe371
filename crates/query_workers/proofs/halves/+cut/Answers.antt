use Rattle.std.proofs.Common.{Bool, List}
use Rattle.std.specs.List.{flat_map, list_any}
use Rattle.bundle_state.specs.Bundle.{BundleParts}
use Rattle.eql_match.specs.eql_rows.declared.row.Row.{Row}
use Rattle.version_tree.specs.Version.{bundles_of}
use Rattle.query_workers.specs.Inner.Questions.{rows_for, too_many_for}
use Rattle.query_workers.specs.Inner.Runs.{run_of}
use denote.Exit.{no}
use denote.Param.{param}
use denote.Param.Send.{IsSync, sendable, arg_send, param_send}
use denote.Ref.{NamedLft}
use mir.Syntax.{named}
use Rattle.query_workers.proofs.Runs.{run_joined}
use Rattle.query_workers.proofs.Threads.{half_send}
use Rattle.query_workers.proofs.halves.+cut.Goals as goal

pub returns : goal.returns
returns g t c =
    let version = c.args.version.now in
    let first = bundles_of (run_of c.args.from c.middle-cut.result version.bundles) in
    let second = bundles_of (run_of c.middle-cut.result c.args.to version.bundles) in
    let rows : BundleParts → List Row = λ b. rows_for c.args.question.now version.config b in
    let many : BundleParts → Bool = λ b. too_many_for c.args.question.now version.config b in
    run_joined c.both.result c.args.question.now version c.args.from c.middle-cut.result c.args.to
    c.middle-cut.ensures.low c.middle-cut.ensures.high
    (c.both.ensures (flat_map rows first) (flat_map rows second) (list_any many first) (list_any many second)
    c.join-first.ensures.first c.join-first.ensures.second)

pub join-first-requires-send-F : goal.join-first-requires-send-F
join-first-requires-send-F g t c κs within =
    let rt : IsSync (param 0 g.row.R) = search sendable in
    let gate : IsSync (param 1 g.row.G) = search sendable in
    let r : NamedLft = record { mir = named 6; lft = κs.1.1.1.1.1.1.0 } in
    let v : NamedLft = record { mir = named 7; lft = κs.1.1.1.1.1.1.1.0 } in
    let l : NamedLft = record { mir = named 8; lft = κs.1.1.1.1.1.1.1.1.0 } in
    let q : NamedLft = record { mir = named 9; lft = κs.1.1.1.1.1.1.1.1.1.0 } in
    let a : NamedLft = record { mir = named 10; lft = κs.1.1.1.1.1.1.1.1.1.1.0 } in
    let e : NamedLft = record { mir = named 11; lft = κs.1.1.1.1.1.1.1.1.1.1.1.0 } in
    param_send 1 _ (arg_send _ no _ (half_send r v l q a e (param 0 g.row.R) (param 1 g.row.G) _ rt gate))
