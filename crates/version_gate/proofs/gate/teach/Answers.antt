use Rattle.std.proofs.Common.{ap}
use Rattle.version_gate.proofs.Agreeing.{teaches}
use Rattle.version_gate.proofs.gate.teach.Goals as goal

pub publish_as-requires : goal.publish_as-requires
publish_as-requires g c next is =
    let same = rw c.requires at is in
    teaches _ _ c.args.writer.desk.shown.value next (ap (λ f. f.gate) same)
