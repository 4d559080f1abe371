use Rattle.std.proofs.Common.{◌≤◌, take}
use Rattle.std.specs.List.{flat_map}
use Rattle.std.specs.Io.KnownBytes.{Appends}
use Rattle.program_output.specs.reply_texts.Texts.{reply_text}
use Rattle.script_runs.proofs.answers.write_replies.Given as goal

-- the texts so far were written
abbrev pub invariant-loop-reply : goal.invariant-loop-reply
invariant-loop-reply g l =
    Appends (g.K.Sink.written l.fn.out) (g.K.Sink.written l.out) (flat_map reply_text (take l.reply-index l.reply-items))
    × (g.K.Sink.faults l.fn.out ≤ g.K.Sink.faults l.out)
