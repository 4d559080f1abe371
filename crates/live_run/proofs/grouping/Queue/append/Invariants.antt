use Rattle.std.proofs.Common.{◌≡◌, ◌++◌, vec_capacity}
use Rattle.std.specs.Vec.Iter.{into_iter_items}
use Rattle.live_run.proofs.grouping.Queue.append.Given as goal

-- what is left makes the whole, in the room that was made
abbrev pub invariant-loop-reply : goal.invariant-loop-reply
invariant-loop-reply l = record {
  whole : l.self-inside.list.items ++ into_iter_items l.reply-iterator ≡ l.fn.self.replies ++ l.fn.other.replies;
  room : vec_capacity l.self-inside.list ≡ l.fn.self.capacity;
}
