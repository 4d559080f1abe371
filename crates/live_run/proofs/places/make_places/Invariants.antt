use Rattle.std.proofs.Common.{◌≡◌, ◌+◌, ◌≤◌, length, vec_len, vec_capacity}
use Rattle.std.specs.List.{All}
use Rattle.live_run.specs.Inner.Running.{HaveRoom}
use Rattle.live_run.proofs.places.make_places.Given as goal

abbrev pub invariant-loop-at : goal.invariant-loop-at
invariant-loop-at g l = record {
  same : l.book ≡ l.initial.book;
  gates : All (λ p. p.gate ≡ g.K.Opening.opened.gate) l.passes;
  left : length l.passes + vec_len l.places ≡ length l.initial.passes;
  len : vec_len l.places + 1 ≡ l.at;
  below : l.at ≤ l.seats;
  capacity : l.seats ≤ vec_capacity l.places;
  room : HaveRoom l.seats l.lines l.places.items;
}
