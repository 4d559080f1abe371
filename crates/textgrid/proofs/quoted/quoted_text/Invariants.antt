use Rattle.std.proofs.Common.{◌≡◌, ◌+◌, length, false}
use Rattle.std.specs.Prelude.{string_bytes}
use denote.Shadow.{shadow}
use denote.Text.{Utf8}
use Rattle.textgrid.specs.Quoted.{quoted, longer}
use Rattle.textgrid.proofs.quoted.quoted_text.Given as goal

abbrev pub invariant-loop-rest : goal.invariant-loop-rest
invariant-loop-rest l = record {
  utf8 : shadow (Utf8 l.rest);
  room : l.at + length l.rest ≡ length l.behind;
  same : longer (string_bytes l.made) l.at (quoted l.rest false) ≡ quoted l.behind false;
}

abbrev pub decreases-loop-rest : goal.decreases-loop-rest
decreases-loop-rest l = length l.rest
