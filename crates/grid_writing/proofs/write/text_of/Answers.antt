use Rattle.std.proofs.Common.{sym, subst}
use Rattle.std.specs.Str.{IsUtf8}
use Rattle.std.proofs.lemmas.Str.{IsUtf8-string_bytes}
use Rattle.grid_writing.proofs.write.text_of.Goals as goal

pub returns-in_ok-from_string-in-None-clause-utf8 : goal.returns-in_ok-from_string-in-None-clause-utf8
returns-in_ok-from_string-in-None-clause-utf8 c =
    subst IsUtf8 (sym c.in_ok-from_string-in-None.ensures) (IsUtf8-string_bytes c.in_ok-text-in-None.text)
