-- Why a parse failed.
use Rattle.std.proofs.Common.{◌≡◌, ◌∙◌, ap, ap₂, refl, subst, [], true, inl, inr}
use Rattle.clap.specs.Words.{App, app_of, is_simple, is_simple_and_free, kind_of, shape_of, with_subcommand}
use Rattle.clap.specs.Kinds.{HasKind, IsAmong, Kinds}
use Rattle.clap.specs.declared.builder.command.Command.{Command}
use Rattle.clap.specs.declared.error.Error.{Error}
use Rattle.clap.specs.declared.error.kind.ErrorKind.TheVariants as kind
use Rattle.cli_words.specs.Inner.Apps.{IsApp, emu}

-- the command is one of which `clap` says what it finds
pub emu_is_free : is_simple_and_free emu ≡ true
emu_is_free = refl

pub emu_is_simple : is_simple emu ≡ true
emu_is_simple = refl

-- what failed for no fault of the words ran out of memory
pub only_memory : (ks : Kinds) (e : Error) → HasKind ks e → ks ≡ [] → kind_of e ≡ kind.OutOfMemory
only_memory ks e (inl memory) none = memory
only_memory ks e (inr among) none = absurd (subst (IsAmong (kind_of e)) none among)
