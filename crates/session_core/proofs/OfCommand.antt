-- The commands of queries and of `finish`.
use Rattle.std.proofs.Common.{◌≡◌, true, refl}
use Rattle.std.proofs.lemmas.Bool.{false≢true}
use Rattle.session_core.specs.declared.line.Ask.{Ask}
use Rattle.session_core.specs.declared.line.Command.{Command}
use Rattle.session_core.specs.declared.line.Command.TheVariants as commands
use Rattle.session_core.specs.declared.line.Request.TheVariants as requests
use Rattle.session_core.specs.Commands.{is_command_of}

pub query_is : (command : Command) (ask : Ask) → is_command_of command (requests.Query ask) ≡ true → command ≡ commands.Query
query_is commands.Config ask is = absurd (false≢true is)
query_is commands.AddBundle ask is = absurd (false≢true is)
query_is commands.AddTextgrid ask is = absurd (false≢true is)
query_is commands.DropBundle ask is = absurd (false≢true is)
query_is commands.AddItem ask is = absurd (false≢true is)
query_is commands.RemoveItem ask is = absurd (false≢true is)
query_is commands.SetLabel ask is = absurd (false≢true is)
query_is commands.SetSegment ask is = absurd (false≢true is)
query_is commands.MoveBoundary ask is = absurd (false≢true is)
query_is commands.SetPoint ask is = absurd (false≢true is)
query_is commands.Split ask is = absurd (false≢true is)
query_is commands.Merge ask is = absurd (false≢true is)
query_is commands.AddLink ask is = absurd (false≢true is)
query_is commands.RemoveLink ask is = absurd (false≢true is)
query_is commands.LinkTimes ask is = absurd (false≢true is)
query_is commands.Edits ask is = absurd (false≢true is)
query_is commands.AddLevel ask is = absurd (false≢true is)
query_is commands.AddAttribute ask is = absurd (false≢true is)
query_is commands.AddLinkDefinition ask is = absurd (false≢true is)
query_is commands.Undo ask is = absurd (false≢true is)
query_is commands.Query ask is = refl
query_is commands.Look ask is = absurd (false≢true is)
query_is commands.Finish ask is = absurd (false≢true is)
query_is commands.After ask is = absurd (false≢true is)

pub finish_is : (command : Command) → is_command_of command requests.Finish ≡ true → command ≡ commands.Finish
finish_is commands.Config is = absurd (false≢true is)
finish_is commands.AddBundle is = absurd (false≢true is)
finish_is commands.AddTextgrid is = absurd (false≢true is)
finish_is commands.DropBundle is = absurd (false≢true is)
finish_is commands.AddItem is = absurd (false≢true is)
finish_is commands.RemoveItem is = absurd (false≢true is)
finish_is commands.SetLabel is = absurd (false≢true is)
finish_is commands.SetSegment is = absurd (false≢true is)
finish_is commands.MoveBoundary is = absurd (false≢true is)
finish_is commands.SetPoint is = absurd (false≢true is)
finish_is commands.Split is = absurd (false≢true is)
finish_is commands.Merge is = absurd (false≢true is)
finish_is commands.AddLink is = absurd (false≢true is)
finish_is commands.RemoveLink is = absurd (false≢true is)
finish_is commands.LinkTimes is = absurd (false≢true is)
finish_is commands.Edits is = absurd (false≢true is)
finish_is commands.AddLevel is = absurd (false≢true is)
finish_is commands.AddAttribute is = absurd (false≢true is)
finish_is commands.AddLinkDefinition is = absurd (false≢true is)
finish_is commands.Undo is = absurd (false≢true is)
finish_is commands.Query is = absurd (false≢true is)
finish_is commands.Look is = absurd (false≢true is)
finish_is commands.Finish is = refl
finish_is commands.After is = absurd (false≢true is)
