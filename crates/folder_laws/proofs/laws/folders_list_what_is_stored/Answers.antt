use Rattle.folder_laws.proofs.Listed.{names_rise, names_are, entries_are}
use Rattle.folder_laws.proofs.laws.folders_list_what_is_stored.Goals as goal

pub returns : goal.returns
returns c = record {
  order = names_rise;
  names = names_are;
  entries = entries_are;
}
