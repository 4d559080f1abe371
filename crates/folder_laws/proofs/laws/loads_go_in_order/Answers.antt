use Rattle.folder_laws.proofs.Stems.{stems_rise, stems_are}
use Rattle.folder_laws.proofs.laws.loads_go_in_order.Goals as goal

pub returns : goal.returns
returns c = record {
  order = stems_rise;
  names = stems_are;
}
