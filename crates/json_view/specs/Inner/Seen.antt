-- Words of contracts and loops beside `specs/Seen.antt`; no promise of the program rests on them.
use Rattle.std.specs.Prelude.{ℕ, List}
use Rattle.serde_json.specs.View.{view}
use Rattle.json_view.specs.declared.path.Path.{Path}
use Rattle.json_view.specs.declared.path.Path.TheVariants as steps
use Rattle.json_view.specs.declared.views.View.{View}
use Rattle.json_view.specs.Paths.{root_path, member_path, element_path}
use Rattle.json_view.specs.Seen.{Seen, seen}

-- the path that these steps lead to
abbrev pub path_of : Path → List ℕ
path_of steps.Whole = root_path
path_of (steps.Member' _ above name) = member_path (path_of above) name.now
path_of (steps.Element' _ above place) = element_path (path_of above) place

-- what a view shows
abbrev pub seen_at : View → Seen
seen_at v = seen (view v.value.now) (path_of v.path)
