-- All members are those before the levels, and then the levels and those behind them.
use Rattle.std.proofs.Common.{◌≡◌, ◌∙◌, List, ℕ, Bool, refl}
use Rattle.std.specs.Prelude.{Result, Ok, Err, codes}
use Rattle.json_view.specs.Seen.{Seen}
use Rattle.json_view.specs.Steps.{◌>>=◌}
use Rattle.config_json.specs.declared.faults.ConfigFault.{ConfigFault}
use Rattle.db_config.specs.declared.groups.GroupDef.{GroupDef}
use Rattle.db_config.specs.declared.parts.LevelDef.{LevelDef}
use Rattle.config_json.specs.declared.named.NamedLink.{NamedLink}
use Rattle.config_json.specs.declared.named.NamedHead.{NamedHead}
use Rattle.config_json.specs.declared.named.NamedLists.{NamedLists}
use Rattle.config_json.specs.declared.named.NamedParts.{NamedParts}
use Rattle.config_json.specs.Faults.{form}
use Rattle.config_json.specs.Forms.{object_of, name_at, optional_text}
use Rattle.config_json.specs.Read.{tracks_member, levels_member, links_member, groups_member, named_parts}
use Rattle.config_json.specs.Inner.Read.{named_head, named_lists}

-- the parts of both
abbrev pub joined : NamedHead → NamedLists → NamedParts
joined h l = record {
  name = h.name;
  uuid = h.uuid;
  extension = h.extension;
  tracks = h.tracks;
  levels = l.levels;
  links = l.links;
  groups = l.groups;
}

abbrev R : Type 0 → Type 0
R A = Result A ConfigFault

split : (o : R Bool) (n : R (List ℕ)) (u : R (List ℕ)) (e : R (List ℕ)) (t : R (List (List ℕ)))
    (v : R (List LevelDef)) (k : R (List NamedLink)) (g : R (List GroupDef)) →
    (o >>= λ _. n >>= λ name. u >>= λ uuid. e >>= λ extension. t >>= λ tracks. v >>= λ levels. k >>= λ links. g >>= λ groups.
    Ok (joined (record { name = name; uuid = uuid; extension = extension; tracks = tracks }) (record { levels = levels; links = links; groups = groups })))
    ≡ ((o >>= λ _. n >>= λ name. u >>= λ uuid. e >>= λ extension. t >>= λ tracks.
    Ok (record { name = name; uuid = uuid; extension = extension; tracks = tracks }))
    >>= λ head. (v >>= λ levels. k >>= λ links. g >>= λ groups. Ok (record { levels = levels; links = links; groups = groups }))
    >>= λ lists. Ok (joined head lists))
split (Err x) n u e t v k g = refl
split (Ok o) (Err x) u e t v k g = refl
split (Ok o) (Ok n) (Err x) e t v k g = refl
split (Ok o) (Ok n) (Ok u) (Err x) t v k g = refl
split (Ok o) (Ok n) (Ok u) (Ok e) (Err x) v k g = refl
split (Ok o) (Ok n) (Ok u) (Ok e) (Ok t) (Err x) k g = refl
split (Ok o) (Ok n) (Ok u) (Ok e) (Ok t) (Ok v) (Err x) g = refl
split (Ok o) (Ok n) (Ok u) (Ok e) (Ok t) (Ok v) (Ok k) (Err x) = refl
split (Ok o) (Ok n) (Ok u) (Ok e) (Ok t) (Ok v) (Ok k) (Ok g) = refl

pub parts_split : (s : Seen) → named_parts s ≡ (named_head s >>= λ head. named_lists s >>= λ lists. Ok (joined head lists))
unfolding named_parts named_head named_lists
parts_split s =
    split (form (object_of s)) (form (name_at (codes "name") s)) (form (optional_text (codes "UUID") s))
    (form (optional_text (codes "mediafileExtension") s)) (tracks_member s) (levels_member s) (links_member s) (groups_member s)

-- all members are there
pub parts_are : (s : Seen) (h : NamedHead) (l : NamedLists) → named_head s ≡ Ok h → named_lists s ≡ Ok l → named_parts s ≡ Ok (joined h l)
parts_are s h l head lists = parts_split s ∙ rw (head, lists) refl

-- a fault before the levels
pub no_head : (s : Seen) (e : ConfigFault) → named_head s ≡ Err e → named_parts s ≡ Err e
no_head s e head = parts_split s ∙ rw head refl

pub ruleset parts_joined = (parts_are, no_head)
