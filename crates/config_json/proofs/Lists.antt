-- How far a list has been read.
use Rattle.std.proofs.Common.{◌≡◌, ℕ, ◌+◌, List, [], ◌∷◌, ◌++◌, length, length-append, sym, ap, ◌∙◌, subst}
use Rattle.std.specs.Prelude.{Result, Ok, Some}
use Rattle.json_view.specs.Seen.{Seen}
use Rattle.json_view.specs.Lists.{each_from}
use Rattle.json_view.specs.Inner.Lists.{element_of}
use Rattle.json_view.specs.Steps.{with_front}
use Rattle.json_view.proofs.Each.{each_more}
use Rattle.config_json.specs.declared.faults.ConfigFault.{ConfigFault}

-- what was read before a place stands in front of the rest
pub record IsRead {A : Type 0} (read : Seen → Result A ConfigFault) (s : Seen) (front : List A) (place : ℕ) : Type 0 where
  pub whole : with_front front (each_from read place s) ≡ each_from read 0 s
  pub counted : length front ≡ place

-- one element more
pub read_more : {A : Type 0} (read : Seen → Result A ConfigFault) (s part : Seen) (front new : List A) (x : A) (place : ℕ) → IsRead read s front place →
    element_of place s ≡ Some part → read part ≡ Ok x → new ≡ front ++ x ∷ [] → IsRead read s new (place + 1)
read_more read s part front new x place before here got is =
    subst (λ ys. IsRead read s ys (place + 1)) (sym is)
    (record {
      whole = each_more read place s part front x (each_from read 0 s) before.whole here got;
      counted = length-append front (x ∷ []) ∙ ap (λ n. n + 1) before.counted;
    })
