-- The moves of the seats at the two copies keep the rule.
use Rattle.std.proofs.Common.{◌≡◌, ◌≢◌, ℕ, List, [], ◌∷◌, ◌++◌, set, refl, sym, subst, ⊎_elim}
use mathlib.Core.Option.{some}
use lib.ListN.{get_elem?}
use Rattle.crossbeam_utils.specs.Register.{Admits, TurnsAt, Forks, Merges}
use Rattle.atomic_table.proofs.Lists.{at_set, at_snoc}
use Rattle.logbook.specs.Pages.{Book}
use Rattle.version_gate.specs.declared.rule.Known.{Known}
use Rattle.version_gate.specs.Lists.{Front}
use Rattle.version_gate.specs.Inner.Seats.{stranger, told_of, Fits, Agree, Enters, Shows, Teaches}

-- a stranger fits each gate
pub stranger_fits : (gate : Book) → Fits gate stranger
stranger_fits gate told = absurd (cc told)

pub set_agrees : (gate : Book) (views : List Known) (seat : ℕ) (w : Known) → Agree gate views → Fits gate w → Agree gate (set views seat w)
set_agrees gate views seat w all one j u e =
    ⊎_elim (λ (t : (j ≡ seat) × (w ≡ u)). subst (Fits gate) t.1 one) (λ (t : (j ≢ seat) × (get_elem? views j ≡ some u)). all j u t.1) (at_set views seat j w u e)

pub snoc_agrees : (gate : Book) (views : List Known) (w : Known) → Agree gate views → Fits gate w → Agree gate (views ++ w ∷ [])
snoc_agrees gate views w all one j u e =
    ⊎_elim (λ (t : get_elem? views j ≡ some u). all j u t) (λ (t : w ≡ u). subst (Fits gate) t one) (at_snoc views w u j e)

module _ {T : Type 0} where
  pub admits : Admits (λ (x : Front T). Agree x.gate) stranger
  admits x views h = snoc_agrees x.gate views stranger h (stranger_fits x.gate)

  pub enters : (seat : ℕ) (v : Known) (x : Front T) → TurnsAt (λ (x : Front T). Agree x.gate) seat v x x Enters
  enters seat v x views h at = (told_of x.gate, set_agrees x.gate views seat (told_of x.gate) h (λ _. refl), (h seat v at, (refl, refl)))

  pub shows : (seat : ℕ) (v : Known) (x y : Front T) → y.gate ≡ x.gate → TurnsAt (λ (x : Front T). Agree x.gate) seat v x y Shows
  shows seat v x y same views h at = (
    v,
    subst (λ (g : Book). Agree g (set views seat v)) (sym same) (set_agrees x.gate views seat v h (h seat v at)),
    refl,
  )

  pub teaches : (seat : ℕ) (v : Known) (x y : Front T) → y.gate ≡ x.gate → TurnsAt (λ (x : Front T). Agree x.gate) seat v x y Teaches
  teaches seat v x y same views h at = (
    told_of y.gate,
    subst (λ (g : Book). Agree g (set views seat (told_of y.gate))) (sym same) (set_agrees x.gate views seat (told_of y.gate) h (λ _. same)),
    (refl, refl),
  )

  pub forks : (seat : ℕ) (v : Known) → Forks (λ (x : Front T). Agree x.gate) seat v v v
  forks seat v x views h at =
      snoc_agrees x.gate (set views seat v) v (set_agrees x.gate views seat v h (h seat v at)) (h seat v at)

  pub merges : (seat : ℕ) (v : Known) (other : ℕ) (w : Known) → Merges (λ (x : Front T). Agree x.gate) seat v other w w stranger
  merges seat v other w x views h at apart there =
      let fits : Fits x.gate w = ⊎_elim (λ (t : (other ≡ seat) × (w ≡ w)). absurd (apart t.0)) (λ (t : (other ≢ seat) × (get_elem? views other ≡ some w)). h other w t.1) (at_set views seat other w w there) in
      set_agrees x.gate (set views seat w) other stranger (set_agrees x.gate views seat w h fits) (stranger_fits x.gate)
