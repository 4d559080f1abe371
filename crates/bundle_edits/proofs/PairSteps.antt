-- Links of pairs of items, one pair at a time.
use Rattle.std.proofs.Common.{◌≡◌, ℕ, ◌+◌, ◌<◌, Bool, true, false, cond, List, length, get_or, drop, Result, Ok, Err, sym, ap, subst, ◌∙◌}
use Rattle.std.specs.List.{list_any}
use Rattle.std.specs.Result.{IsErrAnd}
use Rattle.emu_names.specs.declared.rules.Broken.{Broken}
use Rattle.emu_names.specs.declared.rules.Fault.{Fault}
use Rattle.emu_names.specs.declared.rules.Fault.TheVariants as faults
use Rattle.emu_names.specs.Inner.Gives.{GivesOrBroken}
use Rattle.emu_names.specs.Steps.{onward}
use Rattle.level_items.specs.declared.annot.AnnotLink.{AnnotLink}
use Rattle.link_graph.specs.declared.link.Link.{Link}
use Rattle.link_graph.specs.Link.{joins}
use Rattle.db_config.specs.declared.parts.ConfigParts.{ConfigParts}
use Rattle.bundle_state.specs.Bundle.{BundleParts}
use Rattle.bundle_state.specs.Built.{FitsConfig}
use Rattle.bundle_state.specs.Changed.{link_added}
use Rattle.bundle_state.proofs.ChangedKept.{added_link_fits}
use Rattle.bundle_state.proofs.LinksKept.{fine_value, ok_same}
use Rattle.bundle_state.proofs.Walks.{drop_get}
use Rattle.bundle_edits.specs.Changes.{is_linked, pair_linked, pairs_linked}

-- ---- one pair

module _ (pair : AnnotLink) (b : BundleParts) (links : List Link) (there : Bool) (same : links ≡ b.links) (is : there ≡ list_any (joins pair.from pair.to) links) where
  asked : there ≡ is_linked b.links pair
  asked = is ∙ ap (λ (ls : List Link). list_any (joins pair.from pair.to) ls) same

  -- a pair that is a link already
  pub pair_there : there ≡ true → pair_linked pair b ≡ Ok b
  pair_there so = ap (λ (t : Bool). cond t (fine_value b) (link_added pair.from pair.to b)) (sym asked ∙ so)

  -- a pair that is none
  pub pair_new : there ≡ false → pair_linked pair b ≡ link_added pair.from pair.to b
  pair_new so = ap (λ (t : Bool). cond t (fine_value b) (link_added pair.from pair.to b)) (sym asked ∙ so)

pub pair_fits : (config : ConfigParts) (pair : AnnotLink) (b next : BundleParts) → FitsConfig config b → pair_linked pair b ≡ Ok next → FitsConfig config next
pair_fits config pair b next fits is = by (is_linked b.links pair) is
  where
    by : (t : Bool) → cond t (fine_value b) (link_added pair.from pair.to b) ≡ Ok next → FitsConfig config next
    by true same = rw (← ok_same b next same) fits
    by false added = added_link_fits pair.from pair.to config b next fits added

-- ---- one pair of several

module _ (pairs : List AnnotLink) (i : ℕ) (d : AnnotLink) (b : BundleParts) (low : i < length pairs) where
  front : pairs_linked (drop i pairs) b ≡ onward (pair_linked (get_or pairs i d) b) (pairs_linked (drop (i + 1) pairs))
  front = ap (λ (ps : List AnnotLink). pairs_linked ps b) (drop_get pairs i d low)

  -- a pair that breaks no rule
  pub pair_goes : (next : BundleParts) → pair_linked (get_or pairs i d) b ≡ Ok next → pairs_linked (drop i pairs) b ≡ pairs_linked (drop (i + 1) pairs) next
  pair_goes next is = front ∙ ap (λ (r : Result BundleParts Broken). onward r (pairs_linked (drop (i + 1) pairs))) is

  -- a pair that breaks one
  pub pair_stops : (answer : Result BundleParts Fault) (fault : Fault) (whole : Result BundleParts Broken) → IsErrAnd answer (λ x. x ≡ fault) → pairs_linked (drop i pairs) b ≡ whole →
      GivesOrBroken {A = BundleParts} (Err fault) (pair_linked (get_or pairs i d) b) → GivesOrBroken answer whole
  pair_stops (Ok x) fault whole same turn is = absurd same
  pair_stops (Err x) fault whole same turn is = subst (λ (f : Fault). GivesOrBroken {A = BundleParts} (Err f) whole) (sym same) (again fault is)
    where
      again : (f : Fault) → GivesOrBroken {A = BundleParts} (Err f) (pair_linked (get_or pairs i d) b) → GivesOrBroken {A = BundleParts} (Err f) whole
      again (faults.Broken rule) h = sym turn ∙ front ∙ ap (λ (r : Result BundleParts Broken). onward r (pairs_linked (drop (i + 1) pairs))) h
      again faults.Memory h = tt
