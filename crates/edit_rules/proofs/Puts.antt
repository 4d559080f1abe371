-- A list of edits put to work at the place of its key.
use Rattle.std.proofs.Common.{◌≡◌, true, List, Option, Some, None, Result, Ok, Err, refl, sym, ◌∙◌, ap, subst}
use Rattle.std.specs.List.{list_all}
use Rattle.std.specs.Result.{IfErr, IsErrAnd}
use Rattle.emu_names.specs.declared.names.BundleKey.{BundleKey}
use Rattle.db_config.specs.declared.parts.ConfigParts.{ConfigParts}
use Rattle.bundle_state.specs.Bundle.{BundleParts}
use Rattle.bundle_edits.specs.declared.bundle_change.Counts.{Counts}
use Rattle.edit_rules.specs.declared.database.KeyPlace.{KeyPlace}
use Rattle.bundle_edits.specs.declared.edit.Edit.{Edit}
use Rattle.edit_rules.specs.Database.{DatabaseParts, KeepsDatabaseRules, with_bundles, counts_of}
use Rattle.edit_rules.specs.Inner.KeyPlaces.{IsKeyPlace, found_at, put_at}
use Rattle.edit_rules.proofs.Stays.{place_found, place_put}
use Rattle.edit_rules.specs.declared.acts.Act.TheVariants as acts
use Rattle.edit_rules.specs.declared.acts.Breach.{Breach}
use Rattle.edit_rules.specs.declared.acts.ChangeFault.{ChangeFault}
use Rattle.edit_rules.specs.declared.acts.ChangeFault.TheVariants as places
use Rattle.edit_rules.specs.Acts.{has_key}
use Rattle.edit_rules.specs.Inner.Effects.{breach_of, IsFirstBreach}
use Rattle.emu_names.specs.Inner.Gives.{IsFaultOf as IsTold}
use Rattle.edit_rules.specs.Effects.{in_turn}
use Rattle.edit_rules.specs.Turns.{changed_in_turn}
use Rattle.edit_rules.specs.Inner.Turns.{beside, IsCounted}
use Rattle.edit_rules.proofs.Beside.{counted_is, effect_at, fault_at}

-- what the call on one bundle says, in other words
pub changed_as : (config own : ConfigParts) (counts number : Counts) (old there : Option BundleParts) (es : List Edit) (r : Result (Option BundleParts) Breach) →
    own ≡ config → number ≡ counts → there ≡ old → changed_in_turn own (beside number there) 1 there es ≡ r → changed_in_turn config (beside counts old) 1 old es ≡ r
changed_as config own counts number old there es r same alike found is =
    ap (λ (c : ConfigParts). changed_in_turn c (beside counts old) 1 old es) (sym same) ∙ ap (λ (n : Counts). changed_in_turn own (beside n old) 1 old es) (sym alike)
    ∙ ap (λ (o : Option BundleParts). changed_in_turn own (beside number o) 1 o es) (sym found) ∙ is

pub put_done : (d : DatabaseParts) (k : BundleKey) (es : List Edit) (place : KeyPlace) (last : Option BundleParts) → KeepsDatabaseRules d → list_all (has_key k) es ≡ true → IsKeyPlace k d.bundles place →
    changed_in_turn d.config (beside (counts_of d.bundles) (found_at d.bundles place)) 1 (found_at d.bundles place) es ≡ Ok last → in_turn 1 d es ≡ Ok (with_bundles d (put_at d.bundles place last))
put_done d k es place last keeps own at is =
    effect_at d k es (found_at d.bundles place) last (put_at d.bundles place last) keeps own (place_found d.bundles k place at) (λ of. place_put d.bundles k place last at of) is

pub put_refused : (d : DatabaseParts) (k : BundleKey) (es : List Edit) (place : KeyPlace) (config : ConfigParts) (counts : Counts) (there : Option BundleParts) (fault : ChangeFault) →
    KeepsDatabaseRules d → list_all (has_key k) es ≡ true → IsKeyPlace k d.bundles place → config ≡ d.config → counts ≡ counts_of d.bundles → there ≡ found_at d.bundles place →
    IsTold (breach_of fault) (changed_in_turn config (beside counts there) 1 there es) → IsFirstBreach fault (in_turn 1 d es)
put_refused d k es place config counts there (places.Broken breach) keeps own at same alike found gives =
    fault_at d k es (found_at d.bundles place) breach keeps own (place_found d.bundles k place at)
    (changed_as d.config config (counts_of d.bundles) counts (found_at d.bundles place) there es (Err breach) same alike found gives)
put_refused d k es place config counts there places.Memory keeps own at same alike found gives = tt

-- the call asks that its bundle is counted
pub counted_at : (d : DatabaseParts) (k : BundleKey) (place : KeyPlace) (counts : Counts) (there : Option BundleParts) → KeepsDatabaseRules d → IsKeyPlace k d.bundles place →
    counts ≡ counts_of d.bundles → there ≡ found_at d.bundles place → IsCounted counts there
counted_at d k place counts there keeps at alike found =
    subst (λ (n : Counts). IsCounted n there) (sym alike)
    (counted_is d k there keeps (place_found d.bundles k place at ∙ sym found))

-- what is known of a fault that `?` hands on
pub handed_on : {A E : Type 0} (r : Result A E) (fault : E) (P : E → Type 0) → IsErrAnd r (λ e. e ≡ fault) → P fault → IfErr r P
handed_on (Ok x) fault P is holds = tt
handed_on (Err e) fault P is holds = subst P (sym is) holds
