-- The conditions of a conjunction, in whatever order and however often.
use Rattle.std.proofs.Common.{◌≡◌, ℕ, Bool, true, List, [], ◌∷◌, map, Contains, refl, sym, ap, arith}
use Rattle.std.specs.List.{filter, flat_map, list_all, list_any, enumerate_from}
use Rattle.std.proofs.lemmas.Bool.{eqb-true}
use Rattle.level_items.specs.declared.items.Item.{Item}
use Rattle.level_items.specs.Levels.{items_at}
use Rattle.db_config.specs.declared.parts.ConfigParts.{ConfigParts}
use Rattle.bundle_state.specs.Bundle.{BundleParts}
use Rattle.eql_resolve.specs.Asked.{AskedTerm, terms, is_marked_term, is_on, term_level, level_of, AreOnOneLevel, shown_place}
use Rattle.eql_tuples.specs.Sets.{each_once}
use Rattle.eql_model.specs.Meaning.{meets, meets_all, single, tuples}
use Rattle.eql_tuples.specs.Shown.{shown}
use Rattle.eql_rows.specs.Spans.{span_at}
use Rattle.eql_model.specs.Results.{stretches, results}
use Rattle.eql_laws.specs.Laws.{HaveSameTerms, OrderIsFree}
use Rattle.eql_laws.proofs.Members.{here, all_at, same_all, same_any}

-- an empty list has no member
none_here : {A R : Type 0} (x : A) → Contains [] x → R
none_here x (k, lt, is) = absurd (omega arith)

level_same : (ts us : List AskedTerm) → AreOnOneLevel (terms ts) → HaveSameTerms ts us → level_of (terms ts) ≡ level_of (terms us)
level_same [] [] one same = refl
level_same [] (u ∷ us) one same = none_here u ((same u).1 (here u us))
level_same (t ∷ ts) [] one same = none_here t ((same t).0 (here t ts))
level_same (t ∷ ts) (u ∷ us) one same =
    sym (eqb-true (term_level u) (term_level t)
    (all_at (is_on (term_level t)) (t ∷ ts) u one ((same u).1 (here u us))))

pub order_free : OrderIsFree
order_free c b ts us one same = (found, shows, λ place. λ i. map (span_at (place i)) (shows i))
  where
    marked : list_any is_marked_term ts ≡ list_any is_marked_term us
    marked = same_any is_marked_term ts us same

    met : (item : Item) → meets_all c b ts item ≡ meets_all c b us item
    met item = same_all (λ t. meets c b t item) ts us same

    level : level_of (terms ts) ≡ level_of (terms us)
    level = level_same ts us one same

    found : tuples c b (terms ts) ≡ tuples c b (terms us)
    found = λ i. map (λ (at : ℕ × Item). single (marked i) at.0)
        (filter (λ (at : ℕ × Item). met at.1 i) (enumerate_from 0 (items_at b.levels (level i))))

    shows : stretches c b (terms ts) ≡ stretches c b (terms us)
    shows = λ i. each_once (flat_map (shown (marked i)) (found i))
