-- How the database after a history of acts follows from that after its beginning.
use Rattle.std.proofs.Common.{◌≡◌, true, List, [], ◌∷◌, ◌++◌, take, drop, Result, Ok, Err, refl, sym, ◌∙◌, ap, subst, arith}
use Rattle.std.proofs.lemmas.List.{take-append-drop}
use Rattle.db_config.specs.declared.parts.ConfigParts.{ConfigParts}
use Rattle.db_config.specs.Valid.{is_valid}
use Rattle.emu_names.specs.Steps.{onward}
use Rattle.edit_rules.specs.Database.{DatabaseParts, empty_database, KeepsDatabaseRules, all_items}
use Rattle.edit_rules.specs.declared.acts.Breach.{Breach}
use Rattle.edit_rules.specs.declared.acts.Entry.{Entry}
use Rattle.edit_rules.specs.Effects.{effect, replayed, after, IsLegal, found_or, database_after}
use Rattle.edit_rules.specs.Laws.{ReplayGoesOn, PrefixesAreLegal, StatesKeepRules}
use Rattle.edit_rules.proofs.Turns.{told, told_same, goes_on, acts_keep_rules}

onward_ok : (r : Result DatabaseParts Breach) → onward r (λ d. told d) ≡ r
onward_ok (Ok d) = refl
onward_ok (Err rule) = refl

-- a history in two pieces
replay_more : (r : Result DatabaseParts Breach) (xs ys : List Entry) →
    onward r (λ d. replayed d (xs ++ ys)) ≡ onward (onward r (λ d. replayed d xs)) (λ d. replayed d ys)
replay_more (Err rule) xs ys = refl
replay_more (Ok d) [] ys = refl
replay_more (Ok d) (x ∷ xs) ys = replay_more (effect d x.act) xs ys

replay_one : (r : Result DatabaseParts Breach) (e : Entry) → onward r (λ d. replayed d (e ∷ [])) ≡ onward r (λ d. effect d e.act)
replay_one (Err rule) e = refl
replay_one (Ok d) e = onward_ok (effect d e.act)

pub after_more : (config : ConfigParts) (xs ys : List Entry) → after config (xs ++ ys) ≡ onward (after config xs) (λ d. replayed d ys)
after_more config xs ys = replay_more (Ok (empty_database config)) xs ys

pub replay_goes_on : ReplayGoesOn
replay_goes_on config history e = after_more config history (e ∷ []) ∙ replay_one (after config history) e

pub prefixes_are_legal : PrefixesAreLegal
prefixes_are_legal config history legal n =
    let whole : onward (after config (take n history)) (λ d. replayed d (drop n history)) ≡ Ok legal.0 =
    sym (after_more config (take n history) (drop n history)) ∙ ap (after config) (take-append-drop n history) ∙ legal.1 in
    let on = goes_on (after config (take n history)) (λ d. replayed d (drop n history)) legal.0 whole in
    (on.middle, on.first)

-- A history keeps the rules.

replay_keeps : (made : Result DatabaseParts Breach) (entries : List Entry) (last : DatabaseParts) → ((d : DatabaseParts) → made ≡ Ok d → KeepsDatabaseRules d) →
    onward made (λ d. replayed d entries) ≡ Ok last → KeepsDatabaseRules last
replay_keeps (Err rule) entries last keeps is = absurd cc
replay_keeps (Ok d) [] last keeps is = keeps last is
replay_keeps (Ok d) (e ∷ entries) last keeps is =
    replay_keeps (effect d e.act) entries last (λ next made. acts_keep_rules d next e.act (keeps d refl) made) is

pub empty_keeps : (config : ConfigParts) → is_valid config ≡ true → KeepsDatabaseRules (empty_database config)
empty_keeps config valid =
    let none : all_items [] ≡ 0 = refl in
    record {
      config = valid;
      few = omega arith;
      rising = refl;
      bundles = λ k d low. absurd (omega (arith, low));
      few_items = omega (arith, none);
    }

-- the database after a legal history under a valid configuration
pub legal_keeps : (config : ConfigParts) (history : List Entry) → is_valid config ≡ true → IsLegal config history → KeepsDatabaseRules (database_after config history)
legal_keeps config history valid legal =
    subst (λ (r : Result DatabaseParts Breach). KeepsDatabaseRules (found_or (empty_database config) r)) (sym legal.1)
    (replay_keeps (Ok (empty_database config)) history legal.0 (λ d same. subst KeepsDatabaseRules (told_same (empty_database config) d same) (empty_keeps config valid)) legal.1)

pub states_keep_rules : StatesKeepRules
states_keep_rules config history valid legal n = legal_keeps config (take n history) valid (prefixes_are_legal config history legal n)
