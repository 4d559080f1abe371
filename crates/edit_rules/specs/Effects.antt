-- What acts do to a database, and the database that a history stands for.
use Rattle.std.specs.Prelude.{◌≡◌, ℕ, suc, List, [], ◌∷◌, map, Option, Result, Ok, Err}
use Rattle.emu_names.specs.declared.rules.Broken.{Broken}
use Rattle.emu_names.specs.Steps.{onward}
use Rattle.db_config.specs.declared.parts.ConfigParts.{ConfigParts}
use Rattle.bundle_state.specs.Bundle.{BundleParts}
use Rattle.bundle_state.specs.Fitted.{fitted}
use Rattle.bundle_edits.specs.declared.edit.Edit.{Edit}
use Rattle.bundle_edits.specs.Edits.{key_of}
use Rattle.bundle_edits.specs.Changes.{changed}
use Rattle.edit_rules.specs.declared.acts.Act.{Act}
use Rattle.edit_rules.specs.declared.acts.Act.TheVariants as acts
use Rattle.edit_rules.specs.declared.acts.Breach.{Breach}
use Rattle.edit_rules.specs.declared.acts.ConfigEdit.{ConfigEdit}
use Rattle.edit_rules.specs.declared.acts.Entry.{Entry}
use Rattle.edit_rules.specs.Database.{DatabaseParts, empty_database, with_bundles, bundle_with, put_for, counts_of}
use Rattle.edit_rules.specs.Acts.{config_changed}

-- the database with this bundle, or none, in the place of that of the edit
abbrev pub put_back : DatabaseParts → Edit → Option BundleParts → Result DatabaseParts Broken
put_back database edit next = Ok (with_bundles database (put_for (key_of edit) next database.bundles))

-- the database that one edit leaves, or the rule that it breaks first: the bundle of the edit's key is
-- changed, and all else stays
abbrev pub edit_effect : DatabaseParts → Edit → Result DatabaseParts Broken
edit_effect database edit =
    onward (changed database.config (counts_of database.bundles) (bundle_with (key_of edit) database.bundles) edit)
    (put_back database edit)

-- a broken rule with the place of its edit
abbrev pub at_place : {A : Type 0} → ℕ → Result A Broken → Result A Breach
at_place place (Ok value) = Ok value
at_place place (Err rule) = Err (record { place = place; rule = rule })

-- the database behind edits one after another, of which the first has this place; or the first rule that
-- one of them breaks, with its place
abbrev pub in_turn : ℕ → DatabaseParts → List Edit → Result DatabaseParts Breach
in_turn place database [] = Ok database
in_turn place database (e ∷ es) =
    onward (at_place place (edit_effect database e)) (λ next. in_turn (suc place) next es)

-- the database under a configuration with more parts
abbrev pub fitted_database : DatabaseParts → ConfigParts → DatabaseParts
fitted_database database config =
    record { config = config; bundles = map (fitted config) database.bundles }

-- the database behind an edit of its configuration
abbrev pub config_effect : DatabaseParts → ConfigEdit → Result DatabaseParts Breach
config_effect database edit =
    onward (at_place 1 (config_changed edit database.config))
    (λ config. Ok (fitted_database database config))

-- the database that an act leaves, or the first rule that it breaks, with the place of the edit that breaks
-- it, from 1
abbrev pub effect : DatabaseParts → Act → Result DatabaseParts Breach
effect database (acts.Edits es) = in_turn 1 database es
effect database (acts.Config edit) = config_effect database edit

-- the effects of entries in turn
abbrev pub replayed : DatabaseParts → List Entry → Result DatabaseParts Breach
replayed database [] = Ok database
replayed database (entry ∷ entries) = onward (effect database entry.act) (λ next. replayed next entries)

-- the database after a history, which begins with no bundle
abbrev pub after : ConfigParts → List Entry → Result DatabaseParts Breach
after config history = replayed (empty_database config) history

-- no entry breaks a rule
abbrev pub IsLegal : ConfigParts → List Entry → Type 0
IsLegal config history = (database : DatabaseParts) × (after config history ≡ Ok database)

-- the database that was found, or else this one
abbrev pub found_or : DatabaseParts → Result DatabaseParts Breach → DatabaseParts
found_or other (Ok database) = database
found_or other (Err rule) = other

-- the database after a legal history
abbrev pub database_after : ConfigParts → List Entry → DatabaseParts
database_after config history = found_or (empty_database config) (after config history)

-- what one more act would leave
abbrev pub edited : ConfigParts → List Entry → Act → Result DatabaseParts Breach
edited config history act = onward (after config history) (λ database. effect database act)
