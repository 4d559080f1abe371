-- Entries whose bytes are told.
use Rattle.std.specs.Prelude.{ℕ, List, [], ◌∷◌, codes}
use Rattle.emu_names.specs.declared.kinds.LinkKind.TheVariants.{OneToMany}
use Rattle.emu_names.specs.declared.names.BundleKey.{BundleKey}
use Rattle.bundle_edits.specs.declared.edit.Edit.TheVariants.{RemoveItem, RemoveLink}
use Rattle.edit_rules.specs.declared.acts.Act.TheVariants.{Edits, Config}
use Rattle.edit_rules.specs.declared.acts.ConfigEdit.TheVariants.{AddLinkDefinition}
use Rattle.edit_rules.specs.declared.acts.Entry.{Entry}

-- the bundle b1 of s1
abbrev pub first_bundle : BundleKey
first_bundle = record { session = codes "s1"; bundle = codes "b1" }

-- session 1, line 3: item 7 of the bundle b1 of s1 is taken out
abbrev pub seventh_removed : Entry
seventh_removed = record {
  session = record { 0 = 1 };
  line = 3;
  act = Edits (RemoveItem first_bundle (record { 0 = 7 }) ∷ []);
}

-- its 26 bytes: the form, the session, the line, the edit's number, the two names of the key, the id
abbrev pub seventh_bytes : List ℕ
seventh_bytes =
    1 ∷ 0 ∷ 0 ∷ 0 ∷ 1 ∷ 0 ∷ 0 ∷ 0 ∷ 3 ∷ 4 ∷ 0 ∷ 0 ∷ 0 ∷ 2 ∷ 115 ∷ 49 ∷ 0 ∷ 0 ∷ 0 ∷ 2 ∷ 98 ∷ 49 ∷ 0 ∷ 0 ∷ 0 ∷ 7 ∷ []

-- session 1, line 4: item 7 of the bundle b1 of s1 is taken out, and then the link from item 1 to item 2
abbrev pub two_removed : Entry
two_removed = record {
  session = record { 0 = 1 };
  line = 4;
  act = Edits (RemoveItem first_bundle (record { 0 = 7 })
      ∷ RemoveLink first_bundle (record { 0 = 1 }) (record { 0 = 2 }) ∷ []);
}

-- its 39 bytes: the form, the session, the line, the two names of the key, how many edits there are, and for each its
-- number and its ids
abbrev pub two_bytes : List ℕ
two_bytes =
    2 ∷ 0 ∷ 0 ∷ 0 ∷ 1 ∷ 0 ∷ 0 ∷ 0 ∷ 4 ∷ 0 ∷ 0 ∷ 0 ∷ 2 ∷ 115 ∷ 49 ∷ 0 ∷ 0 ∷ 0 ∷ 2 ∷ 98 ∷ 49 ∷ 0 ∷ 0 ∷ 0 ∷ 2
    ∷ 4 ∷ 0 ∷ 0 ∷ 0 ∷ 7 ∷ 12 ∷ 0 ∷ 0 ∷ 0 ∷ 1 ∷ 0 ∷ 0 ∷ 0 ∷ 2 ∷ []

-- session 1, line 3: a link definition from Word to Phonetic is added
abbrev pub words_linked : Entry
words_linked = record {
  session = record { 0 = 1 };
  line = 3;
  act = Config (AddLinkDefinition OneToMany (codes "Word") (codes "Phonetic"));
}

-- its 31 bytes: the form, the session, the line, the addition's number, the type, the two names
abbrev pub words_bytes : List ℕ
words_bytes =
    3 ∷ 0 ∷ 0 ∷ 0 ∷ 1 ∷ 0 ∷ 0 ∷ 0 ∷ 3 ∷ 15 ∷ 1 ∷ 0 ∷ 0 ∷ 0 ∷ 4 ∷ 87 ∷ 111 ∷ 114 ∷ 100
    ∷ 0 ∷ 0 ∷ 0 ∷ 8 ∷ 80 ∷ 104 ∷ 111 ∷ 110 ∷ 101 ∷ 116 ∷ 105 ∷ 99 ∷ []
