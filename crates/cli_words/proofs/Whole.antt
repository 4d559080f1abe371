-- What is read of the words of a call.
use Rattle.std.proofs.Common.{◌≡◌, ◌≢◌, ◌∙◌, ◌||◌, ap, sym, subst, refl, Bool, true, false, List, [], ◌∷◌, map, Option, Some, None, String, string_bytes, Result, Ok, Err}
use Rattle.std.specs.Prelude.{IsErrOf, codes, option_map}
use Rattle.clap.specs.declared.parser.matches.ArgMatches.{ArgMatches}
use Rattle.std.specs.List.{list_any}
use Rattle.std.specs.Str.{bytes_eq}
use Rattle.std.proofs.lemmas.Slice.Eq.{bytes_eq-Decides}
use Rattle.std.proofs.lemmas.Str.{IsUtf8-string_bytes}
use Rattle.clap.specs.Kinds.{Kinds}
use Rattle.clap.specs.Walk.{Row}
use Rattle.clap.specs.Words.{fault_of, subcommand_of}
use Rattle.cli_words.specs.declared.words.Words.{Words}
use Rattle.cli_words.specs.declared.words.WordsFault.{WordsFault}
use Rattle.cli_words.specs.declared.words.WordsFault.TheVariants as faults
use Rattle.cli_words.specs.Lines.{Text}
use Rattle.cli_words.specs.Forms.{words_of}
use Rattle.cli_words.specs.Inner.Gives.{ReadsWords}
use Rattle.cli_words.specs.Inner.Apps.{emu}
use Rattle.cli_words.specs.Inner.Readings.{ends_options, read_found}
use Rattle.cli_words.proofs.Looks.{Look, Looks, looks}
use Rattle.cli_words.proofs.Steps.{unless}
use Rattle.cli_words.proofs.Top.{all_read}

module _ {Z : Type 0} where
  no_dashes : (word : String Z) (words : List (String Z)) (b : Bool) → ends_options (string_bytes word) ≡ b → (b || list_any ends_options (map (λ w. string_bytes w) words)) ≡ false
      → (string_bytes word ≢ codes "--") × (list_any ends_options (map (λ w. string_bytes w) words) ≡ false)
  no_dashes word words true is e = cc
  no_dashes word words false is e = (λ same. differs ((bytes_eq-Decides (string_bytes word) (codes "--")).1 same), e)
    where
      differs : ends_options (string_bytes word) ≡ true → ⊥
      differs h = cc

  -- each word looks as one that is not `--`
  pub all_look : (words : List (String Z)) → list_any ends_options (map (λ w. string_bytes w) words) ≡ false → Looks (map (λ w. string_bytes w) words)
  all_look [] e = tt
  all_look (word ∷ words) e =
      let parts = no_dashes word words (ends_options (string_bytes word)) refl e in
      (looks (string_bytes word) (IsUtf8-string_bytes word) parts.0, all_look words parts.1)

-- where nothing is refused, what is found is what the words ask for
pub found_is : (ws : List Text) → Looks ws → (found : Option (Text × List Row)) → fault_of emu ws ≡ [] → found ≡ subcommand_of emu ws → (r : Result Words WordsFault)
    → ReadsWords r (read_found found) → ReadsWords r (words_of ws)
found_is ws looks found fits rows r reads =
    let same : read_found found ≡ words_of ws = ap read_found rows ∙ sym (ap (λ f. unless f (read_found (subcommand_of emu ws))) fits) ∙ all_read ws looks in
    subst (ReadsWords r) same reads

-- where something is refused, the words ask for nothing
refused_is : (ws : List Text) → Looks ws → (faults : Kinds) → fault_of emu ws ≡ faults → (faults ≡ [] → ⊥) → words_of ws ≡ None
refused_is ws looks [] is some = absurd (some refl)
refused_is ws looks (k ∷ ks) is some = sym (all_read ws looks) ∙ ap (λ f. unless f (read_found (subcommand_of emu ws))) is

pub fault_is : (ws : List Text) → Looks ws → (fault : WordsFault) → (IsErrOf {T = ArgMatches} (Err fault) faults.Usage → fault_of emu ws ≡ [] → ⊥) → ReadsWords (Err fault) (words_of ws)
fault_is ws looks faults.Usage some = refused_is ws looks (fault_of emu ws) refl (some refl)
fault_is ws looks faults.Memory some = tt

-- the name and the rows of one subcommand
pub both : {X : Type 0} (sub : Option X) (name_of : X → Text) (found_in : X → List Row) (name : Text) (rows : List Row)
    → Some name ≡ option_map name_of sub → Some rows ≡ option_map (λ (p : Text × List Row). p.1) (option_map (λ b. (name_of b, found_in b)) sub)
    → ◌≡◌ {A = Option (Text × List Row)} (Some (name, rows)) (option_map (λ b. (name_of b, found_in b)) sub)
both None name_of found_in name rows n r = cc
both (Some b) name_of found_in name rows n r =
    let same : name ≡ name_of b = cc in
    let all : rows ≡ found_in b = cc in
    λ i. Some (same i, all i)
