-- Readings whose parts are read.
use Rattle.std.proofs.Common.{◌≡◌, ℕ, List, map, Option, Result, Ok, IsErrOf, codes, sym, ap, subst, subst₂, ◌∙◌, Err}
use Rattle.json_view.specs.Steps.{◌>>=◌}
use Rattle.emu_io.specs.declared.tree.Stored.{Stored}
use Rattle.level_items.specs.declared.annot.Annot.{Annot}
use Rattle.store_texts.specs.edit_rules.declared.acts.Act.{Act}
use Rattle.book_opening.specs.live_book.Kept.{BookParts}
use Rattle.store_texts.specs.declared.faults.FileFault.TheVariants as file_faults
use Rattle.store_texts.specs.declared.faults.Refused.{Refused}
use Rattle.store_texts.specs.declared.faults.Refused.TheVariants as refusals
use Rattle.store_texts.specs.declared.faults.CommandFault.{CommandFault}
use Rattle.store_texts.specs.declared.faults.CommandFault.TheVariants as faults
use Rattle.emudb_files.specs.declared.sessions.Session.{Session}
use Rattle.emudb_files.specs.Answers.{Told, Gives, Reads}
use Rattle.emudb_files.specs.Inner.Running.{Goes}
use Rattle.emudb_files.specs.Names.{path_in}
use Rattle.emudb_files.specs.Wanted.{named, names_in, annot_in, key_of, bundle_path, bundle_wanted, bundles_of, session_path, session_in, session_wanted, bundle_added}
use Rattle.emudb_files.proofs.Going.{names_go, goes_along}

abbrev err_at : (A : Type 0) → CommandFault → Result A CommandFault
err_at A e = Err e

abbrev ok_at : {A : Type 0} → A → Result A CommandFault
ok_at x = Ok x

-- what was read is no fault
no_err : {A : Type 0} (x : A) (b : CommandFault) → IsErrOf (ok_at x) b → ⊥
no_err x b is = absurd cc

abbrev pub session_of : List ℕ → List ℕ → List (List ℕ) → Session
session_of path name bundles = record { path = path; name = name; bundles = bundles }

-- a bundle of which all was read
pub bundle_read : (told : Option (List Stored)) (path session bundle below file name session' : List ℕ) (annot : Annot)
    → below ≡ bundle_path path bundle → named (refusals.File below file_faults.BadName) bundle ≡ Ok name
    → file ≡ path_in below bundle (codes "_annot.json") → session' ≡ session
    → Told told (λ c. annot_in file c ≡ Ok annot)
    → Reads told (λ c. bundle_wanted path session c bundle) (Ok (bundle_added (key_of session' name) annot))
bundle_read told path session bundle below file name session' annot is_below is_name is_file is_session h = record {
  given = λ c known. (
      let named_at : List ℕ → Type 0 = λ p. named (refusals.File p file_faults.BadName) bundle ≡ Ok name in
      let annot_at : List ℕ → Type 0 = λ p. annot_in p c ≡ Ok annot in
      let place : file ≡ path_in (bundle_path path bundle) bundle (codes "_annot.json") =
      is_file ∙ ap (λ p. path_in p bundle (codes "_annot.json")) is_below in
      ap (λ r. r >>= λ b. annot_in (path_in (bundle_path path bundle) bundle (codes "_annot.json")) c >>= λ a.
      Ok (bundle_added (key_of session b) a)) (subst named_at is_below is_name)
      ∙ ap (λ r. r >>= λ a. Ok (bundle_added (key_of session name) a)) (subst annot_at place (h c known))
      ∙ ap (λ s. Ok (bundle_added (key_of s name) annot)) (sym is_session));
  no_disk = no_err (bundle_added (key_of session' name) annot) faults.Disk;
}

gives_stop : {A B : Type 0} (wanted : Result A Refused) (next : A → Result B Refused) (e : CommandFault)
    → Gives wanted (Err e) → Gives (wanted >>= next) (Err e)
gives_stop wanted next (faults.Refused refused) h = ap (λ r. r >>= next) h
gives_stop wanted next faults.Read h = tt
gives_stop wanted next faults.Disk h = tt
gives_stop wanted next faults.Memory h = tt

disk_again : {A B : Type 0} (e : CommandFault) → IsErrOf (err_at A e) faults.Disk → IsErrOf (err_at B e) faults.Disk
disk_again e is = let same : e ≡ faults.Disk = cc in ap (λ v. Err v) same

-- a bundle whose annotation was not read
pub bundle_stops : (told : Option (List Stored)) (path session bundle below file name : List ℕ) (e : CommandFault)
    → below ≡ bundle_path path bundle → named (refusals.File below file_faults.BadName) bundle ≡ Ok name
    → file ≡ path_in below bundle (codes "_annot.json") → Reads told (annot_in file) (Err e)
    → Reads told (λ c. bundle_wanted path session c bundle) (Err e)
bundle_stops told path session bundle below file name e is_below is_name is_file h = record {
  given = λ c known. (
      let named_at : List ℕ → Type 0 = λ p. named (refusals.File p file_faults.BadName) bundle ≡ Ok name in
      let place : path_in (bundle_path path bundle) bundle (codes "_annot.json") ≡ file =
      sym (is_file ∙ ap (λ p. path_in p bundle (codes "_annot.json")) is_below) in
      let wanted : bundle_wanted path session c bundle
      ≡ (annot_in file c >>= λ a. Ok (bundle_added (key_of session name) a)) =
      ap (λ r. r >>= λ b. annot_in (path_in (bundle_path path bundle) bundle (codes "_annot.json")) c >>= λ a.
      Ok (bundle_added (key_of session b) a)) (subst named_at is_below is_name)
      ∙ ap (λ p. annot_in p c >>= λ a. Ok (bundle_added (key_of session name) a)) place in
      let P : Result Act Refused → Type 0 = λ w. Gives w (Err e) in
      subst P (sym wanted) (gives_stop (annot_in file c) (λ a. Ok (bundle_added (key_of session name) a)) e (h.given c known)));
  no_disk = λ is. h.no_disk (disk_again e is);
}

-- a session of which all was read
pub session_read : (told : Option (List Stored)) (path session below name : List ℕ) (bundles : List (List ℕ))
    → below ≡ session_path path session → named (refusals.File below file_faults.BadName) session ≡ Ok name
    → Told told (λ c. names_in below (codes "_bndl") c ≡ Ok bundles)
    → Reads told (session_in path session) (Ok (session_of below name bundles))
session_read told path session below name bundles is_below is_name h = record {
  given = λ c known. (
      let named_at : List ℕ → Type 0 = λ p. named (refusals.File p file_faults.BadName) session ≡ Ok name in
      let names_at : List ℕ → Type 0 = λ p. names_in p (codes "_bndl") c ≡ Ok bundles in
      ap (λ r. r >>= λ n. names_in (session_path path session) (codes "_bndl") c >>= λ l.
      Ok (session_of (session_path path session) n l)) (subst named_at is_below is_name)
      ∙ ap (λ r. r >>= λ l. Ok (session_of (session_path path session) name l)) (subst names_at is_below (h c known))
      ∙ ap (λ p. Ok (session_of p name bundles)) (sym is_below));
  no_disk = no_err (session_of below name bundles) faults.Disk;
}

-- the bundles of a session that was read
pub session_goes : {D T : Type 0} (may_leave : D → List ℕ → Type 0) (moment : D → ℕ)
    (left_since : D → ℕ → List ℕ → Type 0) (told told' : Option (List Stored))
    (path session : List ℕ) (found : Session) (below : List ℕ) (names : List (List ℕ)) (old : BookParts D)
    (r : Result T CommandFault) (new : BookParts D) → below ≡ found.path → names ≡ found.bundles → told' ≡ told
    → Reads told (session_in path session) (Ok found)
    → Goes may_leave moment left_since told' (λ c. map (bundle_wanted below found.name c) names) old r new
    → Goes may_leave moment left_since told (λ c. session_wanted path c session) old r new
session_goes may_leave moment left_since told told' path session found below names old r new is is' same reads goes =
    names_go may_leave moment left_since told (session_in path session) found bundles_of old r new reads
    (goes_along may_leave moment left_since told told' (λ c. bundles_of c found) old r new same
    (subst₂ (λ p l. Goes may_leave moment left_since told' (λ c. map (bundle_wanted p found.name c) l) old r new) is is' goes))
