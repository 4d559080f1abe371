-- What stands before the ending of folders' names.
use Rattle.std.proofs.Common.{◌≡◌, ℕ, ◌-◌, Bool, true, false, cond, List, [], ◌∷◌, ◌++◌, length, take, drop, Option, Some, None, Contains, nat_eq, nat_cmp, Less, refl, sym, ap, ◌∙◌, take-append-drop, arith}
use Rattle.std.specs.List.{AllByRecursion, filter_map, cons_option}
use Rattle.std.specs.List.Sorted.{IsStrictlySortedBy}
use Rattle.std.specs.Cmp.Lexicographic.{pointwise, slice_cmp, bytes_decides}
use Rattle.std.proofs.Math.Seq.{take-append_seam, drop-append_seam}
use Rattle.std.proofs.lemmas.List.{length-append}
use Rattle.emu_io.specs.declared.entries.FolderEntry.{FolderEntry}
use Rattle.emudb_files.specs.Names.{stem, folder_stem, in_order, names_with}
use Rattle.folder_laws.specs.Laws.{Rise, names_of, IsFolderOf, StemsRise, StemsAreOfEntries}
use Rattle.folder_laws.proofs.Members.{none_here, here, there, first, parted, in_map, all_at}
use Rattle.folder_laws.proofs.Ordered.{not_self, rise_with, in_order_old, in_order_from}

-- ---- one name

stem_by : (ending name n : List ℕ) (k : ℕ) (b : Bool) → pointwise nat_eq ending (drop k name) ≡ b → cond b (Some (take k name)) None ≡ Some n →
    name ≡ n ++ ending
stem_by ending name n k false is found = absurd cc
stem_by ending name n k true is found =
    let front : take k name ≡ n = cc in
    sym (take-append-drop k name)
    ∙ ap (λ xs. xs ++ drop k name) front
    ∙ ap (λ xs. n ++ xs) (sym ((bytes_decides ending (drop k name)).0 is))

-- a name with an ending is what stands before it, and the ending
stem_is : (ending name n : List ℕ) → stem ending name ≡ Some n → name ≡ n ++ ending
stem_is ending name n found =
    stem_by ending name n (length name - length ending) (pointwise nat_eq ending (drop (length name - length ending) name)) refl found

stem_at : (ending n : List ℕ) (k : ℕ) → k ≡ length n →
    cond (pointwise nat_eq ending (drop k (n ++ ending))) (Some (take k (n ++ ending))) None ≡ Some n
stem_at ending n k is =
    ap (λ j. cond (pointwise nat_eq ending (drop j (n ++ ending))) (Some (take j (n ++ ending))) None) is
    ∙ ap (λ xs. cond (pointwise nat_eq ending xs) (Some (take (length n) (n ++ ending))) None) (drop-append_seam n ending)
    ∙ ap (λ b. cond b (Some (take (length n) (n ++ ending))) None) ((bytes_decides ending ending).1 refl)
    ∙ ap (λ xs. Some xs) (take-append_seam n ending)

stem_of : (ending n : List ℕ) → stem ending (n ++ ending) ≡ Some n
stem_of ending n =
    let size = length-append n ending in
    stem_at ending n (length (n ++ ending) - length ending) (omega arith)

-- ---- one entry

folder_by : (ending n name : List ℕ) (b : Bool) → cond b (stem ending name) None ≡ Some n → (b ≡ true) × (name ≡ n ++ ending)
folder_by ending n name true found = (refl, stem_is ending name n found)
folder_by ending n name false found = absurd cc

folder_is : (ending n : List ℕ) (e : FolderEntry) → folder_stem ending e ≡ Some n → IsFolderOf ending n e
folder_is ending n e found = folder_by ending n e.name e.folder found

folder_of : (ending n : List ℕ) (e : FolderEntry) → IsFolderOf ending n e → folder_stem ending e ≡ Some n
folder_of ending n e is =
    ap (λ b. cond b (stem ending e.name) None) is.0
    ∙ ap (λ name. stem ending name) is.1
    ∙ stem_of ending n

-- ---- all entries

-- an entry that is a folder of this name
abbrev Has : List ℕ → List FolderEntry → List ℕ → Type 0
Has ending entries n = (e : FolderEntry) × Contains entries e × IsFolderOf ending n e

lifted : (ending : List ℕ) (e : FolderEntry) (entries : List FolderEntry) (n : List ℕ) → Has ending entries n → Has ending (e ∷ entries) n
lifted ending e entries n at = (at.0, there e entries at.0 at.1, at.2)

stem_from : (ending : List ℕ) (entries : List FolderEntry) (n : List ℕ) → Contains (filter_map (folder_stem ending) entries) n → Has ending entries n
stem_from ending [] n at = none_here n at
stem_from ending (e ∷ entries) n at = by_stem (folder_stem ending e) refl at (stem_from ending entries n)
  where
    by_stem : (o : Option (List ℕ)) → folder_stem ending e ≡ o → Contains (cons_option o (filter_map (folder_stem ending) entries)) n →
        (Contains (filter_map (folder_stem ending) entries) n → Has ending entries n) → Has ending (e ∷ entries) n
    by_stem None is at rest = lifted ending e entries n (rest at)
    by_stem (Some m) is at rest =
        parted m (filter_map (folder_stem ending) entries) n at
        (λ same. (e, here e entries, folder_is ending n e (is ∙ ap (λ z. Some z) same)))
        (λ behind. lifted ending e entries n (rest behind))

cons_first : (n : List ℕ) (o : Option (List ℕ)) (ns : List (List ℕ)) → o ≡ Some n → Contains (cons_option o ns) n
cons_first n None ns is = absurd cc
cons_first n (Some m) ns is = let same : m ≡ n = cc in first m ns n same

cons_behind : (n : List ℕ) (o : Option (List ℕ)) (ns : List (List ℕ)) → Contains ns n → Contains (cons_option o ns) n
cons_behind n None ns at = at
cons_behind n (Some m) ns at = there m ns n at

stem_in : (ending : List ℕ) (entries : List FolderEntry) (n : List ℕ) (e : FolderEntry) → Contains entries e → IsFolderOf ending n e →
    Contains (filter_map (folder_stem ending) entries) n
stem_in ending [] n e at is = none_here e at
stem_in ending (d ∷ entries) n e at is =
    parted d entries e at
    (λ same. cons_first n (folder_stem ending d) (filter_map (folder_stem ending) entries) (ap (folder_stem ending) same ∙ folder_of ending n e is))
    (λ behind. cons_behind n (folder_stem ending d) (filter_map (folder_stem ending) entries) (stem_in ending entries n e behind is))

pub stems_are : StemsAreOfEntries
stems_are ending entries n = (
  λ at. stem_from ending entries n (in_order_from (filter_map (folder_stem ending) entries) n at),
  λ has. in_order_old (filter_map (folder_stem ending) entries) n (stem_in ending entries n has.0 has.1 has.2),
)

-- ---- their order

-- no later entry has the name of one
new_stem : (ending : List ℕ) (e : FolderEntry) (entries : List FolderEntry) (n : List ℕ) → folder_stem ending e ≡ Some n →
    AllByRecursion (λ z. slice_cmp nat_cmp e.name z ≡ Less) (names_of entries) → Contains (names_with ending entries) n → ⊥
new_stem ending e entries n is low at =
    let has = (stems_are ending entries n).0 at in
    let own = folder_is ending n e is in
    let less = all_at (λ z. slice_cmp nat_cmp e.name z ≡ Less) (names_of entries) has.0.name low (in_map (λ (d : FolderEntry). d.name) entries has.0 has.1) in
    not_self e.name has.0.name (own.1 ∙ sym has.2.1) less

rise_more : (ending : List ℕ) (e : FolderEntry) (entries : List FolderEntry) (o : Option (List ℕ)) → folder_stem ending e ≡ o →
    AllByRecursion (λ z. slice_cmp nat_cmp e.name z ≡ Less) (names_of entries) → Rise (names_with ending entries) →
    Rise (in_order (cons_option o (filter_map (folder_stem ending) entries)))
rise_more ending e entries None is low up = up
rise_more ending e entries (Some n) is low up = rise_with n (names_with ending entries) up (new_stem ending e entries n is low)

pub stems_rise : StemsRise
unfolding IsStrictlySortedBy
stems_rise ending [] up = tt
stems_rise ending (e ∷ entries) up =
    rise_more ending e entries (folder_stem ending e) refl up.0 (stems_rise ending entries up.1)
