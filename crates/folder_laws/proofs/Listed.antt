-- What a folder lists.
use Rattle.std.proofs.Common.{◌≡◌, ℕ, suc, ◌+◌, Bool, true, false, cond, not, ◌||◌, ◌==◌, List, [], ◌∷◌, ◌++◌, take, Option, Some, None, Contains, is_lt, nat_cmp, Less, refl, sym, ap, subst, ◌∙◌, true≢false, eqb-true, arith}
use Rattle.std.specs.Prelude.{count_by, is_none}
use Rattle.std.specs.List.{AllByRecursion, list_any, insert, prefix_len}
use Rattle.std.specs.List.Sorted.{IsStrictlySortedBy}
use Rattle.std.specs.Cmp.Lexicographic.{slice_cmp, bytes_decides, nat_list_cmp_total}
use Rattle.std.proofs.lemmas.Bool.{or_parts}
use Rattle.std.proofs.lemmas.Bool.Decides.{nat_tests}
use Rattle.std.proofs.lemmas.List.Sums.{sum_by-cons}
use Rattle.std.proofs.lemmas.List.Sorted.{IsPermutation-sym, IsPermutation-insert, Contains-permutation}
use Rattle.emu_io.specs.declared.entries.FolderEntry.{FolderEntry}
use Rattle.emu_io.specs.declared.tree.Stored.{Stored}
use Rattle.emu_io.specs.Folders.{behind, is_slash, first_part, has_parts, entry_behind, entry_of, is_named, is_before, with_entry, with_any, entries_below}
use Rattle.emudb_files.specs.Names.{with_name}
use Rattle.folder_laws.specs.Laws.{Rise, names_of, IsOnePart, IsBehindName, LeadsTo, LiesThere, NamesRise, NamesAreOfContent, EntriesAreOfContent}
use Rattle.folder_laws.proofs.Members.{none_here, here, there, first, parted}
use Rattle.folder_laws.proofs.Ordered.{before_of, rise_with, with_parted, with_new, with_old}

-- ---- paths

equal_self : (x : ℕ) → (x == x) ≡ true
equal_self x = grind (arith, nat_tests)

-- what is left behind a folder, and the folder and a `/`, are the path
slash_is : (b : ℕ) (path rest : List ℕ) (t : Bool) → (b == 47) ≡ t → cond t (Some path) None ≡ Some rest → b ∷ path ≡ 47 ∷ rest
slash_is b path rest false slash is = absurd cc
slash_is b path rest true slash is =
    let same : path ≡ rest = cc in
    ap (λ x. x ∷ path) (eqb-true b 47 slash) ∙ ap (λ xs. 47 ∷ xs) same

step_is : (x y : ℕ) (folder path rest : List ℕ) (t : Bool) → (x == y) ≡ t → cond t (behind folder path) None ≡ Some rest →
    (behind folder path ≡ Some rest → path ≡ folder ++ 47 ∷ rest) → y ∷ path ≡ x ∷ (folder ++ 47 ∷ rest)
step_is x y folder path rest false same is more = absurd cc
step_is x y folder path rest true same is more = ap (λ z. z ∷ path) (sym (eqb-true x y same)) ∙ ap (λ xs. x ∷ xs) (more is)

behind_is : (folder path rest : List ℕ) → behind folder path ≡ Some rest → path ≡ folder ++ 47 ∷ rest
behind_is [] [] rest is = absurd cc
behind_is [] (b ∷ path) rest is = slash_is b path rest (b == 47) refl is
behind_is (x ∷ folder) [] rest is = absurd cc
behind_is (x ∷ folder) (y ∷ path) rest is = step_is x y folder path rest (x == y) refl is (behind_is folder path rest)

behind_of_path : (folder rest : List ℕ) → behind folder (folder ++ 47 ∷ rest) ≡ Some rest
behind_of_path [] rest = refl
behind_of_path (x ∷ folder) rest =
    ap (λ t. cond t (behind folder (folder ++ 47 ∷ rest)) None) (equal_self x) ∙ behind_of_path folder rest

-- ---- the first part of a path

one_more : (n : ℕ) → 1 + n ≡ suc n
one_more n = omega arith

part_on : (b : ℕ) (path : List ℕ) → is_slash b ≡ false → first_part (b ∷ path) ≡ b ∷ first_part path
part_on b path other =
    ap (λ t. take (cond (not t) (1 + prefix_len (λ x. not (is_slash x)) path) 0) (b ∷ path)) other
    ∙ ap (λ n. take n (b ∷ path)) (one_more (prefix_len (λ x. not (is_slash x)) path))

part_none : (b : ℕ) (path : List ℕ) → is_slash b ≡ true → first_part (b ∷ path) ≡ []
part_none b path slash = ap (λ t. take (cond (not t) (1 + prefix_len (λ x. not (is_slash x)) path) 0) (b ∷ path)) slash

-- a path is its first part, and nothing or a `/` and more
record IsParted (path : List ℕ) : Type 0 where
  more : List ℕ
  whole : path ≡ first_part path ++ more
  goes_on : IsBehindName more
  one : IsOnePart (first_part path)

path_parted : (path : List ℕ) → IsParted path
path_parted [] = record { more = []; whole = refl; goes_on = tt; one = refl }
path_parted (b ∷ path) = by_test (is_slash b) refl (path_parted path)
  where
    by_test : (t : Bool) → is_slash b ≡ t → IsParted path → IsParted (b ∷ path)
    by_test true slash rest = record {
      more = b ∷ path;
      whole = ap (λ xs. xs ++ b ∷ path) (sym (part_none b path slash));
      goes_on = eqb-true b 47 slash;
      one = ap (λ xs. list_any is_slash xs) (part_none b path slash);
    }
    by_test false slash rest = record {
      more = rest.more;
      whole = ap (λ xs. b ∷ xs) rest.whole ∙ ap (λ xs. xs ++ rest.more) (sym (part_on b path slash));
      goes_on = rest.goes_on;
      one = ap (λ xs. list_any is_slash xs) (part_on b path slash) ∙ ap (λ t. t || list_any is_slash (first_part path)) slash ∙ rest.one;
    }

-- the first part of a name and what goes on behind it is the name
part_of : (name more : List ℕ) → IsOnePart name → IsBehindName more → first_part (name ++ more) ≡ name
part_of [] [] one goes = refl
part_of [] (b ∷ more) one goes = part_none b more (ap is_slash goes)
part_of (x ∷ name) more one goes =
    let parts = or_parts (is_slash x) (list_any is_slash name) one in
    part_on x (name ++ more) parts.0 ∙ ap (λ xs. x ∷ xs) (part_of name more parts.1 goes)

-- ---- one entry

-- the entry of what is stored has the name under which that lies
entry_leads : (folder : List ℕ) (s : Stored) (e : FolderEntry) → entry_of folder s ≡ Some e → IsOnePart e.name × LeadsTo folder e.name s.path
entry_leads folder s e is = by_rest (behind folder s.path) refl is
  where
    by_rest : (o : Option (List ℕ)) → behind folder s.path ≡ o → entry_behind s o ≡ Some e → IsOnePart e.name × LeadsTo folder e.name s.path
    by_rest None left is = absurd cc
    by_rest (Some rest) left is =
        let same : first_part rest ≡ e.name = cc in
        let parts = path_parted rest in (
          ap (λ xs. list_any is_slash xs) (sym same) ∙ parts.one,
          (
            parts.more,
            behind_is folder s.path rest left ∙ ap (λ xs. folder ++ 47 ∷ xs) (parts.whole ∙ ap (λ xs. xs ++ parts.more) same),
            parts.goes_on,
          ),
        )

-- what lies under a name has an entry of that name
abbrev EntryNamed : List ℕ → List ℕ → Stored → Type 0
EntryNamed folder name s = (e : FolderEntry) × (entry_of folder s ≡ Some e) × (e.name ≡ name)

lies_entry : (folder name : List ℕ) (s : Stored) → IsOnePart name → LeadsTo folder name s.path → EntryNamed folder name s
lies_entry folder name s one (more, is, goes) = (
  record { name = first_part (name ++ more); folder = has_parts (name ++ more) || is_none s.bytes },
  ap (entry_behind s) (ap (behind folder) is ∙ behind_of_path folder (name ++ more)),
  part_of name more one goes,
)

-- ---- one entry more

named_by : (n : List ℕ) (e : FolderEntry) (es : List FolderEntry) (b : Bool) → is_named n e ≡ b → (b || list_any (is_named n) es) ≡ true →
    (list_any (is_named n) es ≡ true → Contains (names_of es) n) → Contains (names_of (e ∷ es)) n
named_by n e es true named is rest = first e.name (names_of es) n ((bytes_decides e.name n).0 named)
named_by n e es false named is rest = there e.name (names_of es) n (rest is)

named_there : (n : List ℕ) (es : List FolderEntry) → list_any (is_named n) es ≡ true → Contains (names_of es) n
named_there n [] is = absurd cc
named_there n (e ∷ es) is = named_by n e es (is_named n e) refl is (named_there n es)

named_none : (n : List ℕ) (es : List FolderEntry) → list_any (is_named n) es ≡ false → Contains (names_of es) n → ⊥
named_none n [] is at = none_here n at
named_none n (e ∷ es) is at =
    let parts = or_parts (is_named n e) (list_any (is_named n) es) is in
    parted e.name (names_of es) n at
    (λ same. let yes = (bytes_decides e.name n).1 same in true≢false (sym yes ∙ parts.0))
    (λ more. named_none n es parts.1 more)

-- none comes before the name where the first one does not
not_before : (n x m : List ℕ) → is_lt (slice_cmp nat_cmp x n) ≡ false → slice_cmp nat_cmp x m ≡ Less → (b : Bool) →
    is_lt (slice_cmp nat_cmp m n) ≡ b → b ≡ false
not_before n x m later less false is = refl
not_before n x m later less true is =
    let through = nat_list_cmp_total.trans x m n less (before_of m n is) in
    sym (ap is_lt through) ∙ later

none_more : (n : ℕ) → 0 + n ≡ n
none_more n = omega arith

none_before : (n x : List ℕ) (es : List FolderEntry) → is_lt (slice_cmp nat_cmp x n) ≡ false →
    AllByRecursion (λ z. slice_cmp nat_cmp x z ≡ Less) (names_of es) → count_by (is_before n) es ≡ 0
none_before n x [] later all = refl
none_before n x (e ∷ es) later all =
    sum_by-cons (λ (d : FolderEntry). cond (is_before n d) 1 0) e es
    ∙ ap (λ b. cond b 1 0 + count_by (is_before n) es) (not_before n x e.name later all.0 (is_lt (slice_cmp nat_cmp e.name n)) refl)
    ∙ none_more (count_by (is_before n) es)
    ∙ none_before n x es later all.1

-- behind those that come before its name an entry stands where the name does
insert_by : (n : List ℕ) (entry e : FolderEntry) (es : List FolderEntry) (b : Bool) → entry.name ≡ n → is_lt (slice_cmp nat_cmp e.name n) ≡ b →
    AllByRecursion (λ z. slice_cmp nat_cmp e.name z ≡ Less) (names_of es) →
    names_of (insert es (count_by (is_before n) es) entry) ≡ with_name n (names_of es) →
    names_of (insert (e ∷ es) (cond b 1 0 + count_by (is_before n) es) entry)
    ≡ cond b (e.name ∷ with_name n (names_of es)) (n ∷ e.name ∷ names_of es)
insert_by n entry e es true own is all more =
    ap (λ k. names_of (insert (e ∷ es) k entry)) (one_more (count_by (is_before n) es))
    ∙ ap (λ ms. e.name ∷ ms) more
insert_by n entry e es false own is all more =
    ap (λ k. names_of (insert (e ∷ es) (0 + k) entry)) (none_before n e.name es is all)
    ∙ ap (λ m. m ∷ e.name ∷ names_of es) own

names_insert : (n : List ℕ) (entry : FolderEntry) → entry.name ≡ n → (es : List FolderEntry) → Rise (names_of es) →
    names_of (insert es (count_by (is_before n) es) entry) ≡ with_name n (names_of es)
unfolding IsStrictlySortedBy
names_insert n entry own [] up = ap (λ m. m ∷ []) own
names_insert n entry own (e ∷ es) up =
    ap (λ k. names_of (insert (e ∷ es) k entry)) (sum_by-cons (λ (d : FolderEntry). cond (is_before n d) 1 0) e es)
    ∙ insert_by n entry e es (is_lt (slice_cmp nat_cmp e.name n)) own refl up.0 (names_insert n entry own es up.1)

-- The entries with one more are as they were, where its name is there; else they have its name at its place.
with_cases : {R : Type 0} (e : FolderEntry) (es : List FolderEntry) → Rise (names_of es) →
    (with_entry e es ≡ es → Contains (names_of es) e.name → R) →
    (names_of (with_entry e es) ≡ with_name e.name (names_of es) → (Contains (names_of es) e.name → ⊥) → R) → R
with_cases {R = R} e es up old new = by_test (list_any (is_named e.name) es) refl
  where
    by_test : (b : Bool) → list_any (is_named e.name) es ≡ b → R
    by_test true is = old (ap (λ b. cond b es (insert es (count_by (is_before e.name) es) e)) is) (named_there e.name es is)
    by_test false is =
        new (ap (λ b. names_of (cond b es (insert es (count_by (is_before e.name) es) e))) is ∙ names_insert e.name e refl es up)
        (named_none e.name es is)

-- ---- the laws

rise_more : (o : Option FolderEntry) (es : List FolderEntry) → Rise (names_of es) → Rise (names_of (with_any o es))
rise_more None es up = up
rise_more (Some e) es up =
    with_cases e es up
    (λ same there. subst (λ xs. Rise (names_of xs)) (sym same) up)
    (λ put new. subst Rise (sym put) (rise_with e.name (names_of es) up new))

pub names_rise : NamesRise
unfolding IsStrictlySortedBy
names_rise [] folder = tt
names_rise (s ∷ content) folder = rise_more (entry_of folder s) (entries_below content folder) (names_rise content folder)

-- a name under which something lies
abbrev Lies : List Stored → List ℕ → List ℕ → Type 0
Lies content folder name = IsOnePart name × LiesThere content folder name

lies_on : (s : Stored) (content : List Stored) (folder name : List ℕ) → Lies content folder name → Lies (s ∷ content) folder name
lies_on s content folder name (one, (t, at, leads)) = (one, (t, there s content t at, leads))

from_more : (s : Stored) (content : List Stored) (folder name : List ℕ) (es : List FolderEntry) → Rise (names_of es) →
    (Contains (names_of es) name → Lies (s ∷ content) folder name) → (o : Option FolderEntry) → entry_of folder s ≡ o →
    Contains (names_of (with_any o es)) name → Lies (s ∷ content) folder name
from_more s content folder name es up old None is at = old at
from_more s content folder name es up old (Some e) is at =
    with_cases e es up
    (λ same own. old (subst (λ xs. Contains (names_of xs) name) same at))
    (λ put new. with_parted e.name (names_of es) name (subst (λ ms. Contains ms name) put at)
    (λ same. let leads = entry_leads folder s e is in
    subst (λ m. Lies (s ∷ content) folder m) same (leads.0, (s, here s content, leads.1)))
    old)

name_from : (content : List Stored) (folder name : List ℕ) → Contains (names_of (entries_below content folder)) name → Lies content folder name
name_from [] folder name at = none_here name at
name_from (s ∷ content) folder name at =
    from_more s content folder name (entries_below content folder) (names_rise content folder)
    (λ old. lies_on s content folder name (name_from content folder name old))
    (entry_of folder s) refl at

own_more : (name : List ℕ) (es : List FolderEntry) → Rise (names_of es) → (o : Option FolderEntry) (e : FolderEntry) → o ≡ Some e → e.name ≡ name →
    Contains (names_of (with_any o es)) name
own_more name es up None e is named = absurd cc
own_more name es up (Some d) e is named =
    let same : d ≡ e = cc in
    let called : d.name ≡ name = ap (λ (x : FolderEntry). x.name) same ∙ named in
    with_cases d es up
    (λ kept own. subst (λ xs. Contains (names_of xs) name) (sym kept) (subst (λ m. Contains (names_of es) m) called own))
    (λ put new. subst (λ ms. Contains ms name) (sym put)
    (subst (λ m. Contains (with_name d.name (names_of es)) m) called (with_new d.name (names_of es))))

old_more : (name : List ℕ) (es : List FolderEntry) → Rise (names_of es) → (o : Option FolderEntry) → Contains (names_of es) name →
    Contains (names_of (with_any o es)) name
old_more name es up None at = at
old_more name es up (Some d) at =
    with_cases d es up
    (λ kept own. subst (λ xs. Contains (names_of xs) name) (sym kept) at)
    (λ put new. subst (λ ms. Contains ms name) (sym put) (with_old d.name (names_of es) name at))

name_in : (content : List Stored) (folder name : List ℕ) (s : Stored) → IsOnePart name → Contains content s → LeadsTo folder name s.path →
    Contains (names_of (entries_below content folder)) name
name_in [] folder name s one at leads = none_here s at
name_in (t ∷ content) folder name s one at leads =
    let es = entries_below content folder in
    let up = names_rise content folder in
    parted t content s at
    (λ same. let named = lies_entry folder name s one leads in
    own_more name es up (entry_of folder t) named.0 (ap (entry_of folder) same ∙ named.1) named.2)
    (λ more. old_more name es up (entry_of folder t) (name_in content folder name s one more leads))

pub names_are : NamesAreOfContent
names_are content folder name = (
  name_from content folder name,
  λ lies. name_in content folder name lies.1.0 lies.0 lies.1.1 lies.1.2,
)

-- the entry comes from something stored
abbrev ComesFrom : List Stored → List ℕ → FolderEntry → Type 0
ComesFrom content folder e = (s : Stored) × Contains content s × (entry_of folder s ≡ Some e)

one_of : (s : Stored) (content : List Stored) (folder : List ℕ) (entry e : FolderEntry) (es : List FolderEntry) →
    entry_of folder s ≡ Some e → (Contains es entry → ComesFrom (s ∷ content) folder entry) → (b : Bool) →
    Contains (cond b es (insert es (count_by (is_before e.name) es) e)) entry → ComesFrom (s ∷ content) folder entry
one_of s content folder entry e es is old true at = old at
one_of s content folder entry e es is old false at =
    let place = count_by (is_before e.name) es in
    let back = IsPermutation-sym (e ∷ es) (insert es place e) (IsPermutation-insert es place e) in
    parted e es entry (Contains-permutation (insert es place e) (e ∷ es) entry back at)
    (λ same. (s, here s content, is ∙ ap (λ x. Some x) same))
    old

any_of : (s : Stored) (content : List Stored) (folder : List ℕ) (entry : FolderEntry) (es : List FolderEntry) →
    (Contains es entry → ComesFrom (s ∷ content) folder entry) → (o : Option FolderEntry) → entry_of folder s ≡ o →
    Contains (with_any o es) entry → ComesFrom (s ∷ content) folder entry
any_of s content folder entry es old None is at = old at
any_of s content folder entry es old (Some e) is at = one_of s content folder entry e es is old (list_any (is_named e.name) es) at

pub entries_are : EntriesAreOfContent
entries_are [] folder entry at = none_here entry at
entries_are (s ∷ content) folder entry at =
    any_of s content folder entry (entries_below content folder)
    (λ old. let from = entries_are content folder entry old in (from.0, there s content from.0 from.1, from.2))
    (entry_of folder s) refl at
