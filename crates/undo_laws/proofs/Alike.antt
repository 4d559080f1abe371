-- Lists and levels that are as they were.
use Rattle.std.proofs.Common.{◌≡◌, ℕ, zero, suc, ◌+◌, Bool, false, not, ◌&&◌, ◌||◌, cond, List, [], ◌∷◌, ◌++◌, refl, sym, ap, ◌∙◌, Some}
use Rattle.std.specs.List.{list_any, slice_get, slice_set, AllByRecursion}
use Rattle.std.proofs.lemmas.Bool.{or_parts}
use Rattle.level_items.specs.declared.items.Item.{Item}
use Rattle.level_items.specs.Levels.{Level, change_at}
use Rattle.bundle_state.specs.Changed.{change_level}
use Rattle.undo_laws.proofs.Steps.{left}

pub some_is : {A : Type 0} (x y : A) → Some x ≡ Some y → x ≡ y
some_is x y e = cc

pub any_at : {A : Type 0} (q : A → Bool) (xs : List A) (i : ℕ) (x : A) → list_any q xs ≡ false → slice_get xs i ≡ Some x → q x ≡ false
any_at q [] i x none at = absurd cc
any_at q (y ∷ ys) zero x none at = ap q (sym (some_is y x at)) ∙ (or_parts (q y) (list_any q ys) none).0
any_at q (y ∷ ys) (suc i) x none at = any_at q ys i x (or_parts (q y) (list_any q ys) none).1 at

pub all_middle : {A : Type 0} (P : A → Type 0) (front : List A) (x : A) (back : List A) → AllByRecursion P (front ++ x ∷ back) → P x
all_middle P [] x back h = h.0
all_middle P (y ∷ front) x back h = all_middle P front x back h.1

-- where nothing passes, all is left
pub all_left : {A : Type 0} (q : A → Bool) (xs : List A) → list_any q xs ≡ false → left q xs ≡ xs
all_left q [] none = refl
all_left q (x ∷ xs) none =
    let parts = or_parts (q x) (list_any q xs) none in
    ap (λ b. cond (not b) (x ∷ left q xs) (left q xs)) parts.0 ∙ ap (λ ys. x ∷ ys) (all_left q xs parts.1)

pub unset : {A : Type 0} (xs : List A) (i : ℕ) (x y : A) → slice_get xs i ≡ Some x → slice_set (slice_set xs i y) i x ≡ xs
unset [] i x y at = absurd cc
unset (z ∷ zs) zero x y at = ap (λ u. u ∷ zs) (sym (some_is z x at))
unset (z ∷ zs) (suc i) x y at = ap (λ us. z ∷ us) (unset zs i x y at)

pub changed_here : (f : Item → Item) (i : ℕ) (items : List Item) (x : Item) → slice_get items i ≡ Some x → slice_get (change_at f i items) i ≡ Some (f x)
changed_here f i [] x at = absurd cc
changed_here f zero (y ∷ ys) x at = ap (λ z. Some (f z)) (some_is y x at)
changed_here f (suc i) (y ∷ ys) x at = changed_here f i ys x at

-- a change that is turned back, of an item and of a level
pub item_turned : (f g : Item → Item) (i : ℕ) (items : List Item) (x : Item) → slice_get items i ≡ Some x → g (f x) ≡ x → change_at g i (change_at f i items) ≡ items
item_turned f g i [] x at same = refl
item_turned f g zero (y ∷ ys) x at same =
    let own : y ≡ x = some_is y x at in
    ap (λ z. z ∷ ys) (ap (λ z. g (f z)) own ∙ same ∙ sym own)
item_turned f g (suc i) (y ∷ ys) x at same = ap (λ zs. y ∷ zs) (item_turned f g i ys x at same)

pub level_turned : (f g : Level → Level) (k : ℕ) (levels : List Level) (l : Level) → slice_get levels k ≡ Some l → g (f l) ≡ l → change_level g k (change_level f k levels) ≡ levels
level_turned f g k [] l at same = refl
level_turned f g zero (y ∷ ys) l at same =
    let own : y ≡ l = some_is y l at in
    ap (λ z. z ∷ ys) (ap (λ z. g (f z)) own ∙ same ∙ sym own)
level_turned f g (suc k) (y ∷ ys) l at same = ap (λ zs. y ∷ zs) (level_turned f g k ys l at same)

pub level_here : (f : Level → Level) (k : ℕ) (levels : List Level) (l : Level) → slice_get levels k ≡ Some l → slice_get (change_level f k levels) k ≡ Some (f l)
level_here f k [] l at = absurd cc
level_here f zero (x ∷ levels) l at = ap (λ z. Some (f z)) (some_is x l at)
level_here f (suc k) (x ∷ levels) l at = level_here f k levels l at
