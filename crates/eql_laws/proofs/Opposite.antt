-- Of a label test and its opposite, an item meets exactly one.
use Rattle.std.proofs.Common.{◌≡◌, ℕ, zero, suc, ◌+◌, ◌<◌, Bool, true, false, cond, ◌||◌, ◌&&◌, not, List, [], ◌∷◌, map, length, refl, sym, ap, ◌∙◌, arith}
use Rattle.std.specs.List.{filter, enumerate_from}
use Rattle.std.specs.BTreeMap.{is_at}
use Rattle.std.specs.declared.cmp.Ordering.{Ordering}
use Rattle.std.specs.declared.cmp.Ordering.TheVariants.{Less, Equal, Greater}
use Rattle.std.specs.Ordering.{is_eq, ordering_reverse}
use Rattle.level_items.specs.declared.items.Item.{Item}
use Rattle.eql_syntax.specs.declared.query.Op.{Op}
use Rattle.eql_syntax.specs.declared.query.Op.TheVariants.{Is, IsNot, Like, NotLike}
use Rattle.eql_resolve.specs.Asked.{test, AskedTerm}
use Rattle.eql_tuples.specs.declared.tuple.Tuple.{Tuple}
use Rattle.eql_tuples.specs.Sets.{tuple_cmp, has}
use Rattle.eql_model.specs.Labels.{is_wanted, is_matched}
use Rattle.level_items.specs.Levels.{label_of, items_at}
use Rattle.eql_model.specs.Meaning.{meets, meets_all, single}
use Rattle.eql_tuples.specs.Shown.{bare}
use Rattle.eql_laws.specs.Laws.{opposite, TestsAreOpposite, QueriesAreOpposite}
use Rattle.eql_tuples.proofs.Members.{same_tuple, tuples_total}

not_not : (b : Bool) → b ≡ not (not b)
not_not true = refl
not_not false = refl

pub tests_opposite : TestsAreOpposite
tests_opposite c b marked place Is labels item = refl
tests_opposite c b marked place IsNot labels item = not_not (is_wanted c place labels (label_of place.attribute item))
tests_opposite c b marked place Like labels item = refl
tests_opposite c b marked place NotLike labels item = not_not (is_matched labels (label_of place.attribute item))

-- ---- whether an item is among the tuples of a condition

abbrev found : (Item → Bool) → ℕ → List Item → List (ℕ × Item)
found p first items = filter (λ at. p at.1) (enumerate_from first items)

abbrev has_at : ℕ → List (ℕ × Item) → Bool
has_at n kept = has (map (λ (at : ℕ × Item). single false at.0) kept) (bare n n)

abbrev is_of : ℕ → ℕ → Bool
is_of n k = is_at (tuple_cmp (bare n n)) (single false k)

kept_has : (b : Bool) (n k : ℕ) (x : Item) (kept : List (ℕ × Item)) →
    has_at n (cond b ((k, x) ∷ kept) kept) ≡ ((b && is_of n k) || has_at n kept)
kept_has true n k x kept = refl
kept_has false n k x kept = refl

same_by : (o : Ordering) → o ≡ ordering_reverse o → is_eq o ≡ true
same_by Less turned = absurd cc
same_by Equal turned = refl
same_by Greater turned = absurd cc

of_itself : (n k : ℕ) → n ≡ k → is_of n k ≡ true
of_itself n k same =
    ap (λ m. is_of n m) (sym same) ∙ same_by (tuple_cmp (bare n n) (bare n n)) (tuples_total.antisymm (bare n n) (bare n n))

other_by : (n k : ℕ) → n < k → (o : Ordering) → tuple_cmp (bare n n) (bare k k) ≡ o → is_eq o ≡ false
other_by n k h Less is = refl
other_by n k h Equal is =
    let same : n ≡ k = ap (λ (t : Tuple). t.first) (same_tuple (bare n n) (bare k k) is) in absurd (omega arith)
other_by n k h Greater is = refl

other_by_more : (n k : ℕ) → k < n → (o : Ordering) → tuple_cmp (bare n n) (bare k k) ≡ o → is_eq o ≡ false
other_by_more n k h Less is = refl
other_by_more n k h Equal is =
    let same : n ≡ k = ap (λ (t : Tuple). t.first) (same_tuple (bare n n) (bare k k) is) in absurd (omega arith)
other_by_more n k h Greater is = refl

of_later : (n k : ℕ) → n < k → is_of n k ≡ false
of_later n k h = other_by n k h (tuple_cmp (bare n n) (bare k k)) refl

of_earlier : (n k : ℕ) → k < n → is_of n k ≡ false
of_earlier n k h = other_by_more n k h (tuple_cmp (bare n n) (bare k k)) refl

none_end : (a : Bool) → ((a && false) || false) ≡ false
none_end true = refl
none_end false = refl

not_later : (p : Item → Bool) (n k : ℕ) (items : List Item) → n < k → has_at n (found p k items) ≡ false
not_later p n k [] h = refl
not_later p n k (x ∷ items) h =
    kept_has (p x) n k x (found p (k + 1) items)
    ∙ (λ i. (p x && of_later n k h i) || not_later p n (k + 1) items (omega arith) i) ∙ none_end (p x)

-- ---- exactly one of a condition and its opposite

here_end : (a : Bool) → ((not a && true) || false) ≡ not ((a && true) || false)
here_end true = refl
here_end false = refl

there_end : (a r : Bool) → ((not a && false) || not r) ≡ not ((a && false) || r)
there_end true r = refl
there_end false r = refl

exactly_one : (p other : Item → Bool) → ((x : Item) → other x ≡ not (p x)) → (d n k : ℕ) (items : List Item) → n ≡ k + d →
    d < length items → has_at n (found other k items) ≡ not (has_at n (found p k items))
exactly_one p other turned d n k [] is h = absurd (omega arith)
exactly_one p other turned zero n k (x ∷ items) is h =
    kept_has (other x) n k x (found other (k + 1) items)
    ∙ (λ i. (turned x i && of_itself n k (omega arith) i) || not_later other n (k + 1) items (omega arith) i)
    ∙ here_end (p x)
    ∙ sym (ap not (kept_has (p x) n k x (found p (k + 1) items)
    ∙ (λ i. (p x && of_itself n k (omega arith) i) || not_later p n (k + 1) items (omega arith) i)))
exactly_one p other turned (suc d) n k (x ∷ items) is h =
    kept_has (other x) n k x (found other (k + 1) items)
    ∙ (λ i. (turned x i && of_earlier n k (omega arith) i) || exactly_one p other turned d n (k + 1) items (omega arith) (omega arith) i)
    ∙ there_end (p x) (has_at n (found p (k + 1) items))
    ∙ sym (ap not (kept_has (p x) n k x (found p (k + 1) items)
    ∙ (λ i. (p x && of_earlier n k (omega arith) i) || has_at n (found p (k + 1) items))))

and_true : (b : Bool) → (b && true) ≡ b
and_true true = refl
and_true false = refl

pub queries_opposite : QueriesAreOpposite
queries_opposite c b place op labels at h =
    let asked : Op → List AskedTerm = λ o. test false place o labels ∷ [] in
    exactly_one (meets_all c b (asked op)) (meets_all c b (asked (opposite op)))
    (λ x. and_true (meets c b (test false place (opposite op) labels) x) ∙ tests_opposite c b false place op labels x
    ∙ ap not (sym (and_true (meets c b (test false place op labels) x))))
    at at 0 (items_at b.levels place.level) (omega arith) h
