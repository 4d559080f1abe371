-- Answers of a test that are kept by the keys of labels.
use Rattle.std.proofs.Common.{◌≡◌, ◌≢◌, ◌⊎◌, inl, inr, ℕ, ◌<◌, Bool, false, List, length, get_or, Some, sym, ap, subst, ◌∙◌, arith}
use Rattle.std.specs.Prelude.{replicate, slice_set}
use Rattle.std.specs.List.{slice_get}
use Rattle.std.proofs.lemmas.Bool.{cases_eq}
use Rattle.std.proofs.lemmas.List.{get_or-replicate, get_or-set_other, get_or-set_same, length-replicate, length-set}
use Rattle.std.proofs.lemmas.Option.{get_or_from_slice_get, slice_get-get_or, slice_get_within}
use Rattle.bundle_index.specs.Inner.Keys.{IsKeyOf}
use Rattle.bundle_index.proofs.ShortLabels.{same_labels}
use Rattle.eql_columns.specs.declared.answers.Known.{Known}
use Rattle.eql_columns.specs.Inner.Labels.{AreKnownOf, IsAnswerTo}

abbrev pub none : Known
none = record { key = 0; is = false }

-- nothing is known
pub known_none : (test : List ℕ → Bool) (known : List Known) → known ≡ replicate 512 none → AreKnownOf test known
known_none test known is = record {
  count = ap length is ∙ length-replicate 512 none;
  right = λ place one at label some key. absurd (some (key_of place one at));
}
  where
    key_of : (place : ℕ) (one : Known) → slice_get known place ≡ Some one → one.key ≡ 0
    key_of place one at =
        let there : slice_get (replicate 512 none) place ≡ Some one = ap (λ ks. slice_get ks place) (sym is) ∙ at in
        let within : place < length (replicate 512 none) = slice_get_within (replicate 512 none) place one there in
        ap (λ (k : Known). k.key) (sym (get_or_from_slice_get (replicate 512 none) place one none there)
        ∙ get_or-replicate 512 place none none (omega (arith, within, length-replicate 512 none)))

-- one more is known
pub known_more : (test : List ℕ → Bool) (known : List Known) (at : ℕ) (one : Known) → AreKnownOf test known →
    IsAnswerTo test one.key one.is → AreKnownOf test (slice_set known at one)
known_more test known at one so right = record {
  count = length-set known at one ∙ so.count;
  right = λ place other there. by place other there (cases_eq place at);
}
  where
    by : (place : ℕ) (other : Known) → slice_get (slice_set known at one) place ≡ Some other →
        (place ≡ at) ⊎ (place ≡ at → ⊥) → IsAnswerTo test other.key other.is
    by place other there (inl same) =
        let within : place < length (slice_set known at one) = slice_get_within (slice_set known at one) place other there in
        let is : other ≡ one =
        sym (get_or_from_slice_get (slice_set known at one) place other one there)
        ∙ ap (λ (i : ℕ). get_or (slice_set known at one) i one) same
        ∙ get_or-set_same known at one one (omega (arith, within, length-set known at one, same)) in
        subst (λ (k : Known). IsAnswerTo test k.key k.is) (sym is) right
    by place other there (inr apart) =
        let within : place < length (slice_set known at one) = slice_get_within (slice_set known at one) place other there in
        let is : get_or known place other ≡ other =
        sym (get_or-set_other known at place one other apart)
        ∙ get_or_from_slice_get (slice_set known at one) place other other there in
        so.right place other (slice_get-get_or known place other (omega (arith, within, length-set known at one)) ∙ ap Some is)

-- what is known at a place of this key
pub known_at : (test : List ℕ → Bool) (known : List Known) (place key : ℕ) (one : Known) → AreKnownOf test known →
    slice_get known place ≡ Some one → one.key ≡ key → IsAnswerTo test key one.is
known_at test known place key one so at same = subst (λ (k : ℕ). IsAnswerTo test k one.is) same (so.right place one at)

-- the answer to a label is that to all labels of its key
pub answer_to : (test : List ℕ → Bool) (label : List ℕ) (key : ℕ) (is : Bool) → (key ≢ 0 → IsKeyOf label key) → is ≡ test label →
    IsAnswerTo test key is
answer_to test label key is mine told other some own =
    told ∙ ap test (same_labels label other key some (mine some) own)
