-- One turn of a loop.
use Rattle.std.proofs.Common.{◌≡◌, ℕ, zero, suc, ◌+◌, ◌-◌, ◌<◌, ◌≤◌, Bool, true, false, cond, not, ◌&&◌, List, [], ◌∷◌, ◌++◌, length, length-append, get_or, take, drop, Option, Some, None, Result, Ok, Err, refl, sym, ap, subst, ◌∙◌, arith, append_assoc}
use Rattle.std.specs.List.{list_all, filter, range_with_len, position_or_len}
use Rattle.std.specs.Option.{option_to_list, is_some}
use Rattle.std.proofs.lemmas.List.{drop_more, take_all, take_more}
use Rattle.std.proofs.lemmas.List.Folds.{list_all-append}
use Rattle.std.proofs.Math.Seq.{drop-append_seam}
use Rattle.std.specs.Prelude.{nat_lt}
use Rattle.std.proofs.lemmas.Bool.Decides.{nat_tests}
use Rattle.json_view.specs.Steps.{with_front}
use Rattle.emu_names.specs.Count.{Rose}
use Rattle.label_match.specs.Pattern.{are_patterns}
use Rattle.label_match.specs.declared.faults.PatternFault.{PatternFault}
use Rattle.label_match.specs.declared.faults.PatternFault.TheVariants as makers
use Rattle.db_config.specs.declared.parts.ConfigParts.{ConfigParts}
use Rattle.eql_syntax.specs.declared.query.Term.{Term}
use Rattle.eql_resolve.specs.declared.faults.AskFault.{AskFault}
use Rattle.eql_resolve.specs.Asked.{AskedTerm}
use Rattle.eql_resolve.specs.Prepared.{term_patterns, terms_patterns}
use Rattle.eql_resolve.specs.Prepare.{is_no_pattern}
use Rattle.eql_resolve.specs.Inner.Prepare.{IsPatternFault, refusal}
use Rattle.eql_resolve.specs.Resolve.{asked_term, asked_terms}
use Rattle.eql_resolve.specs.Sound.{IsTermOf, AreTermsOf}
use Rattle.eql_resolve.proofs.Loops.{AreCompiled, AreAsked}

-- ---- the first text that is no pattern

no_here : (pattern : Bool) (rest : ℕ) → pattern ≡ false → cond (not (not pattern)) (1 + rest) 0 ≡ 0
no_here true rest is = cc
no_here false rest is = refl

yes_here : (pattern others : Bool) (rest k : ℕ) → (pattern && others) ≡ true → (others ≡ true → rest ≡ k) → cond (not (not pattern)) (1 + rest) 0 ≡ suc k
yes_here true others rest k are later = let is = later are in omega arith
yes_here false others rest k are later = cc

pub first_no : (texts : List (List ℕ)) (k : ℕ) (d : List ℕ) → k < length texts → list_all are_patterns (take k texts) ≡ true → are_patterns (get_or texts k d) ≡ false → position_or_len is_no_pattern texts ≡ k
first_no [] k d there before here = absurd (omega arith)
first_no (text ∷ texts) zero d there before here = no_here (are_patterns text) _ here
first_no (text ∷ texts) (suc k) d there before here =
    yes_here (are_patterns text) (list_all are_patterns (take k texts)) _ k before (λ all. first_no texts k d (omega arith) all here)

place_if : (n k len : ℕ) → n ≡ k → k < len → cond (nat_lt n len) (Some n) None ≡ Some k
place_if n k len is there = grind (arith, nat_tests)

-- the refusal of a text behind texts that were compiled
pub refused_at : (texts made : List (List ℕ)) (text : List ℕ) (k before mid now : ℕ) (fault : PatternFault) → AreCompiled texts made k before mid → k < length texts → text ≡ get_or texts k text → (fault ≡ makers.Syntax → are_patterns text ≡ false) → (fault ≡ makers.Size → Rose mid now) → IsPatternFault texts before now (refusal fault k)
refused_at texts made text k before mid now makers.Syntax done there is syntax size =
    place_if _ k (length texts) (first_no texts k text there done.read (subst (λ (t : List ℕ). are_patterns t ≡ false) is (syntax refl))) there
refused_at texts made text k before mid now makers.Size done there is syntax size =
    let rose = size refl in
    let later = done.later in
    (record { there = there; before = done.read }, omega arith)
refused_at texts made text k before mid now makers.Memory done there is syntax size = tt

-- ---- texts that are compiled one after another

both_true : (a b : Bool) → a ≡ true → b ≡ true → (a && (b && true)) ≡ true
both_true a b one two = rw (one, two) refl

-- one text more was compiled
pub compiled_next : (texts made after : List (List ℕ)) (item text pattern : List ℕ) (k before mid now : ℕ) → AreCompiled texts made k before mid → k < length texts → item ≡ get_or texts k item → text ≡ item →
    pattern ≡ text → are_patterns text ≡ true → after ≡ made ++ pattern ∷ [] → mid ≤ now → AreCompiled texts after (k + 1) before now
compiled_next texts made after item text pattern k before mid now done there is same ok read pushed later =
    let up : before ≤ mid = done.later in
    let on : take (k + 1) texts ≡ take k texts ++ text ∷ [] = take_more texts k item there ∙ ap (λ (x : List ℕ). take k texts ++ x ∷ []) (sym is ∙ sym same) in
    record {
      made = pushed ∙ ap (λ (x : List ℕ). made ++ x ∷ []) ok ∙ ap (λ (xs : List (List ℕ)). xs ++ text ∷ []) done.made ∙ sym on;
      read = ap (list_all are_patterns) on ∙ list_all-append are_patterns (take k texts) (text ∷ []) ∙ both_true (list_all are_patterns (take k texts)) (are_patterns text) done.read read;
      counted = ap length pushed ∙ length-append made (pattern ∷ []) ∙ ap (λ (n : ℕ). n + 1) done.counted;
      later = omega arith;
    }

-- all texts were compiled
pub all_compiled : (texts made : List (List ℕ)) (k before now : ℕ) → AreCompiled texts made k before now → length texts ≤ k → (made ≡ texts) × (list_all are_patterns texts ≡ true)
all_compiled texts made k before now done past =
    let whole : take k texts ≡ texts = take_all k texts past in
    (done.made ∙ whole, ap (list_all are_patterns) (sym whole) ∙ done.read)

-- ---- conditions

front_front : {A : Type 0} (made : List A) (x : A) (r : Result (List A) AskFault) → with_front made (with_front (x ∷ []) r) ≡ with_front (made ++ x ∷ []) r
front_front made x (Ok xs) = ap Ok (sym (append_assoc made (x ∷ []) xs))
front_front made x (Err e) = refl

terms_push : (c : ConfigParts) (made : List AskedTerm) (t : AskedTerm) → AreTermsOf c made → IsTermOf c t → AreTermsOf c (made ++ t ∷ [])
terms_push c [] t are is = (is, tt)
terms_push c (x ∷ made) t are is = (are.0, terms_push c made t are.1 is)

front_next : (c : ConfigParts) (t : Term) (asked : AskedTerm) (made : List AskedTerm) (others : List Term) → asked_term c t ≡ Ok asked → with_front made (asked_terms c (t ∷ others)) ≡ with_front (made ++ asked ∷ []) (asked_terms c others)
front_next c t asked made others is = rw is (front_front made asked (asked_terms c others))

patterns_next : (t : Term) (rest : List Term) → drop (length (term_patterns t)) (terms_patterns (t ∷ rest)) ≡ terms_patterns rest
patterns_next t rest = drop-append_seam (term_patterns t) (terms_patterns rest)

pub asked_step : (c : ConfigParts) (terms : List Term) (made : List AskedTerm) (patterns : List (List ℕ)) (i : ℕ) (t : Term) (asked : AskedTerm) (rest : List (List ℕ)) → AreAsked c terms made patterns i → i < length terms → t ≡ get_or terms i t → asked_term c t ≡ Ok asked → IsTermOf c asked → rest ≡ drop (length (term_patterns t)) patterns → AreAsked c terms (made ++ asked ∷ []) rest (i + 1)
asked_step c terms made patterns i t asked rest done there is asks within left =
    let split : drop i terms ≡ t ∷ drop (i + 1) terms = drop_more terms i t there ∙ ap (λ x. x ∷ drop (i + 1) terms) (sym is) in
    record {
      whole = sym (front_next c t asked made (drop (i + 1) terms) asks) ∙ ap (λ ts. with_front made (asked_terms c ts)) (sym split) ∙ done.whole;
      within = terms_push c made asked done.within within;
      rest = left ∙ ap (drop (length (term_patterns t))) (done.rest ∙ ap terms_patterns split) ∙ patterns_next t (drop (i + 1) terms);
    }

-- ---- levels

range_first : (i n : ℕ) → i < n → range_with_len i (n - i) ≡ i ∷ range_with_len (i + 1) (n - (i + 1))
range_first i n there = let e : n - i ≡ suc (n - (i + 1)) = omega arith in ap (range_with_len i) e

-- the first level of the rest that passes
pub range_hit : (p : ℕ → Bool) (i n : ℕ) → i < n → p i ≡ true → filter p (range_with_len i (n - i)) ≡ i ∷ filter p (range_with_len (i + 1) (n - (i + 1)))
range_hit p i n there is = rw (range_first i n there, is) refl

-- or it does not
pub range_miss : (p : ℕ → Bool) (i n : ℕ) → i < n → p i ≡ false → filter p (range_with_len i (n - i)) ≡ filter p (range_with_len (i + 1) (n - (i + 1)))
range_miss p i n there is = rw (range_first i n there, is) refl

-- a level that passes is the first that was found
pub below_hit : (p : ℕ → Bool) (found next : Option ℕ) (i n : ℕ) (all : List ℕ) → i < n → p i ≡ true → is_some found ≡ false → next ≡ Some i → option_to_list found ++ filter p (range_with_len i (n - i)) ≡ all → option_to_list next ++ filter p (range_with_len (i + 1) (n - (i + 1))) ≡ all
below_hit p None next i n all there is none made whole = rw made (sym (range_hit p i n there is) ∙ whole)
below_hit p (Some x) next i n all there is none made whole = cc

-- a level that does not pass changes nothing
pub below_miss : (p : ℕ → Bool) (found next : Option ℕ) (i n : ℕ) (all : List ℕ) → i < n → p i ≡ false → next ≡ found → option_to_list found ++ filter p (range_with_len i (n - i)) ≡ all → option_to_list next ++ filter p (range_with_len (i + 1) (n - (i + 1))) ≡ all
below_miss p found next i n all there is made whole =
    rw made (ap (λ rest. option_to_list found ++ rest) (sym (range_miss p i n there is)) ∙ whole)
