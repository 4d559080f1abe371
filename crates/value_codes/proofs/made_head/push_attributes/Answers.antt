use Rattle.std.proofs.Common.{◌≡◌, ℕ, ◌+◌, ◌<◌, Bool, true, false, List, [], ◌∷◌, ◌++◌, length, take, get_or, refl, sym, ap, ◌∙◌, arith, append_assoc}
use Rattle.std.specs.Prelude.{Some, None}
use Rattle.std.specs.List.{list_all}
use Rattle.std.proofs.lemmas.List.{take_more}
use Rattle.db_config.specs.Made.{is_attribute}
use Rattle.value_codes.specs.Inner.Names.{if_so}
use Rattle.db_config.proofs.Tests.{all_more}
use Rattle.value_codes.proofs.made_head.push_attributes.Goals as goal

-- a value that is there is the one that passed its test
so_by : {A : Type 0} (test : A → Bool) (x v : A) (passes : Bool) → test x ≡ passes → Some v ≡ if_so test x
    → (v ≡ x) × (test x ≡ true)
so_by test x v true is e =
    let there : if_so test x ≡ Some x = rw is refl in
    let same : v ≡ x = cc in
    (same, is)
so_by test x v false is e =
    let there : if_so test x ≡ None = rw is refl in
    absurd cc

-- the first ones and one more
pushed_more : {A : Type 0} (front items now next : List A) (place : ℕ) (x v : A) → now ≡ front ++ take place items
    → next ≡ now ++ v ∷ [] → place < length items → x ≡ get_or items place x → v ≡ x
    → next ≡ front ++ take (place + 1) items
pushed_more front items now next place x v whole is h at same =
    is ∙ ap (λ l. l ++ v ∷ []) whole ∙ append_assoc front (take place items) (v ∷ [])
    ∙ ap (λ y. front ++ (take place items ++ y ∷ [])) (same ∙ at) ∙ ap (λ l. front ++ l) (sym (take_more items place x h))

pub loop-part-preserved : goal.loop-part-preserved
loop-part-preserved c =
    let part = so_by is_attribute c.part-item.result c.in-Some.def (is_attribute c.part-item.result) refl (sym c.in-Some.is ∙ c.in_ok-def.ensures) in (
      pushed_more c.args.defs.now c.args.raw.now c.loop-part.defs c.push.new.self c.loop-part.part-index c.part-item.result
          c.in-Some.def c.loop-part.invariant.0 c.in_ok-push-in-Some.ensures.ok (omega arith) c.part-item.is part.0,
      all_more is_attribute c.args.raw.now (list_all is_attribute c.args.raw.now) c.loop-part.part-index
          c.loop-part.invariant.1 c.part-item.result (omega arith) c.part-item.is part.1,
    )
