use Rattle.std.proofs.Common.{◌≡◌, ◌<◌, ◌+◌, ◌++◌, ◌∷◌, [], ℕ, List, length, arith, ap, ◌∙◌, sym}
use Rattle.std.specs.Prelude.{string_bytes}
use Rattle.std.proofs.lemmas.Str.{IsUtf8-drop}
use Rattle.std.specs.Str.{IsUtf8}
use Rattle.std.proofs.Common.{subst}
use Rattle.textgrid.specs.Inner.Quoted.{quoted_len}
use Rattle.grid_writing.specs.Layout.{doubled}
use Rattle.grid_writing.proofs.Doubles.{no_quote, behind_quote, goes_on}
use Rattle.grid_writing.proofs.lines.doubled.Goals as goal

pub returns-then-len-rest : goal.returns-then-len-rest
returns-then-len-rest c =
    let len : quoted_len c.loop-rest.rest.now ≡ c.quoted_len-len.result = sym (c.quoted_len-len.ensures.value ∙ ap quoted_len c.as_bytes.ensures.value) in
    c.in_ok-push_str.ensures.bytes ∙ ap (λ (x : List ℕ). string_bytes c.loop-rest.made ++ x) (sym (no_quote c.loop-rest.rest.now (len ∙ c.if-len-rest.true))) ∙ c.loop-rest.invariant.same

pub split_at-requires : goal.split_at-requires
split_at-requires c =
    let len : quoted_len c.loop-rest.rest.now ≡ c.quoted_len-len.result = sym (c.quoted_len-len.ensures.value ∙ ap quoted_len c.as_bytes.ensures.value) in
    let size : length c.as_bytes.result.now ≡ length c.loop-rest.rest.now = ap length c.as_bytes.ensures.value in
    let less : c.quoted_len-len.result < length c.loop-rest.rest.now = omega (arith, c.quoted_len-len.ensures.within, c.if-len-rest.false) in
    behind_quote c.loop-rest.rest.now c.quoted_len-len.result c.loop-rest.invariant.utf8 len less

pub loop-rest-preserved : goal.loop-rest-preserved
loop-rest-preserved c =
    let len : quoted_len c.loop-rest.rest.now ≡ c.quoted_len-len.result = sym (c.quoted_len-len.ensures.value ∙ ap quoted_len c.as_bytes.ensures.value) in
    let size : length c.as_bytes.result.now ≡ length c.loop-rest.rest.now = ap length c.as_bytes.ensures.value in
    let less : c.quoted_len-len.result < length c.loop-rest.rest.now = omega (arith, c.quoted_len-len.ensures.within, c.if-len-rest.false) in
    let cut = behind_quote c.loop-rest.rest.now c.quoted_len-len.result c.loop-rest.invariant.utf8 len less in
    let grown : string_bytes c.push.new.self ≡ (string_bytes c.loop-rest.made ++ c.split_at.result.0.now) ++ 34 ∷ [] =
    c.in_ok-push.ensures.bytes ∙ ap (λ (x : List ℕ). string_bytes c.push_str-in-loop-rest.new.self ++ x) (c.in_ok-push.ensures.ascii (omega arith)) ∙ ap (λ (x : List ℕ). x ++ 34 ∷ []) c.in_ok-push_str-2.ensures.bytes in
    record {
      utf8 = subst IsUtf8 (sym c.split_at.ensures.back) (IsUtf8-drop c.loop-rest.rest.now (c.quoted_len-len.result + 1) c.loop-rest.invariant.utf8 cut);
      same = goes_on (string_bytes c.loop-rest.made) (string_bytes c.push.new.self) c.loop-rest.rest.now c.split_at.result.0.now c.split_at.result.1.now (doubled c.args.text.now) c.quoted_len-len.result len less c.split_at.ensures.front c.split_at.ensures.back grown c.loop-rest.invariant.same;
    }
