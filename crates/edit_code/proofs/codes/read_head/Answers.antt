use Rattle.std.proofs.Common.{arith}
use Rattle.edit_code.specs.Inner.Codes.{head_of}
use Rattle.value_codes.specs.Heads.{head_form}
use Rattle.db_config.specs.Valid.{is_config}
use Rattle.value_codes.proofs.HeadLaws.{head_law}
use Rattle.edit_code.proofs.Places.{answers_found, answers_only, answers_place}
use Rattle.edit_code.proofs.codes.read_head.Goals as goal

pub returns-clause-found : goal.returns-clause-found
unfolding head_of
returns-clause-found c =
    answers_found head_form head_law is_config c.args.bytes.now (λ i. omega (arith, c.type_inv.bytes i)) c.head_of.result
    c.head_of.ensures

pub returns-clause-only : goal.returns-clause-only
unfolding head_of
returns-clause-only c =
    answers_only head_form head_law is_config c.args.bytes.now (λ i. omega (arith, c.type_inv.bytes i)) c.head_of.result
    c.head_of.ensures

pub returns-clause-place : goal.returns-clause-place
unfolding head_of
returns-clause-place c =
    answers_place head_form head_law is_config c.args.bytes.now (λ i. omega (arith, c.type_inv.bytes i)) c.head_of.result
    c.head_of.ensures
