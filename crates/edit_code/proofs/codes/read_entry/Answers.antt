use Rattle.std.proofs.Common.{arith}
use Rattle.edit_code.specs.Inner.Codes.{entry_of}
use Rattle.edit_code.specs.Edits.{entry_form}
use Rattle.edit_code.specs.Names.{is_entry}
use Rattle.edit_code.proofs.EditLaws.{entry_law}
use Rattle.edit_code.proofs.Places.{answers_found, answers_only, answers_place}
use Rattle.edit_code.proofs.codes.read_entry.Goals as goal

pub returns-clause-found : goal.returns-clause-found
unfolding entry_of
returns-clause-found c =
    answers_found entry_form entry_law is_entry c.args.bytes.now (λ i. omega (arith, c.type_inv.bytes i)) c.entry_of.result
    c.entry_of.ensures

pub returns-clause-only : goal.returns-clause-only
unfolding entry_of
returns-clause-only c =
    answers_only entry_form entry_law is_entry c.args.bytes.now (λ i. omega (arith, c.type_inv.bytes i)) c.entry_of.result
    c.entry_of.ensures

pub returns-clause-place : goal.returns-clause-place
unfolding entry_of
returns-clause-place c =
    answers_place entry_form entry_law is_entry c.args.bytes.now (λ i. omega (arith, c.type_inv.bytes i)) c.entry_of.result
    c.entry_of.ensures
