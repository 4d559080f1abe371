use Rattle.json_view.proofs.TextLists.{lone_text_is_one, texts_are_all, first_other_is_fault, other_is_no_list}
use Rattle.json_view.proofs.laws.texts_by_cases.Goals as goal

pub returns-clause-lone : goal.returns-clause-lone
returns-clause-lone c = lone_text_is_one

pub returns-clause-all : goal.returns-clause-all
returns-clause-all c = texts_are_all

pub returns-clause-first : goal.returns-clause-first
returns-clause-first c = first_other_is_fault

pub returns-clause-other : goal.returns-clause-other
returns-clause-other c = other_is_no_list
