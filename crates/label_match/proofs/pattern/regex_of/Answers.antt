use Rattle.label_match.proofs.Found.{read_shallow, read_too_big, read_internal, refused_syntax}
use Rattle.label_match.proofs.pattern.regex_of.Goals as goal

pub returns-in-Ok-clause-read : goal.returns-in-Ok-clause-read
returns-in-Ok-clause-read c =
    let made = c.in-Ok.ensures in read_shallow c.in-Ok.made _ made.source made.config made.read

pub returns-in-Err-Syntax-clause-syntax : goal.returns-in-Err-Syntax-clause-syntax
returns-in-Err-Syntax-clause-syntax c same =
    let told = c.in-Err-Syntax.ensures in
    refused_syntax c.args.source.now _ c.in-Err-Syntax.field-0-0 told.by_grammar told.kind c.in-Err-Syntax.field-0-is

pub returns-in-Err-CompiledTooBig-clause-size : goal.returns-in-Err-CompiledTooBig-clause-size
returns-in-Err-CompiledTooBig-clause-size c same =
    read_too_big c.args.source.now _ c.in-Err-CompiledTooBig.ensures.kind c.in-Err-CompiledTooBig.field-0-is

pub returns-in-Err-Internal-clause-size : goal.returns-in-Err-Internal-clause-size
returns-in-Err-Internal-clause-size c same =
    read_internal c.args.source.now _ c.in-Err-Internal.ensures.kind c.in-Err-Internal.field-0-is
