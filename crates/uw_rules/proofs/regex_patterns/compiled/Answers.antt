-- What the crate makes of a text, in the words of Patterns.
use Rattle.uw_rules.proofs.PatternLemmas as lemma
use Rattle.uw_rules.proofs.regex_patterns.compiled.Goals as goal

pub returns-in-Ok-clause-answer : goal.returns-in-Ok-clause-answer
returns-in-Ok-clause-answer c =
    lemma.compiled c.in-Ok.regex c.args.text.now c.in-Ok.ensures.source c.in-Ok.ensures.config c.in-Ok.ensures.read

pub returns-in-Err-Syntax-clause-answer : goal.returns-in-Err-Syntax-clause-answer
returns-in-Err-Syntax-clause-answer c =
    lemma.bad c.args.text.now c.in-Err-Syntax.field-0 c.in-Err-Syntax.field-0-0 c.in-Err-Syntax.field-0-is c.in-Err-Syntax.ensures.refused c.in-Err-Syntax.ensures.kind

pub returns-in-Err-CompiledTooBig-clause-refused :
    goal.returns-in-Err-CompiledTooBig-clause-refused
returns-in-Err-CompiledTooBig-clause-refused c = λ _. lemma.good c.args.text.now c.in-Err-CompiledTooBig.field-0 c.in-Err-CompiledTooBig.field-0-is c.in-Err-CompiledTooBig.ensures.kind
