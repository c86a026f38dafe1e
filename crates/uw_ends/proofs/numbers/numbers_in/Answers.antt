use Rattle.std.proofs.Common.{◌≡◌, ◌≤◌, ◌++◌, ◌∷◌, ◌∙◌, [], arith, sym}
use Rattle.uw_ends.specs.Numbers.{number_within}
use Rattle.uw_ends.specs.declared.numbers.TheConstants.{LAST_WRITE}
use Rattle.uw_ends.proofs.ReadLemmas.{number_above, read_all, read_fails, read_more, read_within, texts}
use Rattle.uw_ends.proofs.numbers.numbers_in.Goals as goal

pub returns-in_default-clause-numbers : goal.returns-in_default-clause-numbers
returns-in_default-clause-numbers c =
    read_fails (number_within 1 LAST_WRITE) _ c.loop-part.numbers c.args.parts.now c.loop-part.part-index c.as_bytes.result.now _ (omega arith) c.as_bytes.ensures.value
    (sym c.number_from.ensures.number ∙ c.in_default.is) c.loop-part.invariant

pub loop-part-preserved : goal.loop-part-preserved
loop-part-preserved c =
    let grown : c.push.new.self ≡ c.loop-part.numbers ++ c.in-Some.number ∷ [] = c.in_ok-push.ensures.ok in
    read_more (number_within 1 LAST_WRITE) _ c.loop-part.numbers _ c.args.parts.now c.loop-part.part-index c.in-Some.number c.as_bytes.result.now _ (omega arith) c.as_bytes.ensures.value
    (sym c.number_from.ensures.number ∙ c.in-Some.is) grown c.loop-part.invariant

pub returns-clause-within : goal.returns-clause-within
returns-clause-within c =
    let read = number_within 1 LAST_WRITE in
    read_within read (λ n. 1 ≤ n) (number_above 1 LAST_WRITE) (texts c.args.parts.now) c.loop-part.numbers
    (read_all read _ c.loop-part.numbers c.args.parts.now c.loop-part.part-index (omega arith) c.loop-part.invariant)
