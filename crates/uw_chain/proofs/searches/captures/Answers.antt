use Rattle.std.proofs.Common.{◌∙◌, ap, ◌<◌, ◌-◌, min, arith, Option, ℕ}
use Rattle.regex.specs.Locations.{location_count}
use Rattle.uw_chain.specs.Tests.{group_text, group_texts}
use Rattle.uw_chain.proofs.SearchLemmas.{captures_more}
use Rattle.uw_chain.proofs.searches.captures.Goals as goal

pub loop-group-preserved : goal.loop-group-preserved
loop-group-preserved c = λ found are.
    let subject = c.args.subject.now in
    let within : c.loop-group.group < location_count c.args.locations.now = omega (arith, c.len.ensures, c.min-group-end.ensures) in
    captures_more subject found c.loop-group.texts c.push.new.self (group_texts subject found (min 9 (location_count c.args.locations.now - 1)) 1)
    c.in_ok-from_slice.field-0 c.loop-group.group c.min-group-end.result c.loop-group-test.true
    (c.in_ok-from_slice.ensures ∙ c.group_text-text.ensures ∙ ap (λ (span : Option (ℕ × ℕ)). group_text subject span) (c.get.ensures ∙ are.1 c.loop-group.group (omega arith) within))
    c.in_ok-push.ensures.ok (c.loop-group.invariant found are)
