use Rattle.std.proofs.Common.{◌≡◌}
use Rattle.std.proofs.lemmas.Bool.{OnFalse_at, OnTrue_at}
use Rattle.uw_subst.specs.Templates.{filled}
use Rattle.uw_chain.specs.declared.outcome.Outcome.TheVariants as outcomes
use Rattle.uw_chain.specs.Actions.{with_text}
use Rattle.uw_chain.specs.Courses.{ended}
use Rattle.uw_chain.specs.Tests.{filled_within}
use Rattle.uw_chain.proofs.ActLemmas.{filled_long, filled_short, sent_long, sent_more}
use Rattle.uw_chain.proofs.acting.send.Goals as goal

pub returns-then-not-branch : goal.returns-then-not-branch
returns-then-not-branch c =
    let request = c.args.request in
    let filling = c.in_ok-fill_into.ensures in
    let long = filled_long c.args.text.now request.vars c.args.captures.now c.args.moment c.in_ok-fill_into.field-0 filling.short c.if-not-branch.true in
    let same = OnFalse_at {P = c.fill_into.new.out ≡ request.body} c.if-not-branch.true filling.long in
    sent_long (filled_within c.args.text.now request.vars c.args.captures.now c.args.moment) request c.fill_into.new.out
    (λ more. ended (outcomes.GoesOn (with_text request more))) long same

pub returns : goal.returns
returns c =
    let request = c.args.request in
    let filling = c.in_ok-fill_into.ensures in
    let fits = filled_short c.args.text.now request.vars c.args.captures.now c.args.moment c.in_ok-fill_into.field-0 filling.short c.if-not-branch.false in
    sent_more (filled c.args.text.now request.vars c.args.captures.now c.args.moment) c.fill_into.new.out
    (filled_within c.args.text.now request.vars c.args.captures.now c.args.moment) request fits (OnTrue_at c.if-not-branch.false filling.text)
