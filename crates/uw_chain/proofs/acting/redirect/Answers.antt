use Rattle.std.proofs.Common.{sym, ◌∙◌}
use Rattle.uw_chain.specs.Tests.{filled_within}
use Rattle.uw_chain.proofs.ActLemmas.{is_redirected}
use Rattle.uw_chain.proofs.acting.redirect.Goals as goal

pub returns : goal.returns
returns c =
    is_redirected c.args.status.now c.in-Some.line c.in_ok-status.status (filled_within c.args.to.now c.args.request.vars c.args.captures.now c.args.moment) c.args.request
    c.add_header.new.self (sym c.in_ok-line.ensures ∙ c.in-Some.is) c.in_ok-add_header.ensures c.in_ok-status.ensures
