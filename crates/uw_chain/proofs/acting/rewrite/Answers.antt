use Rattle.std.proofs.Common.{◌≡◌, sym, ap, ◌∙◌, List, ℕ, Some}
use Rattle.uw_chain.specs.Tests.{filled_within}
use Rattle.uw_chain.proofs.ActLemmas.{rewritten_plain, rewritten_query}
use Rattle.uw_chain.proofs.acting.rewrite.Goals as goal
use Rattle.uw_chain.proofs.acting.rewrite.Goals.{in-Some-query+in_ok-set-2, in_default-query}

pub returns : goal.returns
returns c =
    let request = c.args.request in
    let place = c.as_slice.result.now in
    let path = c.cut.result.0.now in
    let text = filled_within c.args.to.now request.vars c.args.captures.now c.args.moment in
    let is_text : text ≡ Some place = sym c.in_ok-text.ensures.filled ∙ c.in-Some.is ∙ ap (λ (one : List ℕ). Some one) (sym c.as_slice.ensures) in
    elim c.match-query.branch [
      | in-Some-query+in_ok-set-2 w ↦
          let found = rw w.in-Some-query.is at c.cut.ensures.found in
          let query = rw w.in-Some-query.is at c.cut.ensures.after in
          rw w.request-is
          (rewritten_query place path w.in-Some-query.query.now text request c.set.new.self w.set-in-Some-query.new.self is_text found c.cut.ensures.before query
          c.in_ok-set.ensures.ok w.in_ok-set-2.ensures.ok)
      | in_default-query w ↦
          let found = rw w.in_default-query.is at c.cut.ensures.found in
          let whole = rw w.in_default-query.is at c.cut.ensures.whole in
          rw w.request-is (rewritten_plain place path text request c.set.new.self is_text found whole c.in_ok-set.ensures.ok)
    ]
