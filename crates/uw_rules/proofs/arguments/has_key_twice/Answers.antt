use Rattle.std.proofs.Common.{◌≡◌, ◌&&◌, Bool, false, sym, ap, ◌∙◌}
use Rattle.std.specs.Option.{is_some}
use Rattle.uw_rules.specs.Arguments.{key_of_pair}
use Rattle.uw_rules.specs.GrammarSteps.{pairs_left}
use Rattle.uw_rules.proofs.KeyLemmas.{is_in, is_seen, is_twice_with, next_pair, no_pair}
use Rattle.uw_rules.proofs.arguments.has_key_twice.Goals as goal

pub pairs-init : goal.pairs-init
pairs-init c = no_pair c.new-seen.result (pairs_left c.args.pairs) c.new-seen.ensures.empty

pub pairs-preserved : goal.pairs-preserved
pairs-preserved c =
    let old = c.pairs.seen in
    let pair = c.cut.result.0.now in
    let key = c.cut-in-Some.result.0 in
    let unseen : is_seen old pair ≡ false =
    ap (λ (b : Bool). b && is_in old (key_of_pair pair)) c.cut-in-Some.ensures.found
    ∙ ap (λ text. is_some c.cut-in-Some.result.1 && is_in old text) (sym c.cut-in-Some.ensures.before) ∙ sym c.is_seen.ensures ∙ c.if-is_seen.false in
    next_pair old c.insert.new.self key pair (pairs_left c.cut.result.1) c.in_ok-insert.ensures.updates c.cut-in-Some.ensures.before unseen
    ∙ sym (ap (is_twice_with old) (ap pairs_left c.in-Some.is ∙ c.cut.ensures.parts)) ∙ c.pairs.invariant
