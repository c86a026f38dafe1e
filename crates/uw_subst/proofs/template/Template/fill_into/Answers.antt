use Rattle.std.proofs.Common.{ℕ, List, ap, ◌∙◌, arith, length}
use Rattle.std.proofs.lemmas.Bool.{false≢true}
use Rattle.std.specs.List.{flat_map}
use Rattle.uw_subst.specs.Parts.{part_text}
use Rattle.uw_subst.specs.Templates.{filled}
use Rattle.uw_subst.proofs.template.Template.fill_into.Goals as goal

pub returns-in-Ok-false-clause-short : goal.returns-in-Ok-false-clause-short
returns-in-Ok-false-clause-short c =
    let vars = c.args.vars.now in let captures = c.args.captures.now in let moment = c.args.moment in
    let stopped = rw c.in-Ok-false.field-0-test at c.in-Ok-false.ensures in
    let same =
    ap (λ (text : List ℕ). flat_map (part_text text vars captures moment) c.as_slice-2.result.now) c.as_slice.ensures
    ∙ ap (flat_map (part_text c.self.inside.text vars captures moment)) c.as_slice-2.ensures.value ∙ c.self.invariant.same vars captures moment
    ∙ ap (λ (text : List ℕ). filled text vars captures moment) c.self.view_is in
    let size = ap length same in
    let long = stopped.0 in
    (λ fits. absurd (false≢true fits), λ short. absurd (omega arith))
