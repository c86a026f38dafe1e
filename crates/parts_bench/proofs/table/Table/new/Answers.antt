use Rattle.std.proofs.Common.{ℕ, List, ap, ◌∙◌, arith}
use Rattle.std.proofs.lemmas.Grind.{common_steps}
use Rattle.uw_words.specs.Plans.{region}
use Rattle.uw_words.specs.Parts.{seen}
use Rattle.parts_bench.specs.Tables.{IsIdle}
use Rattle.parts_bench.proofs.Firsts.{bare, none_first}
use Rattle.parts_bench.proofs.Stored.{zeros_read}
use Rattle.parts_bench.proofs.table.Table.new.Goals as goal

pub invariant_of-result : goal.invariant_of-result
invariant_of-result c =
    let ram = c.in_ok-new.field-0 in
    let plan = c.in_ok-new-2.field-0 in
    let shape = c.in_ok-shape.shape in
    let idle : IsIdle ram plan shape = grind (arith, common_steps) in
    record {
      idle = idle;
      within = omega arith;
      chains = none_first shape idle.layout (seen plan ram)
          (λ at. bare plan ram at idle.empty ∙ ap (λ (words : List ℕ). region words at) c.in_ok-new.ensures ∙ zeros_read _ at);
    }
