use Rattle.std.proofs.Common.{◌==◌, arith, slice_range}
use Rattle.uw_subst.proofs.FormLemmas.{bracket_variable, empty_variable, range_len, variable_is}
use Rattle.uw_subst.proofs.Positions.{found_of_some, lacks_of_none}
use Rattle.uw_subst.proofs.forms.variable_part.Goals as goal
use Rattle.uw_subst.proofs.forms.variable_part.Goals.{then-from-to-via-then-from-to, then-from-to-via-else-from-to+then-is_some}

pub returns-then-from-to : goal.returns-then-from-to
returns-then-from-to c =
    let name = slice_range c.args.text.now c.args.from c.args.to in
    elim c.then-from-to.branch [
      | then-from-to-via-then-from-to w ↦
          empty_variable name (omega (arith, range_len c.args.text.now c.args.from c.args.to c.requires.order c.requires.inside, w.if-from-to.true))
      | then-from-to-via-else-from-to+then-is_some w ↦ bracket_variable name (found_of_some (λ byte. byte == 93) name w.place_of.result w.place_of.ensures w.if-is_some.ensures)
    ]

pub returns : goal.returns
returns c =
    let name = slice_range c.args.text.now c.args.from c.args.to in
    variable_is c.args.text.now c.args.from c.args.to c.between.result (omega arith) c.requires.inside c.between.ensures.from c.between.ensures.len
    (lacks_of_none (λ byte. byte == 93) name c.place_of.result c.place_of.ensures c.if-is_some.ensures)
