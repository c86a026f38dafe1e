use Rattle.std.proofs.Common.{◌∙◌, sym, ap}
use Rattle.std.specs.List.{list_any}
use Rattle.uw_subst.specs.Parts.{is_filled_part}
use Rattle.uw_subst.proofs.PieceLemmas.{fixed_text}
use Rattle.uw_subst.proofs.template.Template.fixed.Goals as goal

pub returns-clause-fixed : goal.returns-clause-fixed
returns-clause-fixed c =
    λ vars captures moment.
    rw (c.as_slice-2.ensures, c.self.view_is)
    (rw c.self.view_is at (fixed_text c.self.inside.text vars captures moment
    (sym c.self.invariant.forms ∙ ap (list_any is_filled_part) (sym c.as_slice.ensures.value) ∙ sym c.if-has_filled.ensures)))
