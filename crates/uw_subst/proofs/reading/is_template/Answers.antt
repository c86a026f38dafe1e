use Rattle.std.proofs.Common.{◌≡◌, ◌≤◌, List, [], ℕ, None, Option, is_none, length, drop, refl, sym, ap, ◌∙◌, arith}
use Rattle.std.proofs.lemmas.List.{drop_all}
use Rattle.uw_subst.specs.Templates.{fault_of, first_bad, pieces_behind, pieces_of}
use Rattle.uw_subst.proofs.reading.is_template.Goals as goal

pub loop-at-init : goal.loop-at-init
unfolding fault_of
loop-at-init c = record { good = refl; inside = omega arith }

-- behind the end of the text no form is bad
nothing_bad : (at : ℕ) (text : List ℕ) → drop at text ≡ [] → first_bad at (pieces_of (drop at text)) ≡ None
unfolding pieces_behind
nothing_bad at text end = ap (λ (rest : List ℕ). first_bad at (pieces_of rest)) end

pub returns : goal.returns
returns c =
    let text = c.args.text.now in
    let at = c.loop-at.at in
    ap is_none (sym (nothing_bad at text (drop_all at text (omega arith))) ∙ c.loop-at.invariant.good)
