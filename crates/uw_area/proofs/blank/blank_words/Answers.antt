use Rattle.std.proofs.Common.{◌≡◌, ℕ, List, set, replicate, sym, ap, ◌∙◌, subst}
use Rattle.uw_model.specs.AreaLayout.{area_words}
use Rattle.uw_model.specs.AreaOps.{blank_area}
use Rattle.uw_area.specs.AreaWords.{AgreesWithArea}
use Rattle.uw_area.proofs.Standing.{blank_agrees}
use Rattle.uw_area.proofs.blank.blank_words.Goals as goal

pub returns : goal.returns
returns c =
    let size = c.args.size in
    let zeros : c.in_ok-ram.ram ≡ replicate (area_words size) 0 = c.in_ok-ram.ensures ∙ ap (λ (n : ℕ). replicate n 0) c.area_words.ensures.words in
    let words : c.put-2.new.ram ≡ set (set (replicate (area_words size) 0) 0 2) 1 size =
    c.put-2.ensures ∙ ap (λ (l : List ℕ). set l 1 size) (c.put.ensures ∙ ap (λ (l : List ℕ). set l 0 2) zeros) in
    subst (λ (l : List ℕ). AgreesWithArea size l (blank_area size)) (sym words) (blank_agrees size)
