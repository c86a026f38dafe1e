-- Several areas as plain bytes.
use Rattle.std.specs.Prelude.{ℕ, List, map, slice_get, slice_set, Option, None, Some}
use Rattle.uw_model.specs.declared.areas.AreaAnswer.{AreaAnswer}
use Rattle.uw_model.specs.declared.areas.AreaAnswer.TheVariants as answers
use Rattle.uw_model.specs.declared.areas.AreaOp.{AreaOp}
use Rattle.uw_model.specs.AreaOps.{AreaState, area_answer, area_next, blank_area}

-- an area of zero bytes for each size
abbrev pub blank_areas : List ℕ → List AreaState
blank_areas sizes = map blank_area sizes

-- the answer of the area of a number; where there is no such area, nothing is done
abbrev pub area_answer_in : List AreaState → ℕ → AreaOp → AreaAnswer
area_answer_in areas area op = answer_by (slice_get areas area) op
  where
    answer_by : Option AreaState → AreaOp → AreaAnswer
    answer_by None op = answers.Done
    answer_by (Some a) op = area_answer a op

-- the areas after an operation of the area of a number
abbrev pub areas_after : List AreaState → ℕ → AreaOp → List AreaState
areas_after areas area op = with_next (slice_get areas area) areas area op
  where
    with_next : Option AreaState → List AreaState → ℕ → AreaOp → List AreaState
    with_next None areas area op = areas
    with_next (Some a) areas area op = slice_set areas area (area_next a op)
