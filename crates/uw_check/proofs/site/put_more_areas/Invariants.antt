use Rattle.std.proofs.Common.{◌≡◌, ℕ, ◌++◌, codes, take}
use Rattle.std.specs.List.{flat_map}
use Rattle.uw_check.specs.Reports.{shown_area}
use Rattle.uw_check.proofs.site.put_more_areas.Given as goal

-- the areas so far
abbrev pub invariant-loop-size : goal.invariant-loop-size
invariant-loop-size l =
    l.out ≡ l.fn.out ++ flat_map (λ (more : ℕ). codes ", " ++ shown_area more) (take l.size-index l.areas)
