use Rattle.std.proofs.Common.{rules, ◌≡◌, ℕ, List, length, inl}
use Rattle.uw_words.specs.Plans.{Plan}
use Rattle.uw_intent.specs.RedoRecord.{FitsRecord}
use Rattle.words_bench.specs.Regions.{frame}
use Rattle.words_bench.proofs.region.Region.new.Goals as goal

pub invariant_of-result : goal.invariant_of-result
invariant_of-result c =
    let words = c.in_ok-new-2.field-0 in
    let plan : Plan = c.in_ok-new.field-0 in
    let fits : FitsRecord frame 131072 plan.writes = rw c.in_ok-new.ensures.empty (search rules) in
    record { len = search rules; intact = inl (rw c.in_ok-new-2.ensures (search rules)); fits = fits }
