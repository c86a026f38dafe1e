use Rattle.std.proofs.Common.{◌≡◌, ◌+◌, ◌==◌, length, []}
use Rattle.std.specs.List.{slice_split}
use Rattle.std.specs.Option.{option_map_or}
use Rattle.uw_conf.specs.Caches.{draft_of, with_pairs}
use Rattle.uw_conf.specs.ReadingSteps.{draft_seen}
use Rattle.uw_conf.proofs.draft.draft_of.Given as goal

-- the pairs that are left, behind those so far, give the draft
abbrev pub invariant-pairs : goal.invariant-pairs
invariant-pairs l = with_pairs (draft_seen l.draft) (option_map_or (λ text. slice_split (λ byte. byte == 44) text.now) l.rest []) ≡ draft_of l.fn.text

abbrev pub decreases-pairs : goal.decreases-pairs
decreases-pairs l = option_map_or (λ text. length text.now + 1) l.rest 0
