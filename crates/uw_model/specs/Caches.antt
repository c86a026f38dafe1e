-- Several caches as plain lists.
use Rattle.std.specs.Prelude.{ℕ, List, [], map, slice_get, slice_set, Option, None, Some}
use Rattle.uw_model.specs.declared.conf.CacheConf.{CacheConf}
use Rattle.uw_model.specs.declared.calls.Call.{Call}
use Rattle.uw_model.specs.declared.calls.Answer.{Answer}
use Rattle.uw_model.specs.declared.calls.Answer.TheVariants as answers
use Rattle.uw_model.specs.Calls.{answer, next_state}
use Rattle.uw_model.specs.ListState.{ListState}

-- an empty cache for each configuration
abbrev pub empty_caches : List CacheConf → List ListState
empty_caches confs = map (λ conf. record { conf = conf; list = [] }) confs

-- the answer of the cache of a number; where there is no such cache, nothing is found
abbrev pub answer_in : List ListState → ℕ → ℕ → Call → Answer
answer_in caches cache now call = answer_by (slice_get caches cache) now call
  where
    answer_by : Option ListState → ℕ → Call → Answer
    answer_by None now call = answers.Missing
    answer_by (Some c) now call = answer c.conf c.list now call

-- the caches after a call of the cache of a number
abbrev pub caches_after : List ListState → ℕ → ℕ → Call → List ListState
caches_after caches cache now call = with_next (slice_get caches cache) caches cache now call
  where
    with_next : Option ListState → List ListState → ℕ → ℕ → Call → List ListState
    with_next None caches cache now call = caches
    with_next (Some c) caches cache now call = slice_set caches cache (record { conf = c.conf; list = next_state c.conf c.list now call })
