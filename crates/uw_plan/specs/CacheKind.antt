-- The region of a cache as a kind of region (own rule).
use Rattle.std.specs.Prelude.{List}
use Rattle.uw_model.specs.declared.conf.CacheConf.{CacheConf}
use Rattle.uw_model.specs.declared.entries.Entry.{Entry}
use Rattle.uw_model.specs.declared.calls.Call.{Call}
use Rattle.uw_model.specs.declared.calls.Answer.{Answer}
use Rattle.uw_model.specs.Calls.{answer, next_state}
use Rattle.uw_intent.specs.Standing.{Kind}
use Rattle.uw_plan.specs.Regions.{frame_of, shape_of}
use Rattle.uw_plan.specs.Agreement.{Agrees}
use Rattle.uw_plan.specs.Bounds.{most_writes}

-- the kind of the region of a cache: its state is the list of the entries, and a call of it is a call of the cache
abbrev pub cache_kind : CacheConf → Kind (List Entry) Call Answer
cache_kind conf = record {
  frame = frame_of (shape_of conf);
  agrees = Agrees conf;
  answer = answer conf;
  next = next_state conf;
  most = most_writes conf;
}
