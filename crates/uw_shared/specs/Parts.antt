-- What a cache and an area have in common as parts of a desk: a region, and the plain form for which it stands (own rule).
use Rattle.std.specs.Prelude.{◌≡◌, ℕ, List, length}
use Rattle.uw_model.specs.declared.conf.CacheConf.{CacheConf}
use Rattle.uw_model.specs.declared.entries.Entry.{Entry}
use Rattle.uw_model.specs.declared.calls.Call.{Call}
use Rattle.uw_model.specs.declared.calls.Answer.{Answer}
use Rattle.uw_model.specs.declared.areas.AreaAnswer.{AreaAnswer}
use Rattle.uw_model.specs.declared.areas.AreaOp.{AreaOp}
use Rattle.uw_model.specs.AreaOps.{AreaState}
use Rattle.uw_model.specs.ListState.{ListState}
use Rattle.uw_intent.specs.Standing.{Kind, StandsFor}
use Rattle.uw_plan.specs.CacheKind.{cache_kind}
use Rattle.uw_cache.specs.Vaults.{VaultView}
use Rattle.uw_area.specs.AreaKind.{area_kind}
use Rattle.uw_area.specs.AreaViews.{AreaView}

-- how a part of a desk is read: of its region the configuration and the words, of its plain form the configuration and the state; and which kind of region a
-- configuration has
pub record Reading (V P F S C A : Type 0) : Type 1 where
  pub conf : V → F
  pub words : V → List ℕ
  pub form : P → F
  pub state : P → S
  pub kind : F → Kind S C A

-- a cache: a vault, and the list of its entries
abbrev pub cache_reading : Reading VaultView ListState CacheConf (List Entry) Call Answer
cache_reading = record {
  conf = λ vault. vault.conf;
  words = λ vault. vault.words;
  form = λ cache. cache.conf;
  state = λ cache. cache.list;
  kind = cache_kind;
}

-- an area, and its plain bytes
abbrev pub area_reading : Reading AreaView AreaState ℕ AreaState AreaOp AreaAnswer
area_reading = record {
  conf = λ area. area.size;
  words = λ area. area.words;
  form = λ plain. length plain.bytes;
  state = λ plain. plain;
  kind = area_kind;
}

-- a region stands for a plain form: both have the same configuration, and the words stand for the state
pub record Stands {V P F S C A : Type 0} (read : Reading V P F S C A) (region : V) (plain : P) : Type 0 where
  pub conf : read.conf region ≡ read.form plain
  pub stands : StandsFor (read.kind (read.conf region)) (read.words region) (read.state plain)
