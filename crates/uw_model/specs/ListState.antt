-- What the plain list cache is seen as.
use Rattle.std.specs.Prelude.{List}
use Rattle.uw_model.specs.declared.conf.CacheConf.{CacheConf}
use Rattle.uw_model.specs.declared.entries.Entry.{Entry}

-- its configuration, and its entries, the most recent first
pub record ListState : Type 0 where
  pub conf : CacheConf
  pub list : List Entry
