-- Which caches and areas compiled rules ask, by their numbers (own rule).
use Rattle.std.specs.Prelude.{ℕ, ◌<◌, List, Option, unwrap_or}
use Rattle.std.specs.List.{AllByRecursion}
use Rattle.uw_model.specs.Asks.{DeskParts}
use Rattle.uw_rules.specs.declared.compiled.Condition.{Condition}
use Rattle.uw_rules.specs.declared.compiled.Condition.TheVariants as asks
use Rattle.uw_rules.specs.declared.compiled.Test.{Test}
use Rattle.uw_rules.specs.declared.compiled.Test.TheVariants as tests
use Rattle.uw_rules.specs.declared.compiled.Action.{Action}
use Rattle.uw_rules.specs.declared.compiled.Action.TheVariants as does
use Rattle.uw_rules.specs.declared.compiled.Rule.{Rule}
use Rattle.uw_rules.specs.declared.compiled.Rule.TheVariants as compiled

-- the number of a cache is below the count; where none is named, there is a first one
abbrev pub IsNumberBelow : ℕ → Option ℕ → Type 0
IsNumberBelow count cache = unwrap_or cache 0 < count

-- the condition asks one of so many caches, or none
abbrev pub ConditionAsksBelow : DeskParts → Condition → Type 0
ConditionAsksBelow parts (asks.InCache key cache) = IsNumberBelow parts.caches cache
ConditionAsksBelow parts _ = Unit {0}

-- the test asks one of so many caches, or none
abbrev pub TestAsksBelow : DeskParts → Test → Type 0
TestAsksBelow parts (tests.Holds negated condition) = ConditionAsksBelow parts condition
TestAsksBelow parts _ = Unit {0}

-- the action asks one of so many caches or areas, or none
abbrev pub ActionAsksBelow : DeskParts → Action → Type 0
ActionAsksBelow parts (does.Cache key content_type cache) = IsNumberBelow parts.caches cache
ActionAsksBelow parts (does.CacheVar key cache var) = IsNumberBelow parts.caches cache
ActionAsksBelow parts (does.CacheSet write) = IsNumberBelow parts.caches write.cache
ActionAsksBelow parts (does.CacheUpdate write) = IsNumberBelow parts.caches write.cache
ActionAsksBelow parts (does.CacheDel key cache var) = IsNumberBelow parts.caches cache
ActionAsksBelow parts (does.CacheMath op key amount expires cache var) = IsNumberBelow parts.caches cache
ActionAsksBelow parts (does.Area area step var) = area < parts.areas
ActionAsksBelow parts (does.AreaWrite area at value var) = area < parts.areas
ActionAsksBelow parts _ = Unit {0}

-- the test and the action of the rule each ask one of so many caches or areas, or none
abbrev pub RuleAsksBelow : DeskParts → Rule → Type 0
RuleAsksBelow parts compiled.Label = Unit {0}
RuleAsksBelow parts (compiled.Act test action) = TestAsksBelow parts test × ActionAsksBelow parts action

-- each rule asks caches and areas of numbers below the counts alone
abbrev pub AskPartsBelow : DeskParts → List Rule → Type 0
AskPartsBelow parts rules = AllByRecursion (RuleAsksBelow parts) rules
