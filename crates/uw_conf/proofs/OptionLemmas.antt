-- What each option keeps: the limits of the caches, and of the other numbers.
use Rattle.std.proofs.Common.{◌≡◌, refl, ℕ, ◌==◌, ◌≤◌, List, length, arith, Option, Some, None, Result, Ok, Err, IfOk, IfSome}
use Rattle.uw_model.specs.declared.conf.CacheConf.{CacheConf}
use Rattle.uw_conf.specs.declared.conf.Options.{Options}
use Rattle.uw_conf.specs.declared.conf.ConfKind.{ConfKind}
use Rattle.uw_conf.specs.declared.options.OptionKind.{OptionKind}
use Rattle.uw_conf.specs.declared.options.OptionKind.TheVariants as of
use Rattle.uw_conf.specs.Caches.{number_in, with_cache}
use Rattle.uw_conf.specs.AreaLines.{with_area}
use Rattle.uw_conf.specs.Reading.{blank_conf, option_kind, set_areas, set_number, set_caches, set_option, with_option}
use Rattle.uw_conf.specs.Sound.{ArePartsOfSite, HasLimits}
use Rattle.uw_conf.proofs.SoundLemmas.{with_area_keeps, with_cache_keeps, number_in_some}
use Rattle.uw_conf.proofs.ReadingLemmas.{ok_if}

-- a number within its limits
number_keeps : (P : Options → Type 0) (low high : ℕ) (o : Option ℕ) (set : ℕ → Options) → IfSome o (λ m. (low ≤ m) × (m ≤ high)) → ((n : ℕ) → (low ≤ n) × (n ≤ high) → P (set n)) → IfOk (set_number o set) P
number_keeps P low high None set limits each = tt
number_keeps P low high (Some n) set limits each = each n limits

-- the caches and areas of a configuration are within their limits
abbrev pub HasParts : Options → Type 0
HasParts conf = ArePartsOfSite conf.caches conf.areas

caches_keep : (conf : Options) (r : Result (List CacheConf) ConfKind) → IfOk r (λ caches. ArePartsOfSite caches conf.areas) → IfOk (set_caches conf r) HasParts
caches_keep conf (Err kind) h = tt
caches_keep conf (Ok caches) h = h

areas_keep : (conf : Options) (r : Result (List ℕ) ConfKind) → IfOk r (ArePartsOfSite conf.caches) → IfOk (set_areas conf r) HasParts
areas_keep conf (Err kind) h = tt
areas_keep conf (Ok areas) h = h

-- an option keeps what it keeps whatever it is
by_kind : (P : Options → Type 0) (conf : Options) (name value : List ℕ) → ((kind : OptionKind) → IfOk (set_option conf kind value) P) → IfOk (with_option conf name value) P
by_kind P conf name value each = known (option_kind name) refl
  where
    known : (kind : Option OptionKind) → option_kind name ≡ kind → IfOk (with_option conf name value) P
    known None e = rw e tt
    known (Some kind) e = rw e (each kind)

parts_set : (conf : Options) (value : List ℕ) → HasParts conf → (kind : OptionKind) → IfOk (set_option conf kind value) HasParts
parts_set conf value h of.BufferSize = number_keeps HasParts 1 65535 (number_in 1 65535 value) (λ n. record conf { buffer_size = n }) (number_in_some 1 65535 value) (λ n limits. h)
parts_set conf value h of.Workers = number_keeps HasParts 1 64 (number_in 1 64 value) (λ n. record conf { workers = n }) (number_in_some 1 64 value) (λ n limits. h)
parts_set conf value h of.Harakiri = number_keeps HasParts 0 86400 (number_in 0 86400 value) (λ n. record conf { harakiri = n }) (number_in_some 0 86400 value) (λ n limits. h)
parts_set conf value h of.ExpireFreq = number_keeps HasParts 1 3600 (number_in 1 3600 value) (λ n. record conf { expire_freq = n }) (number_in_some 1 3600 value) (λ n limits. h)
parts_set conf value h of.Spoolers = number_keeps HasParts 1 16 (number_in 1 16 value) (λ n. record conf { spoolers = n }) (number_in_some 1 16 value) (λ n limits. h)
parts_set conf value h of.SpoolFreq = number_keeps HasParts 1 3600 (number_in 1 3600 value) (λ n. record conf { spool_freq = n }) (number_in_some 1 3600 value) (λ n limits. h)
parts_set conf value h of.Socket = ok_if HasParts (length value == 0) _ _ tt h
parts_set conf value h of.Cache = caches_keep conf (with_cache conf.areas conf.caches value) (with_cache_keeps conf.areas conf.caches value h)
parts_set conf value h of.Area = areas_keep conf (with_area conf.caches conf.areas value) (with_area_keeps conf.caches conf.areas value h)
parts_set conf value h of.Rule = h
parts_set conf value h of.NoEffect = h

pub parts_kept : (conf : Options) (name value : List ℕ) → HasParts conf → IfOk (with_option conf name value) HasParts
parts_kept conf name value h = by_kind HasParts conf name value (parts_set conf value h)

pub no_parts : HasParts blank_conf
no_parts = record { each = tt; few = omega arith; names = tt; sizes = tt; few_areas = omega arith; small = omega arith }

-- other fields than the numbers
limits_keep : (conf : Options) (r : Result (List CacheConf) ConfKind) → HasLimits conf → IfOk (set_caches conf r) HasLimits
limits_keep conf (Err kind) h = tt
limits_keep conf (Ok caches) h =
    record { buffer_size = h.buffer_size; workers = h.workers; harakiri = h.harakiri; expire_freq = h.expire_freq; spoolers = h.spoolers; spool_freq = h.spool_freq }

areas_limits : (conf : Options) (r : Result (List ℕ) ConfKind) → HasLimits conf → IfOk (set_areas conf r) HasLimits
areas_limits conf (Err kind) h = tt
areas_limits conf (Ok areas) h =
    record { buffer_size = h.buffer_size; workers = h.workers; harakiri = h.harakiri; expire_freq = h.expire_freq; spoolers = h.spoolers; spool_freq = h.spool_freq }

limits_set : (conf : Options) (value : List ℕ) → HasLimits conf → (kind : OptionKind) → IfOk (set_option conf kind value) HasLimits
limits_set conf value h of.BufferSize =
    number_keeps HasLimits 1 65535 (number_in 1 65535 value) (λ n. record conf { buffer_size = n }) (number_in_some 1 65535 value) (λ n limits.
    record { buffer_size = limits; workers = h.workers; harakiri = h.harakiri; expire_freq = h.expire_freq; spoolers = h.spoolers; spool_freq = h.spool_freq })
limits_set conf value h of.Workers =
    number_keeps HasLimits 1 64 (number_in 1 64 value) (λ n. record conf { workers = n }) (number_in_some 1 64 value) (λ n limits.
    record { buffer_size = h.buffer_size; workers = limits; harakiri = h.harakiri; expire_freq = h.expire_freq; spoolers = h.spoolers; spool_freq = h.spool_freq })
limits_set conf value h of.Harakiri =
    number_keeps HasLimits 0 86400 (number_in 0 86400 value) (λ n. record conf { harakiri = n }) (number_in_some 0 86400 value) (λ n limits.
    record { buffer_size = h.buffer_size; workers = h.workers; harakiri = limits.1; expire_freq = h.expire_freq; spoolers = h.spoolers; spool_freq = h.spool_freq })
limits_set conf value h of.ExpireFreq =
    number_keeps HasLimits 1 3600 (number_in 1 3600 value) (λ n. record conf { expire_freq = n }) (number_in_some 1 3600 value) (λ n limits.
    record { buffer_size = h.buffer_size; workers = h.workers; harakiri = h.harakiri; expire_freq = limits; spoolers = h.spoolers; spool_freq = h.spool_freq })
limits_set conf value h of.Spoolers =
    number_keeps HasLimits 1 16 (number_in 1 16 value) (λ n. record conf { spoolers = n }) (number_in_some 1 16 value) (λ n limits.
    record { buffer_size = h.buffer_size; workers = h.workers; harakiri = h.harakiri; expire_freq = h.expire_freq; spoolers = limits; spool_freq = h.spool_freq })
limits_set conf value h of.SpoolFreq =
    number_keeps HasLimits 1 3600 (number_in 1 3600 value) (λ n. record conf { spool_freq = n }) (number_in_some 1 3600 value) (λ n limits.
    record { buffer_size = h.buffer_size; workers = h.workers; harakiri = h.harakiri; expire_freq = h.expire_freq; spoolers = h.spoolers; spool_freq = limits })
limits_set conf value h of.Socket = ok_if HasLimits (length value == 0) _ _ tt (record { buffer_size = h.buffer_size; workers = h.workers; harakiri = h.harakiri; expire_freq = h.expire_freq; spoolers = h.spoolers; spool_freq = h.spool_freq })
limits_set conf value h of.Cache = limits_keep conf (with_cache conf.areas conf.caches value) h
limits_set conf value h of.Area = areas_limits conf (with_area conf.caches conf.areas value) h
limits_set conf value h of.Rule = h
limits_set conf value h of.NoEffect = h

pub limits_kept : (conf : Options) (name value : List ℕ) → HasLimits conf → IfOk (with_option conf name value) HasLimits
limits_kept conf name value h = by_kind HasLimits conf name value (limits_set conf value h)

pub blank_limits : HasLimits blank_conf
blank_limits = record {
  buffer_size = (omega arith, omega arith);
  workers = (omega arith, omega arith);
  harakiri = omega arith;
  expire_freq = (omega arith, omega arith);
  spoolers = (omega arith, omega arith);
  spool_freq = (omega arith, omega arith);
}
