-- How the regions of a desk begin, and what a desk answers.
use Rattle.std.specs.Prelude.{◌≡◌, ℕ, [], Result, Ok, Err}
use Rattle.uw_model.specs.declared.conf.CacheConf.{CacheConf}
use Rattle.uw_model.specs.declared.desk.DeskFault.{DeskFault}
use Rattle.uw_model.specs.declared.desk.DeskFault.TheVariants as desk_faults
use Rattle.uw_model.specs.AreaOps.{blank_area}
use Rattle.uw_intent.specs.declared.recoverable.CallFault.{CallFault}
use Rattle.uw_intent.specs.declared.recoverable.CallFault.TheVariants as faults
use Rattle.uw_plan.specs.Agreement.{Agrees}
use Rattle.uw_cache.specs.Vaults.{VaultView}
use Rattle.uw_area.specs.AreaWords.{AgreesWithArea}
use Rattle.uw_area.specs.AreaViews.{AreaView}

-- a vault begins with this configuration, and its words agree with no entry
pub record BeginsAsCache (wanted : CacheConf) (vault : VaultView) : Type 0 where
  pub conf : vault.conf ≡ wanted
  pub empty : Agrees wanted vault.words []

-- an area begins with this size, and its words agree with zero bytes
pub record BeginsAsArea (wanted : ℕ) (area : AreaView) : Type 0 where
  pub size : area.size ≡ wanted
  pub blank : AgreesWithArea wanted area.words (blank_area wanted)

-- what a desk answers where a call of one of its regions ended so
abbrev pub desk_result : {A : Type 0} → Result A CallFault → Result A DeskFault
desk_result (Ok answer) = Ok answer
desk_result (Err (faults.Died whole)) = Err (desk_faults.Died whole)
desk_result (Err faults.Memory) = Err desk_faults.Memory
