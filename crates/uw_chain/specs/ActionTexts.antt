-- The templates of an action ("InternalRouting").
use Rattle.std.specs.Prelude.{ℕ, List, [], ◌∷◌, map, None, Some}
use Rattle.uw_rules.specs.declared.compiled.Action.{Action}
use Rattle.uw_rules.specs.declared.compiled.Action.TheVariants as does
use Rattle.uw_rules.specs.declared.compiled.TaskPair.{TaskPair}

-- the templates of an action, in the order in which they are filled
abbrev pub texts_of_action : Action → List (List ℕ)
texts_of_action (does.Redirect to) = to ∷ []
texts_of_action (does.RedirectPermanent to) = to ∷ []
texts_of_action (does.Rewrite to) = to ∷ []
texts_of_action (does.AddVar key value) = value ∷ []
texts_of_action (does.AddHeader line) = line ∷ []
texts_of_action (does.Send text) = text ∷ []
texts_of_action (does.Cache key None cache) = key ∷ []
texts_of_action (does.Cache key (Some content_type) cache) = key ∷ content_type ∷ []
texts_of_action (does.CacheVar key cache var) = key ∷ []
texts_of_action (does.CacheSet write) = write.key ∷ write.value ∷ []
texts_of_action (does.CacheUpdate write) = write.key ∷ write.value ∷ []
texts_of_action (does.CacheDel key cache var) = key ∷ []
texts_of_action (does.CacheMath op key amount expires cache var) = key ∷ []
texts_of_action (does.AreaWrite area at value var) = value ∷ []
texts_of_action (does.Spool pairs) = map (λ (pair : TaskPair). pair.value) pairs
texts_of_action _ = []
