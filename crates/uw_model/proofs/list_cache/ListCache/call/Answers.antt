-- The next list is a state, and so is the list that was left as it was.
use Rattle.uw_model.proofs.NextStateLemmas.{left_state}
use Rattle.uw_model.proofs.list_cache.ListCache.call.Goals as goal

pub invariant_of-self : goal.invariant_of-self
invariant_of-self c =
    let inside = c.self.inside in
    left_state c.made.result inside.conf inside.entries.items c.made.new.entries.items c.args.moment c.args.call.now c.self.invariant c.made.ensures.next c.made.ensures.memory
