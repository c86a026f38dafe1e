use Rattle.std.proofs.Common.{◌≡◌, All, None, length}
use Rattle.uw_chain.proofs.searches.Searches.new.Given as goal

abbrev pub invariant-loop : goal.invariant-loop
invariant-loop l = (length l.slots.items ≡ l.counter) × All (λ slot. slot.made ≡ None) l.slots.items
