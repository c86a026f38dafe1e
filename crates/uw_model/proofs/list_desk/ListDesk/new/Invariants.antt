use Rattle.std.proofs.Common.{◌≡◌, [], take}
use Rattle.uw_model.specs.Areas.{blank_areas}
use Rattle.uw_model.specs.Caches.{empty_caches}
use Rattle.uw_model.proofs.list_desk.ListDesk.new.Given as goal

abbrev pub invariant-loop-conf : goal.invariant-loop-conf
invariant-loop-conf l = (l.desk-inside.caches.items ≡ empty_caches (take l.conf-index l.caches)) × (l.desk-inside.areas.items ≡ [])

abbrev pub invariant-loop-size : goal.invariant-loop-size
invariant-loop-size l = (l.desk-inside.caches.items ≡ empty_caches l.caches) × (l.desk-inside.areas.items ≡ blank_areas (take l.size-index l.areas))
