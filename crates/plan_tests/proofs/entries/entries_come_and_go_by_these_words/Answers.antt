use Rattle.std.proofs.Common.{ap, refl, ◌∙◌, arith}
use Rattle.uw_words.specs.Plans.{Plan}
use Rattle.plan_tests.proofs.SmallSteps.{first_in_use, first_room, may_first, may_second, may_third, room_for_one}
use Rattle.plan_tests.proofs.entries.entries_come_and_go_by_these_words.Goals as goal

pub add_entry-requires-clause-list : goal.add_entry-requires-clause-list
add_entry-requires-clause-list g c =
    may_first c.small_cache-conf.result c.small_cache-conf.ensures.is c.in_ok-ram.ram c.in_ok-over.over (ap (λ (p : Plan). p.writes) c.in_ok-over.ensures.empty) c.in_ok-ram.ensures

pub add_entry-requires-2-clause-list : goal.add_entry-requires-2-clause-list
add_entry-requires-2-clause-list g c =
    may_second c.small_cache-conf.result c.small_cache-conf.ensures.is c.in_ok-ram.ram c.in_ok-over.over (ap (λ (p : Plan). p.writes) c.in_ok-over.ensures.empty) c.in_ok-ram.ensures
    c.add_entry.new.over c.add_entry.ensures.list

pub add_entry-requires-2-clause-room : goal.add_entry-requires-2-clause-room
add_entry-requires-2-clause-room g c =
    room_for_one c.small_cache-conf.result c.small_cache-conf.ensures.is c.in_ok-ram.ram c.add_entry.new.over 1 3 34 16 refl c.sees.ensures
    (c.add_entry.ensures.costs.room ∙ ap (λ (p : Plan). p.room) c.in_ok-over.ensures.empty) (omega arith)

pub add_entry-requires-3-clause-list : goal.add_entry-requires-3-clause-list
add_entry-requires-3-clause-list g c =
    may_third c.small_cache-conf.result c.small_cache-conf.ensures.is c.in_ok-ram.ram c.in_ok-over.over (ap (λ (p : Plan). p.writes) c.in_ok-over.ensures.empty) c.in_ok-ram.ensures
    c.add_entry.new.over c.add_entry.ensures.list c.add_entry-2.new.over c.add_entry-2.ensures.list

pub add_entry-requires-3-clause-room : goal.add_entry-requires-3-clause-room
add_entry-requires-3-clause-room g c =
    room_for_one c.small_cache-conf.result c.small_cache-conf.ensures.is c.in_ok-ram.ram c.add_entry-2.new.over 2 8 34 27 refl c.sees-2.ensures
    (c.add_entry-2.ensures.costs.room ∙ c.add_entry.ensures.costs.room ∙ ap (λ (p : Plan). p.room) c.in_ok-over.ensures.empty) (omega arith)

pub drop_entry-requires-clause-used : goal.drop_entry-requires-clause-used
drop_entry-requires-clause-used g c =
    first_in_use c.small_cache-conf.result c.small_cache-conf.ensures.is c.in_ok-ram.ram c.in_ok-over.over (ap (λ (p : Plan). p.writes) c.in_ok-over.ensures.empty) c.in_ok-ram.ensures
    c.add_entry.new.over c.add_entry.ensures.list c.add_entry-2.new.over c.add_entry-2.ensures.list c.add_entry-3.new.over c.add_entry-3.ensures.list (omega arith)

pub drop_entry-requires-clause-room : goal.drop_entry-requires-clause-room
drop_entry-requires-clause-room g c =
    first_room c.small_cache-conf.result c.small_cache-conf.ensures.is c.in_ok-ram.ram c.in_ok-over.over (ap (λ (p : Plan). p.writes) c.in_ok-over.ensures.empty) c.in_ok-ram.ensures
    c.add_entry.new.over c.add_entry.ensures.list c.add_entry-2.new.over c.add_entry-2.ensures.list c.add_entry-3.new.over c.add_entry-3.ensures.list (omega arith)
    c.sees-3.ensures
    (c.add_entry-3.ensures.costs.room ∙ c.add_entry-2.ensures.costs.room ∙ c.add_entry.ensures.costs.room ∙ ap (λ (p : Plan). p.room) c.in_ok-over.ensures.empty)
