use Rattle.std.proofs.Common.{ℕ, Option, List, [], unwrap_or, sym, ap, ◌∙◌, subst}
use Rattle.uw_model.specs.declared.entries.Entry.{Entry}
use Rattle.uw_model.specs.Placement.{alive_of}
use Rattle.uw_plan.specs.CallSteps.{Leaves}
use Rattle.uw_plan.specs.PolicySteps.{swept_where_set}
use Rattle.uw_plan.proofs.OneByOne.{leaves_none, leaves_then}
use Rattle.uw_plan.proofs.Roomy.{full_then, matched, room_as_it_is, room_cleared, room_nowhere, room_purged, room_swept, spare_then, swept_full, swept_is_alive}
use Rattle.uw_plan.proofs.policies.make_room.Goals as goal

pub returns-in-Some-clause-list : goal.returns-in-Some-clause-list
returns-in-Some-clause-list c = λ items list agrees.
    let conf = c.args.conf.now in
    let words = c.args.ram.now in
    let moment = c.args.moment in
    let n = c.args.n in
    let old = c.args.over.now in
    let fit = sym (c.in-Some.ensures.fits items list agrees) in (
      list,
      (
        room_as_it_is conf moment n list fit,
        ap (λ (o : Option ℕ). unwrap_or o 0) (c.in-Some.ensures.run items list agrees),
        leaves_none conf c.requires.conf words old items list agrees,
      ),
    )

pub returns-in-Some-run_swept-clause-room : goal.returns-in-Some-run_swept-clause-room
returns-in-Some-run_swept-clause-room c =
    let some = c.requires.some in
    (c.in-Some-run_swept.ensures.list some.0 some.1 some.2).costs.room

pub returns-in-Some-run_swept-clause-list : goal.returns-in-Some-run_swept-clause-list
returns-in-Some-run_swept-clause-list c = λ items list agrees.
    let conf = c.args.conf.now in
    let words = c.args.ram.now in
    let moment = c.args.moment in
    let n = c.args.n in
    let old = c.args.over.now in
    let full = sym (c.in_default.ensures.fits items list agrees) in
    let swept = c.in-Some-run_swept.ensures.list items list agrees in
    let fit = sym (c.in-Some-run_swept.ensures.fits items list agrees) in (
      alive_of conf moment list,
      (
        room_swept conf moment n list full fit,
        ap (λ (o : Option ℕ). unwrap_or o 0) (c.in-Some-run_swept.ensures.run items list agrees),
        subst (λ (l : List Entry). Leaves conf words old c.run_swept.new.over list l) (swept_is_alive conf moment n list fit) swept,
      ),
    )

pub run_purged-requires-clause-some : goal.run_purged-requires-clause-some
run_purged-requires-clause-some c =
    let some = c.requires.some in
    let swept = c.in_default-run_swept.ensures.list some.0 some.1 some.2 in
    (swept.items, swept_where_set c.args.conf.now c.args.moment some.1, swept.agrees)

pub run_purged-requires-clause-room : goal.run_purged-requires-clause-room
run_purged-requires-clause-room c = λ items list agrees.
    let conf = c.args.conf.now in
    let some = c.requires.some in
    let left = swept_where_set conf c.args.moment some.1 in
    let swept = c.in_default-run_swept.ensures.list some.0 some.1 some.2 in
    spare_then conf c.requires.conf c.args.ram.now c.args.over.now c.run_swept.new.over some.0 items some.1 left list some.2 (c.requires.room some.0 some.1 some.2) swept agrees

pub run_purged-requires-clause-none : goal.run_purged-requires-clause-none
run_purged-requires-clause-none c = λ items list agrees.
    let conf = c.args.conf.now in
    let words = c.args.ram.now in
    let moment = c.args.moment in
    let n = c.args.n in
    let old = c.args.over.now in
    let some = c.requires.some in
    let full = sym (c.in_default.ensures.fits some.0 some.1 some.2) in
    let swept = c.in_default-run_swept.ensures.list some.0 some.1 some.2 in
    let fit = sym (c.in_default-run_swept.ensures.fits some.0 some.1 some.2) in
    let left = swept_where_set conf moment some.1 in
    full_then conf c.requires.conf words n old c.run_swept.new.over items some.1 left list swept (swept_full conf moment n some.1 full fit) agrees

pub returns-in-Some-run_purged-clause-room : goal.returns-in-Some-run_purged-clause-room
returns-in-Some-run_purged-clause-room c =
    let conf = c.args.conf.now in
    let words = c.args.ram.now in
    let moment = c.args.moment in
    let n = c.args.n in
    let old = c.args.over.now in
    let some = c.requires.some in
    let swept = c.in_default-run_swept.ensures.list some.0 some.1 some.2 in
    let fit = sym (c.in_default-run_swept.ensures.fits some.0 some.1 some.2) in
    let left = swept_where_set conf moment some.1 in
    let purged = c.in-Some-run_purged.ensures swept.items left swept.agrees in
    purged.1.1.2.costs.room ∙ swept.costs.room

pub returns-in-Some-run_purged-clause-list : goal.returns-in-Some-run_purged-clause-list
returns-in-Some-run_purged-clause-list c = λ items list agrees.
    let conf = c.args.conf.now in
    let words = c.args.ram.now in
    let moment = c.args.moment in
    let n = c.args.n in
    let old = c.args.over.now in
    let full = sym (c.in_default.ensures.fits items list agrees) in
    let swept = c.in_default-run_swept.ensures.list items list agrees in
    let fit = sym (c.in_default-run_swept.ensures.fits items list agrees) in
    let left = swept_where_set conf moment list in
    let purged = c.in-Some-run_purged.ensures swept.items left swept.agrees in
    let front = purged.1.0 in (
      front,
      (
        room_purged conf moment n list full fit front purged.0 purged.1.1.0,
        ap (λ (o : Option ℕ). unwrap_or o 0) purged.1.1.1,
        leaves_then conf c.requires.conf words old c.run_swept.new.over c.run_purged.new.over list left front swept purged.1.1.2,
      ),
    )

pub run_cleared-requires-clause-some : goal.run_cleared-requires-clause-some
run_cleared-requires-clause-some c =
    let conf = c.args.conf.now in
    let words = c.args.ram.now in
    let moment = c.args.moment in
    let n = c.args.n in
    let old = c.args.over.now in
    let some = c.requires.some in
    let swept = c.in_default-run_swept.ensures.list some.0 some.1 some.2 in
    let fit = sym (c.in_default-run_swept.ensures.fits some.0 some.1 some.2) in
    let left = swept_where_set conf moment some.1 in
    let purged = c.in_default-run_purged.ensures swept.items left swept.agrees in
    (purged.1.1.items, purged.1.0, purged.1.1.agrees)

pub run_cleared-requires-clause-room : goal.run_cleared-requires-clause-room
run_cleared-requires-clause-room c = λ items list agrees.
    let conf = c.args.conf.now in
    let words = c.args.ram.now in
    let moment = c.args.moment in
    let n = c.args.n in
    let old = c.args.over.now in
    let some = c.requires.some in
    let swept = c.in_default-run_swept.ensures.list some.0 some.1 some.2 in
    let fit = sym (c.in_default-run_swept.ensures.fits some.0 some.1 some.2) in
    let left = swept_where_set conf moment some.1 in
    let purged = c.in_default-run_purged.ensures swept.items left swept.agrees in
    let both = leaves_then conf c.requires.conf words old c.run_swept.new.over c.run_purged.new.over some.1 left purged.1.0 swept purged.1.1 in
    spare_then conf c.requires.conf words old c.run_purged.new.over some.0 items some.1 purged.1.0 list some.2 (c.requires.room some.0 some.1 some.2) both agrees

pub returns-clause-room : goal.returns-clause-room
returns-clause-room c =
    let conf = c.args.conf.now in
    let words = c.args.ram.now in
    let moment = c.args.moment in
    let n = c.args.n in
    let old = c.args.over.now in
    let some = c.requires.some in
    let swept = c.in_default-run_swept.ensures.list some.0 some.1 some.2 in
    let fit = sym (c.in_default-run_swept.ensures.fits some.0 some.1 some.2) in
    let left = swept_where_set conf moment some.1 in
    let purged = c.in_default-run_purged.ensures swept.items left swept.agrees in
    c.run_cleared.ensures.room ∙ purged.1.1.costs.room ∙ swept.costs.room

pub returns-clause-list : goal.returns-clause-list
returns-clause-list c = λ items list agrees.
    let conf = c.args.conf.now in
    let words = c.args.ram.now in
    let moment = c.args.moment in
    let n = c.args.n in
    let old = c.args.over.now in
    let full = sym (c.in_default.ensures.fits items list agrees) in
    let swept = c.in_default-run_swept.ensures.list items list agrees in
    let fit = sym (c.in_default-run_swept.ensures.fits items list agrees) in
    let left = swept_where_set conf moment list in
    let purged = c.in_default-run_purged.ensures swept.items left swept.agrees in
    let both = leaves_then conf c.requires.conf words old c.run_swept.new.over c.run_purged.new.over list left purged.1.0 swept purged.1.1 in
    matched c.run_cleared.result (λ keeps. room_nowhere conf moment n list full fit purged.0 keeps)
    (λ first clears. (
      [],
      (
        room_cleared conf moment n list full fit purged.0 clears.0,
        clears.1,
        leaves_then conf c.requires.conf words old c.run_purged.new.over c.run_cleared.new.over list purged.1.0 [] both clears.2,
      ),
    ))
    (c.run_cleared.ensures.list purged.1.1.items purged.1.0 purged.1.1.agrees)
