use Rattle.std.proofs.Common.{◌∙◌, sym, refl, arith}
use Rattle.uw_outside.proofs.Boards.{appends_at, stays_at}
use Rattle.uw_outside.proofs.board.append_at.Goals as goal

pub returns-in-Some-clause-done : goal.returns-in-Some-clause-done
returns-in-Some-clause-done c = λ done.
    let old = c.in-Some.text.now in
    let new = c.extend_from_slice.new.self in
    let more = rw (sym c.is_ok.ensures.value ∙ done) at c.extend_from_slice.ensures.items in
    appends_at (λ t. t.items) c.args.texts.now.items c.args.place old new c.args.piece.now
    (omega (arith, c.in-Some.ensures.variant.0 refl, c.args.texts.now.ok.0)) c.in-Some.ensures.value more

pub returns-in-Some-clause-refused : goal.returns-in-Some-clause-refused
returns-in-Some-clause-refused c = λ failed.
    let old = c.in-Some.text.now in
    let new = c.extend_from_slice.new.self in
    let same = rw (sym c.is_ok.ensures.value ∙ failed) at c.extend_from_slice.ensures.items in
    stays_at (λ t. t.items) c.args.texts.now.items c.args.place old new c.in-Some.ensures.value same
