use Rattle.std.proofs.Common.{◌≡◌, ◌-◌, ℕ, ◌∙◌, ap, sym, get_or}
use Rattle.std.proofs.lemmas.List.{get_or_read}
use Rattle.uw_words.specs.SlotSteps.{Ends}
use Rattle.uw_words.proofs.Sound.{ends_in, is_named, read_free, read_named}
use Rattle.uw_words.proofs.overlay.Overlay.planned_or.Goals as goal
use Rattle.uw_words.proofs.overlay.Overlay.planned_or.Goals.{After-index}

ends : (c : After-index) → Ends c.self.inside.writes.items c.self.inside.slots.items c.args.at c.seek-slot.result
ends c = ends_in c.self.inside.writes.items _ c.self.inside.slots.items _ c.args.at c.seek-slot.result c.deref-2.ensures.value c.deref.ensures.value c.seek-slot.ensures

number : (c : After-index) → c.index.result.now ≡ get_or c.self.inside.slots.items c.seek-slot.result 0
number c = get_or_read c.self.inside.slots.items c.seek-slot.result c.index.result.now (ends c).within c.index.ensures 0

pub returns-then-number-eq0 : goal.returns-then-number-eq0
returns-then-number-eq0 c =
    let at = (goal.at.returns-then-number-eq0 c).After-index in
    let inside = c.self.inside in
    rw (← c.self.view_is)
    (sym (read_free inside.writes.items inside.slots.items c.args.at c.seek-slot.result c.index.result.now (ends at) (number at) (λ place. c.args.own) c.if-number-eq0.true))

pub returns : goal.returns
returns c =
    let at = (goal.at.returns c).After-index in
    let inside = c.self.inside in
    let plan = inside.writes.items in
    let named = is_named plan inside.slots.items c.args.at c.seek-slot.result c.index.result.now (ends at) (number at) c.if-number-eq0.false in
    let read = get_or_read plan (c.index.result.now - 1) c.index-2.result.now named.0 c.index-2.ensures (0, 0) in
    rw (← c.self.view_is)
    (ap (λ (p : ℕ × ℕ). p.1) read
    ∙ sym (read_named plan inside.slots.items c.args.at c.seek-slot.result c.index.result.now (ends at) (number at) (λ place. c.args.own) c.self.invariant.0.distinct c.if-number-eq0.false))
