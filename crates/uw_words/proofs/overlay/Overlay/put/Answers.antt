use Rattle.std.proofs.Common.{◌≡◌, ◌≢◌, ◌<◌, length, vec_len, ◌+◌, ◌-◌, ◌*◌, min, ℕ, List, [], ◌∷◌, ◌++◌, ◌∙◌, ap, refl, sym, subst, arith, get_or, set}
use Rattle.std.proofs.lemmas.List.{get_or_read}
use Rattle.std.specs.Vec.{vec_capacity}
use Rattle.uw_words.specs.Slots.{IsTable, place, PassesAll}
use Rattle.uw_words.specs.SlotSteps.{Ends}
use Rattle.uw_words.specs.Plans.{Plan, HasDistinctPlaces}
use Rattle.uw_words.proofs.Sound.{ends_in, is_named, has_room, put_named}
use Rattle.uw_words.proofs.Sieves.{passes_push, passes_set}
use Rattle.uw_words.proofs.Tables.{table_set, table_push}
use Rattle.uw_words.proofs.Writes.{with_put_new, distinct_set, distinct_push}
use Rattle.uw_words.proofs.overlay.Overlay.put.Goals as goal
use Rattle.uw_words.proofs.overlay.Overlay.put.Goals.{After-index, After-push}

ends : (c : After-index) → Ends c.self.inside.writes.items c.self.inside.slots.items c.args.at c.seek-slot.result
ends c = ends_in c.self.inside.writes.items _ c.self.inside.slots.items _ c.args.at c.seek-slot.result c.deref-2.ensures.value c.deref.ensures.value c.seek-slot.ensures

number : (c : After-index) → c.index.result.now ≡ get_or c.self.inside.slots.items c.seek-slot.result 0
number c = get_or_read c.self.inside.slots.items c.seek-slot.result c.index.result.now (ends c).within c.index.ensures 0

pub invariant_of-self : goal.invariant_of-self
invariant_of-self c =
    let at = (goal.at.invariant_of-self c).After-index in
    let inside = c.self.inside in
    let plan = inside.writes.items in
    let old = c.self.invariant.0 in
    let named = is_named plan inside.slots.items c.args.at c.seek-slot.result c.index.result.now (ends at) (number at) c.if-number-ne0.true in (
      record {
        within = old.within;
        few = old.few;
        capacity = old.capacity;
        distinct = distinct_set plan c.args.at c.args.word (c.index.result.now - 1) old.distinct named.0 named.1;
        table = table_set plan inside.slots.items c.args.at c.args.word (c.index.result.now - 1) old.table named.1 named.0;
        spare = old.spare;
        fewest = old.fewest;
        most = old.most;
        enough = old.enough;
        slots_capacity = old.slots_capacity;
      },
      passes_set inside.sieve plan c.args.at c.args.word (c.index.result.now - 1) c.self.invariant.1 named.0 named.1,
    )

pub returns-then-number-ne0 : goal.returns-then-number-ne0
returns-then-number-ne0 c =
    let at = (goal.at.returns-then-number-ne0 c).After-index in
    let inside = c.self.inside in
    let planned : List (ℕ × ℕ) → Plan = λ writes. record { writes = writes; room = inside.room } in
    rw (← c.self.view_is)
    (ap planned (sym (put_named inside.writes.items inside.slots.items c.args.at c.seek-slot.result c.index.result.now (ends at) (number at) c.args.word c.self.invariant.0.distinct c.if-number-ne0.true)))

ends_free : (c : After-push) → Ends c.self.inside.writes.items c.self.inside.slots.items c.args.at c.seek-slot.result
ends_free c = ends_in c.self.inside.writes.items _ c.self.inside.slots.items _ c.args.at c.seek-slot.result c.deref-2.ensures.value c.deref.ensures.value c.seek-slot.ensures

none : (c : After-push) → get_or c.self.inside.slots.items c.seek-slot.result 0 ≡ 0
none c =
    sym (get_or_read c.self.inside.slots.items c.seek-slot.result c.index.result.now (ends_free c).within c.index.ensures 0) ∙ c.if-number-ne0.false

-- the place is new
free : (c : After-push) → (k : ℕ) → k < length c.self.inside.writes.items → place c.self.inside.writes.items k ≢ c.args.at
free c = (ends_free c).free (none c)

room : (c : After-push) → length c.self.inside.writes.items < c.self.inside.room
room c =
    has_room c.self.inside.writes.items c.self.inside.slots.items c.args.at c.seek-slot.result 0 (ends_free c) (sym (none c)) c.self.inside.room refl
    (rw (← c.self.view_is) at c.requires)

-- there is memory for one more
pushed : (c : After-push) → (c.push.new.self.items ≡ c.self.inside.writes.items ++ (c.args.at, c.args.word) ∷ []) × (vec_len c.push.new.self ≡ vec_len c.self.inside.writes + 1)
pushed c =
    let short : vec_len c.self.inside.writes < vec_capacity c.self.inside.writes = omega (arith, room c, c.self.inside.writes.ok.0, c.self.invariant.0.capacity) in
    let done = c.push.ensures.succeeds short in
    (grind (arith, c.push.ensures.items, done), grind (arith, c.push.ensures.len, done))

pub invariant_of-self-then-len : goal.invariant_of-self-then-len
invariant_of-self-then-len c =
    let at = (goal.at.invariant_of-self-then-len c).After-push in
    let old = c.self.invariant.0 in
    let count = (pushed at).1 in
    let more : vec_len c.rebuild.new.slots ≡ min (2 * vec_len c.self.inside.slots) c.self.inside.most_slots = omega (arith, c.rebuild.ensures.len, c.min-more.ensures, c.len-then-len.ensures) in (
      record {
        within = omega (arith, room at, c.self.inside.writes.ok.0, count);
        few = old.few;
        capacity = omega (arith, old.capacity, c.push.ensures.capacity);
        distinct = subst HasDistinctPlaces (sym (pushed at).0) (distinct_push c.self.inside.writes.items c.args.at c.args.word old.distinct (free at));
        table = subst (λ (l : List (ℕ × ℕ)). IsTable l c.rebuild.new.slots.items) c.deref-then-len.ensures.value c.rebuild.ensures.table;
        spare = omega (arith, more, room at, c.self.inside.writes.ok.0, count, old.spare, old.fewest, old.enough);
        fewest = omega (arith, more, old.fewest, old.most);
        most = omega (arith, more);
        enough = old.enough;
        slots_capacity = omega (arith, old.slots_capacity, c.rebuild.ensures.capacity);
      },
      subst (PassesAll c.admit.new.sieve) (sym (pushed at).0) (passes_push c.self.inside.sieve c.admit.new.sieve c.self.inside.writes.items c.args.at c.args.word c.self.invariant.1 c.admit.ensures.kept c.admit.ensures.admitted),
    )

pub invariant_of-self-else-len : goal.invariant_of-self-else-len
invariant_of-self-else-len c =
    let at = (goal.at.invariant_of-self-else-len c).After-push in
    let old = c.self.invariant.0 in
    let count = (pushed at).1 in
    let plan = c.self.inside.writes.items in
    let number : c.len.result ≡ length plan + 1 = omega (arith, c.len.ensures, count, c.self.inside.writes.ok.0) in (
      record {
        within = omega (arith, room at, c.self.inside.writes.ok.0, count);
        few = old.few;
        capacity = omega (arith, old.capacity, c.push.ensures.capacity);
        distinct = subst HasDistinctPlaces (sym (pushed at).0) (distinct_push plan c.args.at c.args.word old.distinct (free at));
        table = subst (λ (l : List (ℕ × ℕ)). IsTable l (set c.self.inside.slots.items c.seek-slot.result c.len.result)) (sym (pushed at).0)
            (table_push plan c.self.inside.slots.items c.args.at c.args.word c.seek-slot.result c.len.result old.table (ends_free at).within (ends_free at).reached (none at) number);
        spare = omega (arith, c.if-len.false, c.len-3.ensures, c.len-2.ensures);
        fewest = old.fewest;
        most = old.most;
        enough = old.enough;
        slots_capacity = old.slots_capacity;
      },
      subst (PassesAll c.admit.new.sieve) (sym (pushed at).0) (passes_push c.self.inside.sieve c.admit.new.sieve plan c.args.at c.args.word c.self.invariant.1 c.admit.ensures.kept c.admit.ensures.admitted),
    )

pub returns-then-len : goal.returns-then-len
returns-then-len c =
    let at = (goal.at.returns-then-len c).After-push in
    let planned : List (ℕ × ℕ) → Plan = λ writes. record { writes = writes; room = c.self.inside.room } in
    rw (← c.self.view_is) (ap planned ((pushed at).0 ∙ sym (with_put_new c.self.inside.writes.items c.args.at c.args.word (free at))))

pub returns-else-len : goal.returns-else-len
returns-else-len c =
    let at = (goal.at.returns-else-len c).After-push in
    let planned : List (ℕ × ℕ) → Plan = λ writes. record { writes = writes; room = c.self.inside.room } in
    rw (← c.self.view_is) (ap planned ((pushed at).0 ∙ sym (with_put_new c.self.inside.writes.items c.args.at c.args.word (free at))))

pub rebuild-requires-clause-distinct : goal.rebuild-requires-clause-distinct
rebuild-requires-clause-distinct c =
    let at = (goal.at.rebuild-requires-clause-distinct c).After-push in
    subst HasDistinctPlaces (sym (pushed at).0 ∙ sym c.deref-then-len.ensures.value) (distinct_push c.self.inside.writes.items c.args.at c.args.word c.self.invariant.0.distinct (free at))

pub overflow_cast-len : goal.overflow_cast-len
overflow_cast-len c =
    let at = (goal.at.overflow_cast-len c).After-push in
    record { fits = omega (arith, c.len.ensures, (pushed at).1, room at, c.self.inside.writes.ok.0, c.self.invariant.0.few) }

pub rebuild-requires-clause-few : goal.rebuild-requires-clause-few
rebuild-requires-clause-few c =
    let at = (goal.at.rebuild-requires-clause-few c).After-push in
    omega (arith, c.deref-then-len.ensures.len, (pushed at).1, room at, c.self.inside.writes.ok.0, c.self.invariant.0.few)
