use Rattle.std.proofs.Common.{◌≡◌, ◌∙◌, false, sym, ap}
use Rattle.uw_model.specs.declared.calls.Call.TheVariants as calls
use Rattle.uw_model.specs.declared.calls.Answer.TheVariants as answers
use Rattle.uw_model.specs.Calls.{alive_at, is_bad_key}
use Rattle.uw_plan.proofs.Calling.{exists_answer, exists_leaves, found_where, has_entries, region_length, seen_agrees, unchanged}
use Rattle.uw_plan.proofs.reads.plan_exists.Goals as goal

pub returns-then-is_bad_key-clause-plan : goal.returns-then-is_bad_key-clause-plan
returns-then-is_bad_key-clause-plan c = λ list agrees.
    unchanged c.args.conf.now c.args.ram.now c.args.over.now c.requires list agrees c.args.moment (calls.Exists c.args.key.now)
    (exists_leaves c.args.conf.now list c.args.moment c.args.key.now)

pub alive_item-requires-clause-region : goal.alive_item-requires-clause-region
alive_item-requires-clause-region c = region_length c.args.conf.now c.args.ram.now c.args.over.now c.requires

pub alive_item-requires-clause-some : goal.alive_item-requires-clause-some
alive_item-requires-clause-some c = has_entries c.args.conf.now c.args.ram.now c.args.over.now c.requires

pub returns-clause-plan : goal.returns-clause-plan
returns-clause-plan c = λ list agrees.
    unchanged c.args.conf.now c.args.ram.now c.args.over.now c.requires list agrees c.args.moment (calls.Exists c.args.key.now)
    (exists_leaves c.args.conf.now list c.args.moment c.args.key.now)

pub returns-clause-answer : goal.returns-clause-answer
returns-clause-answer c = λ list agrees.
    let conf = c.args.conf.now in
    let key = c.args.key.now in
    let held = seen_agrees conf c.args.ram.now c.args.over.now c.requires list agrees in
    let good : is_bad_key conf key ≡ false = sym c.is_bad_key.ensures ∙ c.if-is_bad_key.false in
    let found = found_where agrees.items list (alive_at conf list c.args.moment key) c.alive_item.result (c.alive_item.ensures agrees.items list held) in
    ap answers.Flag (c.is_some.ensures ∙ found) ∙ sym (exists_answer conf list c.args.moment key good)
