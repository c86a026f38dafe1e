use Rattle.std.proofs.Common.{◌*◌, ◌-◌, ◌<◌, length, arith}
use Rattle.uw_intent.specs.RedoRecord.{commit_writes}
use Rattle.uw_intent.proofs.Listed.{number_of_record, number_of_used, number_of_gate, number_of_copy, number_of_closing, number_of_none, numbered_suc}
use Rattle.uw_intent.proofs.redo.nth_write.Goals as goal

pub returns-then-k-record : goal.returns-then-k-record
returns-then-k-record c =
    let frame = c.args.frame.now in
    let plan = c.args.plan.now.writes in
    let some : 0 < length plan = omega (arith, c.count-count.ensures.count, c.if-count-eq0.false) in
    let within : c.in_ok-k.k < 3 * length plan = omega (arith, c.count-count.ensures.count, c.if-k-record.true) in
    numbered_suc (commit_writes frame plan) c.args.n c.in_ok-k.k _ (omega (arith, c.in_ok-k.ensures))
    (number_of_record frame plan some c.in_ok-k.k c.record_word.result within c.record_word.ensures)

pub returns-in-0 : goal.returns-in-0
returns-in-0 c =
    let frame = c.args.frame.now in
    let plan = c.args.plan.now.writes in
    let some : 0 < length plan = omega (arith, c.count-count.ensures.count, c.if-count-eq0.false) in
    numbered_suc (commit_writes frame plan) c.args.n c.in_ok-k.k _ (omega (arith, c.in_ok-k.ensures))
    (number_of_used frame plan some c.in_ok-k.k (3 * c.count-count.result) (omega (arith, c.count-count.ensures.count)) (omega (arith, c.count-count.ensures.count, c.in-0.is)) (omega (arith, c.count-count.ensures.count)))

pub returns-in-1 : goal.returns-in-1
returns-in-1 c =
    let frame = c.args.frame.now in
    let plan = c.args.plan.now.writes in
    let some : 0 < length plan = omega (arith, c.count-count.ensures.count, c.if-count-eq0.false) in
    numbered_suc (commit_writes frame plan) c.args.n c.in_ok-k.k _ (omega (arith, c.in_ok-k.ensures))
    (number_of_gate frame plan some c.in_ok-k.k (omega (arith, c.count-count.ensures.count)) (omega (arith, c.count-count.ensures.count, c.in-1.is)))

pub returns-in_default : goal.returns-in_default
returns-in_default c =
    let frame = c.args.frame.now in
    let plan = c.args.plan.now.writes in
    let some : 0 < length plan = omega (arith, c.count-count.ensures.count, c.if-count-eq0.false) in
    let later = c.in_ok-k.k - 3 * c.count-count.result - 2 in
    numbered_suc (commit_writes frame plan) c.args.n c.in_ok-k.k _ (omega (arith, c.in_ok-k.ensures))
    (number_of_copy frame plan some c.in_ok-k.k later c.nth-at.result (omega (arith, c.count-count.ensures.count)) (omega (arith, c.count-count.ensures.count, c.in_default)) c.nth-at.ensures (omega (arith, c.count-count.ensures.count)))

pub returns-in_default-2 : goal.returns-in_default-2
returns-in_default-2 c =
    let frame = c.args.frame.now in
    let plan = c.args.plan.now.writes in
    let some : 0 < length plan = omega (arith, c.count-count.ensures.count, c.if-count-eq0.false) in
    numbered_suc (commit_writes frame plan) c.args.n c.in_ok-k.k _ (omega (arith, c.in_ok-k.ensures))
    (number_of_closing frame plan some c.in_ok-k.k (omega (arith, c.count-count.ensures.count, c.in_default)))

pub returns-in_default-3 : goal.returns-in_default-3
returns-in_default-3 c =
    let frame = c.args.frame.now in
    let plan = c.args.plan.now.writes in
    let some : 0 < length plan = omega (arith, c.count-count.ensures.count, c.if-count-eq0.false) in
    numbered_suc (commit_writes frame plan) c.args.n c.in_ok-k.k _ (omega (arith, c.in_ok-k.ensures))
    (number_of_none frame plan some c.in_ok-k.k (omega (arith, c.count-count.ensures.count, c.in_default)))
