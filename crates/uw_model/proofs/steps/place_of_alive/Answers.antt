-- The alive entry of the key is the entry of the key, where that one is alive.
use Rattle.std.proofs.Common.{cond, get_or, Some, None, sym, ap, ◌∙◌}
use Rattle.std.proofs.lemmas.List.{get_or_default}
use Rattle.uw_model.proofs.KeysLemmas.{alive_none, alive_place}
use Rattle.uw_model.proofs.StateLemmas.{keys_of_state}
use Rattle.uw_model.proofs.steps.place_of_alive.Goals as goal

pub returns-in_err-place : goal.returns-in_err-place
returns-in_err-place c =
    rw c.from_residual.ensures (alive_none c.args.conf.now c.args.moment c.args.entries.now c.args.key.now c.in_err-place.ensures)

pub returns-then-not-is_alive : goal.returns-then-not-is_alive
returns-then-not-is_alive c =
    let own = keys_of_state c.args.conf.now c.args.entries.now c.requires in
    let x = c.index-entries-place.result in
    let dead = rw c.index-entries-place.is at (sym c.is_alive.ensures ∙ c.if-not-is_alive.true) in
    alive_place c.args.conf.now c.args.moment c.args.entries.now c.args.key.now c.in_ok-place.place own c.in_ok-place.ensures x ∙ ap (λ b. cond b (Some (get_or c.args.entries.now c.in_ok-place.place x)) None) dead

pub returns : goal.returns
returns c =
    let own = keys_of_state c.args.conf.now c.args.entries.now c.requires in
    let x = c.index-entries-place.result in
    let within = c.in_ok-place.ensures.within in
    let alive = rw c.index-entries-place.is at (sym c.is_alive.ensures ∙ c.if-not-is_alive.false) in
    let found = alive_place c.args.conf.now c.args.moment c.args.entries.now c.args.key.now c.in_ok-place.place own c.in_ok-place.ensures x ∙ ap (λ b. cond b (Some (get_or c.args.entries.now c.in_ok-place.place x)) None) alive in
    record {
      within = within;
      found = λ d. found ∙ ap (λ e. Some e) (get_or_default c.args.entries.now c.in_ok-place.place x d within);
    }
