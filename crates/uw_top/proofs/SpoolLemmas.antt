-- The rounds of the command `spool`, one after the other.
use Rattle.std.proofs.Common.{◌≡◌, ℕ, ◌+◌, ◌<◌, ◌≤◌, List, [], ◌∷◌, ◌++◌, length, Option, None, Some, Result, Ok, Err, refl, sym, ap, ◌∙◌, inl, inr, arith, append_assoc, subst}
use Rattle.std.proofs.lemmas.List.{append-nil, length-append}
use Rattle.uw_outside.specs.Faults.{HasCause}
use Rattle.uw_outside.proofs.Causes.{HasCause-none, HasCause-then}
use Rattle.uw_outside.specs.Streams.{Outflow}
use Rattle.uw_outside.proofs.Streams.{Gives-append, Gives-none}
use Rattle.uw_keeper.specs.Keeping.{Keeping}
use Rattle.uw_model.specs.Asks.{Asking}
use Rattle.uw_spool.specs.declared.report.RoundFault.{RoundFault}
use Rattle.uw_spool.specs.declared.report.RoundFault.TheVariants as rounds
use Rattle.uw_spool.specs.declared.report.TaskLine.{TaskLine}
use Rattle.uw_spool.specs.Rounds.{Rounds}
use Rattle.uw_conf.specs.declared.conf.Conf.{Conf}
use Rattle.uw_ends.specs.declared.ends.RunFault.{RunFault}
use Rattle.uw_ends.specs.declared.ends.RunFault.TheVariants as faults
use Rattle.uw_session.specs.Exchange.{IsSiteOf, Site}
use Rattle.uw_top.specs.Pipe.{has_failed_to_write}
use Rattle.uw_top.specs.Spool.{EndsRounds, RoundsLead, SpoolRun, round_of, round_text, rounds_text, task_rules_of, undying}
use Rattle.uw_top.specs.SpoolSteps.{RoundsRun, RoundsSoFar, RunsRound}
use Rattle.uw_top.proofs.Machine.{rose_since}

-- rounds and one more
RoundsLead-push : {S : Type 0} → (leads : S → S → List Asking → ℕ → Type 0) (site : Site) (now spooler next : ℕ) (state held after : S) (kept still left : Keeping)
    (reports : List (List TaskLine)) (report : List TaskLine) → next ≡ spooler + length reports → RoundsLead leads site now spooler state kept reports held still
    → Rounds (round_of site now next) (undying leads held after still left) (Ok report) → RoundsLead leads site now spooler state kept (reports ++ report ∷ []) after left
RoundsLead-push {S = S} leads site now spooler next state held after kept still left [] report is passed round =
    let here : next ≡ spooler = omega (arith, is) in
    let first = subst (λ (n : ℕ). Rounds (round_of site now n) (undying leads held after still left) (Ok report)) here round in
    let from_state : Rounds (round_of site now spooler) (undying leads state after still left) (Ok report) =
    subst (λ (s : S). Rounds (round_of site now spooler) (undying leads s after still left) (Ok report)) passed.0 first in
    let from_kept : Rounds (round_of site now spooler) (undying leads state after kept left) (Ok report) =
    subst (λ (k : Keeping). Rounds (round_of site now spooler) (undying leads state after k left) (Ok report)) passed.1 from_state in
    (after, left, from_kept, (refl, refl))
RoundsLead-push leads site now spooler next state held after kept still left (one ∷ reports) report is passed round =
    (passed.0, passed.1, passed.2, RoundsLead-push leads site now (spooler + 1) next passed.0 held after passed.1 still left reports report (omega (arith, is)) passed.3 round)

-- their lines
rounds_text-push : (spooler next : ℕ) (reports : List (List TaskLine)) (report : List TaskLine) → next ≡ spooler + length reports
    → rounds_text spooler (reports ++ report ∷ []) ≡ rounds_text spooler reports ++ round_text next report
rounds_text-push spooler next [] report is =
    let here : spooler ≡ next = omega (arith, is) in
    append-nil (round_text spooler report) ∙ ap (λ (n : ℕ). round_text n report) here
rounds_text-push spooler next (one ∷ reports) report is =
    ap (λ (l : List ℕ). round_text spooler one ++ l) (rounds_text-push (spooler + 1) next reports report (omega (arith, is)))
    ∙ sym (append_assoc (round_text spooler one) (rounds_text (spooler + 1) reports) (round_text next report))

-- one round more
pub one_round_more : {S : Type 0} → (leads : S → S → List Asking → ℕ → Type 0) (site : Site) (now : ℕ) (start held after : S) (kept still left : Keeping)
    (taken between written : Option (List ℕ)) (f1 f2 spooler : ℕ)
    → RoundsSoFar leads site now start held kept still taken between spooler
    → RunsRound leads site now spooler held after still left (record { before = between; now = written; faults_before = f1; faults_now = f2 }) None
    → RoundsSoFar leads site now start after kept left taken written (spooler + 1)
one_round_more leads site now start held after kept still left taken between written f1 f2 spooler s r =
    let next : spooler ≡ 0 + length s.reports = omega (arith, s.many) in
    record {
      reports = s.reports ++ r.0 ∷ [];
      passed = RoundsLead-push leads site now 0 spooler start held after kept still left s.reports r.0 next s.passed r.1;
      written = rw (rounds_text-push 0 spooler s.reports r.0 next) (Gives-append taken between written (rounds_text 0 s.reports) (round_text spooler r.0) s.written r.2);
      many = length-append s.reports (r.0 ∷ []) ∙ ap (λ n. n + 1) s.many;
    }

-- a write that failed at last failed since the first round
ends_later : (taken between written : Option (List ℕ)) (f0 f1 f2 spooler : ℕ) (result : Result (List TaskLine) RoundFault) (part : List ℕ) (fault : RunFault) → f0 ≤ f1
    → EndsRounds spooler result (record { before = between; now = written; faults_before = f1; faults_now = f2 }) part fault
    → EndsRounds spooler result (record { before = taken; now = written; faults_before = f0; faults_now = f2 }) part fault
ends_later taken between written f0 f1 f2 spooler (Ok report) part faults.WriteFault lf e = (rose_since f0 f1 f2 lf e.0, e.1)
ends_later taken between written f0 f1 f2 spooler (Ok report) part faults.Memory lf e = e
ends_later taken between written f0 f1 f2 spooler (Ok report) part _ lf e = absurd e
ends_later taken between written f0 f1 f2 spooler (Err (rounds.KeeperFault report)) part faults.KeeperFault lf e = e
ends_later taken between written f0 f1 f2 spooler (Err (rounds.KeeperFault report)) part faults.WriteFault lf e = (rose_since f0 f1 f2 lf e.0, e.1)
ends_later taken between written f0 f1 f2 spooler (Err (rounds.KeeperFault report)) part faults.Memory lf e = e
ends_later taken between written f0 f1 f2 spooler (Err (rounds.KeeperFault report)) part _ lf e = absurd e
ends_later taken between written f0 f1 f2 spooler (Err (rounds.Died whole report)) part faults.WriteFault lf e = (rose_since f0 f1 f2 lf e.0, e.1)
ends_later taken between written f0 f1 f2 spooler (Err (rounds.Died whole report)) part faults.Memory lf e = e
ends_later taken between written f0 f1 f2 spooler (Err (rounds.Died whole report)) part _ lf e = absurd e
ends_later taken between written f0 f1 f2 spooler (Err (rounds.Memory report)) part faults.WriteFault lf e = (rose_since f0 f1 f2 lf e.0, e.1)
ends_later taken between written f0 f1 f2 spooler (Err (rounds.Memory report)) part faults.Memory lf e = e
ends_later taken between written f0 f1 f2 spooler (Err (rounds.Memory report)) part _ lf e = absurd e

-- a round that was the last
pub rounds_end : {S : Type 0} → (leads : S → S → List Asking → ℕ → Type 0) (site : Site) (now : ℕ) (start held after : S) (kept still left : Keeping)
    (taken between written : Option (List ℕ)) (f0 f1 f2 spooler : ℕ) (fault : RunFault) → f1 ≡ f0 → HasCause f1 f2 (has_failed_to_write (Some fault)) → spooler < site.options.spoolers
    → RoundsSoFar leads site now start held kept still taken between spooler
    → RunsRound leads site now spooler held after still left (record { before = between; now = written; faults_before = f1; faults_now = f2 }) (Some fault)
    → RoundsRun leads site now start after kept left (record { before = taken; now = written; faults_before = f0; faults_now = f2 }) (Some fault)
rounds_end {S = S} leads site now start held after kept still left taken between written f0 f1 f2 spooler fault lf cause few s r =
    let last = r.2 in
    let snk : Outflow = record { before = taken; now = written; faults_before = f0; faults_now = f2 } in
    let Last : ℕ → Type 0 = λ n. (n < site.options.spoolers)
    × ((result : Result (List TaskLine) RoundFault) × Rounds (round_of site now n) (undying leads held after still left) result × EndsRounds n result snk last.0 fault) in
    let here : Last spooler = (few, (r.0, r.1, ends_later taken between written f0 f1 f2 spooler r.0 last.0 fault (omega (arith, lf)) last.1)) in
    record {
      reports = s.reports;
      behind = held;
      still = still;
      part = last.0;
      passed = s.passed;
      written = Gives-append taken between written (rounds_text 0 s.reports) last.0 s.written last.2;
      writes = HasCause-then f0 f1 f2 (has_failed_to_write (Some fault)) lf cause;
      ending = inl (subst Last (sym s.many) here);
    }

-- the rules of a site's tasks ran at its spoolers
pub of_site : {S : Type 0} → (leads : S → S → List Asking → ℕ → Type 0) (conf : Conf) (site : Site) (now spooler : ℕ) (before after : S) (kept left : Keeping)
    (result : Result (List TaskLine) RoundFault) → IsSiteOf conf site
    → Rounds (record { rules = task_rules_of site; now = now; spooler = spooler; spoolers = conf.spoolers }) (undying leads before after kept left) result
    → Rounds (round_of site now spooler) (undying leads before after kept left) result
of_site leads conf site now spooler before after kept left result is round =
    subst (λ (n : ℕ). Rounds (record { rules = task_rules_of site; now = now; spooler = spooler; spoolers = n }) (undying leads before after kept left) result)
    (ap (λ o. o.spoolers) is.options) round

-- rounds at the moment that the clock gave
pub spool_run : {S : Type 0} → (leads : S → S → List Asking → ℕ → Type 0) (site : Site) (now : ℕ) (start last : S) (kept left : Keeping) (snk : Outflow) (gave : List ℕ → Type 0)
    (fault : Option RunFault) → gave (now ∷ []) → RoundsRun leads site now start last kept left snk fault → SpoolRun leads start last kept left site snk gave fault
spool_run leads site now start last kept left snk gave fault told r =
    record { now = now; reports = r.reports; behind = r.behind; still = r.still; part = r.part; told = told; passed = r.passed; written = r.written; writes = r.writes; ending = r.ending }

-- no memory before the first round
pub no_round : {S : Type 0} → (leads : S → S → List Asking → ℕ → Type 0) (site : Site) (now : ℕ) (start : S) (kept : Keeping) (taken : Option (List ℕ)) (f0 : ℕ) (gave : List ℕ → Type 0)
    → gave (now ∷ []) → SpoolRun leads start start kept kept site (record { before = taken; now = taken; faults_before = f0; faults_now = f0 }) gave (Some faults.Memory)
no_round leads site now start kept taken f0 gave told = record {
  now = now;
  reports = [];
  behind = start;
  still = kept;
  part = [];
  told = told;
  passed = (refl, refl);
  written = Gives-none taken;
  writes = HasCause-none f0 f0 refl;
  ending = inr (refl, refl, refl, refl);
}

-- the rounds of all spoolers
pub rounds_over : {S : Type 0} → (leads : S → S → List Asking → ℕ → Type 0) (site : Site) (now : ℕ) (start held : S) (kept still : Keeping)
    (taken written : Option (List ℕ)) (f0 f1 spooler : ℕ) → f1 ≡ f0 → spooler ≡ site.options.spoolers
    → RoundsSoFar leads site now start held kept still taken written spooler
    → RoundsRun leads site now start held kept still (record { before = taken; now = written; faults_before = f0; faults_now = f1 }) None
rounds_over leads site now start held kept still taken written f0 f1 spooler lf all s = record {
  reports = s.reports;
  behind = held;
  still = still;
  part = [];
  passed = s.passed;
  written = rw append-nil s.written;
  writes = HasCause-none f0 f1 lf;
  ending = (s.many ∙ all, refl, refl, refl);
}
