-- A configuration from the text that was read.
use Rattle.std.proofs.Common.{◌≡◌, ℕ, ◌+◌, ◌<◌, ◌≤◌, List, [], length, take, Option, None, Some, Result, Ok, Err, refl, sym, subst, inl, inr, arith}
use Rattle.std.proofs.Math.Seq.{take-length}
use Rattle.std.proofs.lemmas.List.{length-take-le}
use Rattle.uw_outside.specs.Streams.{Takes}
use Rattle.uw_outside.proofs.Streams.{Takes-none}
use Rattle.uw_outside.specs.Streams.{Inflow}
use Rattle.uw_packet.specs.Reads.{IsOver}
use Rattle.uw_conf.specs.declared.conf.Conf.{Conf}
use Rattle.uw_conf.specs.declared.conf.ConfFault.{ConfFault}
use Rattle.uw_conf.specs.Configuration.{most_text_bytes}
use Rattle.uw_ends.specs.declared.ends.RunFault.{RunFault}
use Rattle.uw_ends.specs.declared.ends.RunFault.TheVariants as faults
use Rattle.uw_conf.specs.Given.{options_in}
use Rattle.uw_session.specs.Exchange.{IsSiteOf, Site}
use Rattle.uw_ends.specs.declared.ends.RunEnd.{RunEnd}
use Rattle.uw_ends.specs.declared.words.Command.{Command}
use Rattle.uw_ends.specs.declared.words.Command.TheVariants as commands
use Rattle.uw_top.specs.Run.{Does, IsNotBegun, IsSaid, IsSaidWithACache, IsUntouched, ReadsText, Runs, Sameness, Surroundings, site_of}
use Rattle.uw_top.specs.RunSteps.{GivesConf, Says}

-- what a text says is the configuration that is given, or the refusal
pub conf_given : (before after : ℕ) (said : ℕ → ℕ → List ℕ → Result Conf ConfFault → Type 0) (r : Inflow) (text : List ℕ) (result : Result Conf RunFault)
    → ReadsText r text → Says before after (λ first last. said first last text) result → GivesConf before after said r result
conf_given before after said r text (Ok conf) read says = (text, read, says)
conf_given before after said r text (Err (faults.Conf fault)) read says = (text, read, says)
conf_given before after said r text (Err faults.Memory) read says = ((text, read.taken, read.few), says, read.kept)
conf_given before after said r text (Err _) read says = absurd says

-- a buffer of one byte more than a text may have was filled
pub read_full : (r : Inflow) (text : List ℕ) → Takes r.before r.now (take (length text) text) → length text ≡ most_text_bytes + 1 → r.faults_now ≡ r.faults_before → ReadsText r text
read_full r text taken full kept =
    record { kept = kept; taken = rw take-length at taken; few = omega (arith, full); whole = λ small. absurd (omega (arith, full, small)) }

-- the source ended before such a buffer was full
pub read_short : (r : Inflow) (buffer : List ℕ) (n : ℕ) → Takes r.before r.now (take n buffer) → n < length buffer → length buffer ≡ most_text_bytes + 1 → IsOver r
    → r.faults_now ≡ r.faults_before → ReadsText r (take n buffer)
read_short r buffer n taken short full over kept =
    record { kept = kept; taken = taken; few = rw (length-take-le n buffer (omega (arith, short))) (omega (arith, short, full)); whole = λ small. over }

-- nothing of a configuration was read
pub nothing_read : (left : Option (List ℕ)) → (text : List ℕ) × Takes left left text × (length text ≤ most_text_bytes + 1)
nothing_read left = ([], Takes-none left, omega arith)

-- a command over a configuration that was given
pub runs_over : (before after : ℕ) (said : ℕ → ℕ → List ℕ → Result Conf ConfFault → Type 0) (r : Inflow) (untouched : Type 0) (fault : Option RunFault) (Ran : Site → Type 0)
    (conf : Conf) → GivesConf before after said r (Ok conf) → ((text : List ℕ) → said before after text (Ok conf) → Ran (site_of text (options_in conf)))
    → Runs before after said r untouched fault Ran
runs_over before after said r untouched fault Ran conf given ran = inl (given.0, conf, given.1, given.2, ran given.0 given.2)

-- the site of a text that says a configuration
pub site_is : (before after : ℕ) (text : List ℕ) (conf : Conf) → IsSaid before after text (Ok conf) → IsSiteOf conf (site_of text (options_in conf))
site_is before after text conf said = record { options = refl; rules = said.1.0; task_rules = said.1.1 }

-- what is given for a command that needs a cache
pub cache_given : (before after : ℕ) (r : Inflow) (conf : Conf) (result : Result Conf RunFault) → GivesConf before after IsSaid r (Ok conf)
    → ((before after : ℕ) (text : List ℕ) → IsSaid before after text (Ok conf) → Says before after (λ first last. IsSaidWithACache first last text) result)
    → GivesConf before after IsSaidWithACache r result
cache_given before after r conf result given says = conf_given before after IsSaidWithACache r given.0 result given.1 (says before after given.0 given.2)

-- what holds of a run, said of more
pub runs_map : (before after : ℕ) (said : ℕ → ℕ → List ℕ → Result Conf ConfFault → Type 0) (r : Inflow) (untouched still : Type 0) (fault : Option RunFault) (Ran Did : Site → Type 0)
    → (untouched → still) → ((site : Site) → Ran site → Did site) → Runs before after said r untouched fault Ran → Runs before after said r still fault Did
runs_map before after said r untouched still fault Ran Did same does (inl (text, conf, read, says, ran)) =
    inl (text, conf, read, says, does (site_of text (options_in conf)) ran)
runs_map before after said r untouched still fault Ran Did same does (inr (begun, left)) = inr (begun, same left)

-- there was no memory for a command's words, or before anything was read
pub out_of_memory : (command : Option Command) (s : Surroundings) (same : Sameness) (end : RunEnd) → end.fault ≡ Some faults.Memory → same.conf → same.make
    → IsUntouched same end → Takes s.conf.before s.conf.now [] → s.refused_now ≡ s.refused → s.conf.faults_now ≡ s.conf.faults_before → Does command s same end
out_of_memory command s same end fault conf make untouched taken refused kept = by_command command
  where
    not_begun : (said : ℕ → ℕ → List ℕ → Result Conf ConfFault → Type 0) → IsNotBegun s.refused s.refused_now said s.conf end.fault
    not_begun said =
        subst (λ (f : Option RunFault). IsNotBegun s.refused s.refused_now said s.conf f) (sym fault) (([], taken, omega arith), omega (arith, refused), kept)

    by_command : (of : Option Command) → Does of s same end
    by_command (Some (commands.Pipe die)) = inr (not_begun IsSaid, untouched)
    by_command (Some commands.Spool) = inr (not_begun IsSaid, untouched)
    by_command (Some (commands.Load first count)) = inr (not_begun IsSaidWithACache, untouched)
    by_command (Some commands.Steps) = (inr fault, conf, make, untouched)
    by_command (Some commands.Serve) = (inr fault, conf, make, untouched)
    by_command None = (inr fault, conf, make, untouched)
