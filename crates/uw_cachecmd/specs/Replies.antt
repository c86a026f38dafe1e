-- The reply texts (own rule).
use Rattle.std.specs.Prelude.{ℕ, ◌==◌, ◌-◌, true, false, if◌then◌else◌, List, [], ◌++◌, codes, length, replicate}
use Rattle.std.specs.Fmt.{decimal, signed_decimal}
use Rattle.uw_packet.specs.Blocks.{array_of}
use Rattle.uw_model.specs.declared.calls.Answer.{Answer}
use Rattle.uw_model.specs.declared.calls.Answer.TheVariants as answers
use Rattle.uw_model.specs.declared.asks.SpoolAnswer.{SpoolAnswer}
use Rattle.uw_model.specs.declared.asks.SpoolAnswer.TheVariants as spools
use Rattle.uw_cachecmd.specs.declared.commands.CmdFault.{CmdFault}
use Rattle.uw_cachecmd.specs.declared.commands.CmdFault.TheVariants as faults

-- the text of an answer
abbrev pub answer_text : Answer → List ℕ
answer_text (answers.Value value) = codes "value\n" ++ value
answer_text answers.Missing = codes "missing"
answer_text answers.Done = codes "ok"
answer_text answers.Exists = codes "exists"
answer_text answers.Full = codes "full"
answer_text answers.KeyLength = codes "key length"
answer_text answers.TooLong = codes "too long"
answer_text answers.NotNumber = codes "not a number"
answer_text answers.Range = codes "range"
answer_text answers.ZeroDivisor = codes "zero divisor"
answer_text (answers.Number number) = codes "number " ++ signed_decimal number
answer_text (answers.Flag true) = codes "yes"
answer_text (answers.Flag false) = codes "no"
answer_text (answers.Keys keys) = codes "keys\n" ++ array_of keys

-- the value of an answer, alone; no bytes for any other
abbrev pub value_text : Answer → List ℕ
value_text (answers.Value value) = value
value_text _ = []

-- the reply to an answer: for modifier2 0 the value alone
abbrev pub reply_text : ℕ → Answer → List ℕ
reply_text m2 answer = if m2 == 0 then value_text answer else answer_text answer

-- the text of a refused command
abbrev pub refusal_text : CmdFault → List ℕ
refusal_text (faults.BadBlock at) = []
refusal_text faults.UnknownCommand = codes "unknown command"
refusal_text faults.UnknownCache = codes "unknown cache"
refusal_text faults.BadNumber = codes "bad number"
refusal_text faults.Memory = []

-- the reply to a refused command: for modifier2 0 no bytes
abbrev pub refusal_reply : ℕ → CmdFault → List ℕ
refusal_reply m2 fault = if m2 == 0 then [] else refusal_text fault

-- a fault that has a reply
abbrev pub HasReply : CmdFault → Type 0
HasReply (faults.BadBlock at) = ⊥
HasReply faults.UnknownCommand = Unit {0}
HasReply faults.UnknownCache = Unit {0}
HasReply faults.BadNumber = Unit {0}
HasReply faults.Memory = ⊥

-- a number in 20 digits
unfoldable pub in_twenty_digits : ℕ → List ℕ
in_twenty_digits number = replicate (20 - length (decimal number)) 48 ++ decimal number

-- the reply to a task that was to be put aside ("Spooler")
abbrev pub spool_text : SpoolAnswer → List ℕ
spool_text (spools.Put number) = codes "ok " ++ in_twenty_digits number
spool_text spools.NoNumber = codes "no number"
spool_text spools.Failed = codes "failed"
