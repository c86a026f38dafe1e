-- The status and the text of a fault (own rule).
use Rattle.std.specs.Prelude.{ℕ, List, ◌++◌, codes, Option, None, Some}
use Rattle.std.specs.Fmt.{decimal}
use Rattle.uw_rules.specs.declared.kinds.RuleKind.{RuleKind}
use Rattle.uw_rules.specs.declared.kinds.RuleKind.TheVariants as rules
use Rattle.uw_conf.specs.declared.conf.ConfKind.{ConfKind}
use Rattle.uw_conf.specs.declared.conf.ConfKind.TheVariants as kinds
use Rattle.uw_ends.specs.declared.ends.BadPacket.{BadPacket}
use Rattle.uw_ends.specs.declared.ends.RunFault.{RunFault}
use Rattle.uw_ends.specs.declared.ends.BadPacket.TheVariants as bad
use Rattle.uw_ends.specs.declared.ends.RunFault.TheVariants as faults

-- the status of a run that ended with this fault, or with none
abbrev pub status_of : Option RunFault → ℕ
status_of None = 0
status_of (Some faults.Usage) = 1
status_of (Some (faults.Conf fault)) = 2
status_of (Some faults.ReadFault) = 3
status_of (Some faults.WriteFault) = 4
status_of (Some (faults.Truncated got want)) = 5
status_of (Some (faults.BadPacket packet)) = 6
status_of (Some faults.KeeperFault) = 7
status_of (Some faults.Memory) = 8
status_of (Some faults.TooMany) = 9
status_of (Some faults.NotStarted) = 10
status_of (Some faults.NoSocket) = 11
status_of (Some faults.NotBound) = 15

-- the name of the kind of a refused rule
abbrev pub name_of_rule : RuleKind → List ℕ
name_of_rule rules.BadRule = codes "BadRule"
name_of_rule rules.BadPattern = codes "BadPattern"
name_of_rule rules.PatternRefused = codes "PatternRefused"
name_of_rule rules.UnknownCondition = codes "UnknownCondition"
name_of_rule rules.UnknownAction = codes "UnknownAction"
name_of_rule rules.LabelTwice = codes "LabelTwice"
name_of_rule rules.LabelNotAhead = codes "LabelNotAhead"
name_of_rule rules.BadTemplate = codes "BadTemplate"
name_of_rule rules.TooManyRules = codes "TooManyRules"
name_of_rule rules.UnknownName = codes "UnknownName"

-- the name of the kind of a refused line
abbrev pub name_of : ConfKind → List ℕ
name_of kinds.BadLine = codes "BadLine"
name_of kinds.UnknownOption = codes "UnknownOption"
name_of kinds.BadValue = codes "BadValue"
name_of kinds.Missing = codes "Missing"
name_of kinds.NameTwice = codes "NameTwice"
name_of (kinds.TooLarge bytes limit) = codes "TooLarge"
name_of (kinds.Rule kind) = name_of_rule kind

-- the text of a refused packet, or of a refused event
abbrev pub text_of_packet : BadPacket → List ℕ
text_of_packet (bad.TooBig size limit) = codes "packet too big: " ++ decimal size ++ codes " above " ++ decimal limit
text_of_packet (bad.NoModifier m1 m2) = codes "no modifier: " ++ decimal m1 ++ codes ", " ++ decimal m2
text_of_packet (bad.BadBlock at) = codes "bad block at " ++ decimal at
text_of_packet bad.BadLength = codes "bad content length"
text_of_packet (bad.BadEvent line) = codes "bad event in line " ++ decimal line

-- the text of a fault
abbrev pub text_of : RunFault → List ℕ
text_of faults.Usage = codes "usage: uwsgi_server FILE SPOOL pipe, spool, steps, load or serve"
text_of (faults.Conf fault) = codes "conf line " ++ decimal fault.line ++ codes ": " ++ name_of fault.kind
text_of faults.ReadFault = codes "read failed"
text_of faults.WriteFault = codes "write failed"
text_of (faults.Truncated got want) = codes "truncated: got " ++ decimal got ++ codes ", want " ++ decimal want
text_of (faults.BadPacket packet) = text_of_packet packet
text_of faults.KeeperFault = codes "spool failed"
text_of faults.Memory = codes "out of memory"
text_of faults.TooMany = codes "too many"
text_of faults.NotStarted = codes "not started"
text_of faults.NoSocket = codes "no socket"
text_of faults.NotBound = codes "not bound"
