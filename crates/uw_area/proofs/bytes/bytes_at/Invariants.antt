use Rattle.std.proofs.Common.{◌≡◌, ◌+◌, ◌/◌, ◌%◌, drop}
use Rattle.uw_words.specs.Plans.{region}
use Rattle.uw_words.specs.Texts.{word_bytes}
use Rattle.uw_area.proofs.bytes.bytes_at.Given as goal

abbrev pub invariant-loop-k : goal.invariant-loop-k
invariant-loop-k l = l.bytes.items ≡ drop (l.fn.at % 8) (word_bytes (region l.fn.ram) (16 + l.fn.at / 8) l.k)
