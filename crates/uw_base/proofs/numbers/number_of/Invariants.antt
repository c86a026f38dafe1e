use Rattle.std.proofs.Common.{◌≡◌, ◌^◌, ◌<◌, take}
use Rattle.uw_base.specs.Numbers.{digits_number}
use Rattle.uw_base.proofs.numbers.number_of.Given as goal

abbrev pub invariant-loop-digit : goal.invariant-loop-digit
invariant-loop-digit l =
    record {
      so_far : l.number ≡ digits_number (take l.digit-index l.digits);
      fits : l.number < 2 ^ 64;
    }
