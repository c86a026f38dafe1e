use Rattle.std.proofs.Common.{◌≡◌, ◌^◌, ◌<◌, take}
use Rattle.uw_base.specs.Numbers.{djb33x_of}
use Rattle.uw_base.proofs.numbers.djb33x.Given as goal

abbrev pub invariant-loop-byte : goal.invariant-loop-byte
invariant-loop-byte l =
    record {
      so_far : l.hash ≡ djb33x_of (take l.byte-index l.key);
      fits : l.hash < 2 ^ 32;
    }
