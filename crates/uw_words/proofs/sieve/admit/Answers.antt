use Rattle.std.proofs.Common.{arith}
use Rattle.uw_words.proofs.Sieves.{admitted, admitted_before}
use Rattle.uw_words.proofs.sieve.admit.Goals as goal

pub returns-clause-admitted : goal.returns-clause-admitted
returns-clause-admitted c =
    admitted c.args.sieve.now c.mark_of-mark.result c.word_of.result c.mark_of-mark.type_inv c.word_of.ensures.word (omega (arith, c.told-sieve, c.word_of.ensures.within)) c.args.at c.mark_of-mark.ensures

pub returns-clause-kept : goal.returns-clause-kept
returns-clause-kept c = λ other was.
    admitted_before c.args.sieve.now c.mark_of-mark.result c.word_of.result c.mark_of-mark.type_inv c.word_of.ensures.word (omega (arith, c.told-sieve, c.word_of.ensures.within)) other was
