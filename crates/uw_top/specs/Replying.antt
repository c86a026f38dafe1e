-- The reply to a command over plain lists (own rule).
use Rattle.std.specs.Prelude.{ℕ, List, [], Option, None, Some, Result, Ok, Err}
use Rattle.uw_model.specs.declared.calls.Answer.{Answer}
use Rattle.uw_model.specs.declared.asks.Ask.{Ask}
use Rattle.uw_model.specs.declared.asks.Ask.TheVariants as asks
use Rattle.uw_model.specs.ListState.{ListState}
use Rattle.uw_model.specs.Caches.{answer_in, caches_after}
use Rattle.uw_cachecmd.specs.declared.commands.CmdFault.{CmdFault}
use Rattle.uw_cachecmd.specs.Replies.{reply_text, refusal_reply}
use Rattle.uw_conf.specs.declared.conf.Options.{Options}
use Rattle.uw_session.specs.Exchange.{Exchange, asked_by}

-- a reply, the answer of the cache behind it where one was asked, and the caches after it
pub record Reply : Type 0 where
  pub text : List ℕ
  pub answer : Option Answer
  pub caches : List ListState

-- the reply to a command's ask, which is one of a cache, or to a refused command
abbrev pub replied : List ListState → ℕ → ℕ → Result Ask CmdFault → Reply
replied caches now m2 (Ok (asks.Cache cache call)) = record {
  text = reply_text m2 (answer_in caches cache now call);
  answer = Some (answer_in caches cache now call);
  caches = caches_after caches cache now call;
}
replied caches now m2 (Ok (asks.Area area op)) = record { text = []; answer = None; caches = caches }
replied caches now m2 (Ok (asks.Spool vars body)) = record { text = []; answer = None; caches = caches }
replied caches now m2 (Err fault) = record { text = refusal_reply m2 fault; answer = None; caches = caches }

-- the reply to a command's packet
abbrev pub reply_of : Options → List ListState → Exchange → Reply
reply_of conf caches x = replied caches x.moment x.head.m2 (asked_by conf x.head x.block)
