-- Connections that a listener accepts.
use Rattle.std.specs.Prelude.{◌≡◌, ℕ, ◌+◌, ◌<◌, Bool, true, false, List, [], ◌∷◌, Option, IfSome}
use Rattle.std.specs.Option.{option_map}
use Rattle.uw_outside.specs.Counts.{next_count}
use Rattle.uw_outside.specs.InMemory.{Incoming}
use Rattle.uw_outside.specs.declared.listener.Accepted.{Accepted}
use Rattle.uw_outside.specs.declared.listener.Accepted.TheVariants as accepted

-- an accept answered that no connection comes any more
abbrev pub has_closed : {I O : Type 0} → Accepted I O → Bool
has_closed (accepted.Link source sink) = false
has_closed accepted.Closed = true
has_closed accepted.Failed = false

-- an accept failed
abbrev pub has_refused : {I O : Type 0} → Accepted I O → Bool
has_refused (accepted.Link source sink) = false
has_refused accepted.Closed = false
has_refused accepted.Failed = true

-- a connection was accepted where some are left, and then one fewer is; the close was answered where none is left; or
-- the accept failed where some are left, and they stay
abbrev pub Accepts : {I O : Type 0} → Option ℕ → Option ℕ → Accepted I O → Type 0
Accepts before now (accepted.Link source sink) = before ≡ option_map (λ left. left + 1) now
Accepts before now accepted.Closed = (now ≡ before) × IfSome before (λ left. left ≡ 0)
Accepts before now accepted.Failed = (now ≡ before) × IfSome before (λ left. 0 < left)

-- once an accept has answered the close, every later one does
pub record Closes (before now closed : Bool) : Type 0 where
  pub stays : before ≡ true → closed ≡ true
  pub last : now ≡ closed

-- the listener in memory: the sources of the connections that are left, how many it has given, whether it has
-- answered the close, and how often it has failed
pub record Links : Type 0 where
  pub left : List Incoming
  pub given : ℕ
  pub closed : Bool
  pub faults : ℕ

-- the sink of a connection in memory: the place of its text, and how many of its writes have failed
pub record Posting : Type 0 where
  pub place : ℕ
  pub faults : ℕ

-- the binder in memory: its listener, if it has not given it yet, how often it has refused to bind, and how often it
-- has said of a listener that it is closed
pub record Binding : Type 0 where
  pub list : Option Links
  pub faults : ℕ
  pub closings : ℕ

-- an accept of the listener in memory: it gave the next source, with the sink of the text of its place; it answered the
-- close where none is left; or it failed and left them
abbrev pub AcceptsNext : Links → Links → Accepted Incoming Posting → Type 0
AcceptsNext before now (accepted.Link source sink) =
    (before.left ≡ source ∷ now.left) × (sink ≡ record { place = before.given; faults = 0 })
    × (now ≡ record before { left = now.left; given = before.given + 1 })
AcceptsNext before now accepted.Closed = (before.left ≡ []) × (now ≡ record before { closed = true })
AcceptsNext before now accepted.Failed = now ≡ record before { faults = next_count before.faults }
