-- A record as it is walked.
use Rattle.std.specs.Prelude.{ℕ, ◌-◌, ◌^◌, ◌<◌, ◌≤◌, List, All, take, drop, length}
use Rattle.uw_intent.specs.declared.frame.WordWrite.{WordWrite}
use Rattle.uw_intent.specs.declared.cursor.Cursor.{Cursor}
use Rattle.uw_intent.specs.RedoRecord.{run_writes, IsWholeText}

-- the words from a place up to an end
abbrev pub text_between : List ℕ → ℕ → ℕ → List ℕ
text_between words next end = take (end - next) (drop next words)

-- the writes that a cursor has yet to give
abbrev pub writes_ahead : Cursor → List ℕ → List WordWrite
writes_ahead cursor words = run_writes cursor.target cursor.left (text_between words cursor.next cursor.end)

-- it stands in whole runs, whose writes go into the region
pub record IsOnRuns (words : List ℕ) (cursor : Cursor) : Type 0 where
  pub before : cursor.next ≤ cursor.end
  pub end : cursor.end ≤ length words
  pub small : length words < 2 ^ 63
  pub whole : IsWholeText cursor.left (text_between words cursor.next cursor.end)
  pub targets : All (λ write. write.at < length words) (writes_ahead cursor words)
