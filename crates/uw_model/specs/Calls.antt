-- What each call of a cache answers, and the list that it leaves ("The Caching framework"). Refusals come in the order of the
-- rows, and leave the list as it is.
use Rattle.std.specs.Prelude.{ℕ, ◌+◌, ◌-◌, ◌^◌, ◌==◌, min, nat_lt, Bool, false, not, ◌&&◌, ◌||◌, if◌then◌else◌, List, [], ◌∷◌, length, filter, find, map, Option, None, Some, is_some, unwrap_or, ℤ, pos, negsuc, ◌+ℤ◌, ◌-ℤ◌, ◌*ℤ◌, int_div}
use Rattle.std.specs.Str.{bytes_eq}
use Rattle.std.specs.Int.{cast_signed, cast_unsigned, from_le_bytes, to_le_bytes, w64}
use Rattle.uw_model.specs.declared.conf.CacheConf.{CacheConf}
use Rattle.uw_model.specs.declared.entries.Entry.{Entry}
use Rattle.uw_model.specs.declared.calls.Call.{Call}
use Rattle.uw_model.specs.declared.calls.Answer.{Answer}
use Rattle.uw_model.specs.declared.calls.MathOp.{MathOp}
use Rattle.uw_model.specs.declared.calls.Call.TheVariants as calls
use Rattle.uw_model.specs.declared.calls.Answer.TheVariants as answers
use Rattle.uw_model.specs.declared.calls.MathOp.TheVariants as ops
use Rattle.uw_model.specs.Entries.{max_value, new_entry, span}
use Rattle.uw_model.specs.Placement.{is_alive, alive_of, first_run, room}

-- what a call answers, and the list after it
pub record Outcome : Type 0 where
  pub answer : Answer
  pub list : List Entry

-- the moment at which an entry dies that is written now, 0 for never: it stays within 64 bits
abbrev pub dies_at : ℕ → ℕ → ℕ
dies_at now ttl = if ttl == 0 then 0 else min (now + ttl) (2 ^ 64 - 1)

-- a key without a byte, or longer than the configuration allows
abbrev pub is_bad_key : CacheConf → List ℕ → Bool
is_bad_key conf key = length key == 0 || nat_lt conf.keysize (length key)

-- a value longer than the configuration allows
abbrev pub is_too_long : CacheConf → List ℕ → Bool
is_too_long conf value = nat_lt (max_value conf) (length value)

-- the alive entry of a key
abbrev pub alive_at : CacheConf → List Entry → ℕ → List ℕ → Option Entry
alive_at conf list now key = find (λ e. bytes_eq e.key key && is_alive conf now e) list

-- the list without the entry of a key
abbrev pub without : List ℕ → List Entry → List Entry
without key list = filter (λ e. not (bytes_eq e.key key)) list

-- a refused call leaves the list
abbrev pub refused : Answer → List Entry → Outcome
refused answer list = record { answer = answer; list = list }

-- the value of an entry, as an answer
abbrev pub value_answer : Entry → Answer
value_answer e = answers.Value e.value

-- a get of the alive entry, which is a use: with `purge_lru` the entry becomes the most recent
abbrev pub got : CacheConf → List Entry → Option Entry → Outcome
got conf list None = record { answer = answers.Missing; list = list }
got conf list (Some e) =
    record { answer = value_answer e; list = if conf.purge_lru then e ∷ without e.key list else list }

-- an entry written in front of the list that has room for it, at the first run; refused as full where no list has
abbrev pub placed : CacheConf → List Entry → ℕ → List ℕ → List ℕ → ℕ → Answer → Option (List Entry) → Outcome
placed conf list now key value dies answered None = refused answers.Full list
placed conf list now key value dies answered (Some kept) = record {
  answer = answered;
  list = new_entry key value dies (unwrap_or (first_run conf kept (span conf value)) 0) now ∷ kept;
}

-- the value of a key written, in room made at this moment
abbrev pub written : CacheConf → List Entry → ℕ → List ℕ → List ℕ → ℕ → Answer → Outcome
written conf list now key value dies answered =
    placed conf list now key value dies answered (room conf (without key list) (span conf value) now)

-- the value of an alive entry is not one of eight bytes
abbrev pub is_no_number : Option Entry → Bool
is_no_number None = false
is_no_number (Some e) = not (length e.value == 8)

-- the number that a value of eight bytes stands for: little endian, in two's complement
abbrev pub number_of : List ℕ → ℤ
number_of value = cast_signed w64 (from_le_bytes w64 value)

-- the eight bytes that stand for a number
abbrev pub bytes_of_number : ℤ → List ℕ
bytes_of_number number = to_le_bytes w64 (cast_unsigned w64 number)

-- the number of an alive entry, 0 where there is none
abbrev pub number_at : Option Entry → ℤ
number_at None = pos 0
number_at (Some e) = number_of e.value

-- the result of a number call; a division goes toward zero
abbrev pub result_of : MathOp → ℤ → ℤ → ℤ
result_of ops.Inc number by = number +ℤ by
result_of ops.Dec number by = number -ℤ by
result_of ops.Mul number by = number *ℤ by
result_of ops.Div number by = int_div number by

-- a division by 0
abbrev pub is_zero_division : MathOp → ℤ → Bool
is_zero_division ops.Inc by = false
is_zero_division ops.Dec by = false
is_zero_division ops.Mul by = false
is_zero_division ops.Div by = is_zero by
  where
    is_zero : ℤ → Bool
    is_zero (pos n) = n == 0
    is_zero (negsuc n) = false

-- the number is one of 64 bits with a sign
abbrev pub is_in_range : ℤ → Bool
is_in_range (pos n) = nat_lt n (2 ^ 63)
is_in_range (negsuc n) = nat_lt n (2 ^ 63)

-- when the number that is written now dies: the moment of the alive entry stays where the time to live is 0
abbrev pub dies_of_number : ℕ → ℕ → Option Entry → ℕ
dies_of_number now ttl None = dies_at now ttl
dies_of_number now ttl (Some e) = if ttl == 0 then e.dies else dies_at now ttl

-- a number call that is not refused before its result is known
abbrev pub number_outcome : CacheConf → List Entry → ℕ → List ℕ → ℕ → Option Entry → ℤ → Outcome
number_outcome conf list now key ttl alive number =
    if not (is_in_range number) then refused answers.Range list
    else written conf list now key (bytes_of_number number) (dies_of_number now ttl alive) (answers.Number number)

-- the alive entry goes
abbrev pub deleted : List Entry → Option Entry → Outcome
deleted list None = record { answer = answers.Missing; list = list }
deleted list (Some e) = record { answer = answers.Done; list = without e.key list }

-- one row a call
abbrev pub outcome : CacheConf → List Entry → ℕ → Call → Outcome
outcome conf list now (calls.Get key) =
    if is_bad_key conf key then refused answers.KeyLength list
    else got conf list (alive_at conf list now key)
outcome conf list now (calls.Set key value ttl) =
    if is_bad_key conf key then refused answers.KeyLength list
    else (if is_too_long conf value then refused answers.TooLong list
    else (if is_some (alive_at conf list now key) then refused answers.Exists list
    else written conf list now key value (dies_at now ttl) answers.Done))
outcome conf list now (calls.Update key value ttl) =
    if is_bad_key conf key then refused answers.KeyLength list
    else (if is_too_long conf value then refused answers.TooLong list
    else written conf list now key value (dies_at now ttl) answers.Done)
outcome conf list now (calls.Del key) =
    if is_bad_key conf key then refused answers.KeyLength list
    else deleted list (alive_at conf list now key)
outcome conf list now (calls.Exists key) =
    if is_bad_key conf key then refused answers.KeyLength list
    else record { answer = answers.Flag (is_some (alive_at conf list now key)); list = list }
outcome conf list now calls.Clear = record { answer = answers.Done; list = [] }
outcome conf list now (calls.Num key) =
    if is_bad_key conf key then refused answers.KeyLength list
    else (if is_no_number (alive_at conf list now key) then refused answers.NotNumber list
    else record { answer = answers.Number (number_at (alive_at conf list now key)); list = list })
outcome conf list now (calls.Math op key by ttl) =
    if is_bad_key conf key then refused answers.KeyLength list
    else (if is_no_number (alive_at conf list now key) then refused answers.NotNumber list
    else (if is_zero_division op by then refused answers.ZeroDivisor list
    else number_outcome conf list now key ttl (alive_at conf list now key) (result_of op (number_at (alive_at conf list now key)) by)))
outcome conf list now calls.Keys = record { answer = answers.Keys (map (λ e. e.key) (alive_of conf now list)); list = list }
outcome conf list now calls.Sweep = record {
  answer = answers.Number (pos (length (filter (λ e. not (is_alive conf now e)) list)));
  list = alive_of conf now list;
}

-- the defined answer of a call
abbrev pub answer : CacheConf → List Entry → ℕ → Call → Answer
answer conf list now call = (outcome conf list now call).answer

-- the list after a call
abbrev pub next_state : CacheConf → List Entry → ℕ → Call → List Entry
next_state conf list now call = (outcome conf list now call).list
