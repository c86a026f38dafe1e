-- What a packet of modifier1 111 asks of a cache, or why it asks nothing (own rule).
use Rattle.std.specs.Prelude.{ℕ, ◌==◌, nat_lt, if◌then◌else◌, List, [], length, take, slice_index_or, Option, None, Some, Result, Ok, Err, codes, ◌≡◌, ◌⊎◌, ℤ, pos}
use Rattle.std.specs.List.{position_from}
use Rattle.std.specs.Str.{bytes_eq}
use Rattle.uw_base.specs.Numbers.{decimal_of, signed_of}
use Rattle.uw_base.specs.declared.variables.Pair.{Pair}
use Rattle.uw_base.specs.Variables.{value_of}
use Rattle.uw_packet.specs.Blocks.{array_read, array_of, vars_read}
use Rattle.uw_model.specs.declared.asks.Ask.{Ask}
use Rattle.uw_model.specs.declared.calls.Call.{Call}
use Rattle.uw_model.specs.declared.asks.Ask.TheVariants as asks
use Rattle.uw_model.specs.declared.calls.MathOp.TheVariants as ops
use Rattle.uw_cachecmd.specs.declared.commands.Kind.{Kind}
use Rattle.uw_cachecmd.specs.declared.commands.Kind.TheVariants as kinds
use Rattle.uw_model.specs.declared.calls.Call.TheVariants as calls
use Rattle.uw_cachecmd.specs.declared.commands.CmdFault.{CmdFault}
use Rattle.uw_cachecmd.specs.declared.commands.CmdFault.TheVariants as faults

-- the number of the cache of a name: the first one of that name, or the first configured one where the name is empty
abbrev pub cache_of : List (List ℕ) → List ℕ → Option ℕ
cache_of names name =
    if length name == 0 then (if length names == 0 then None else Some 0)
    else position_from (λ other. bytes_eq other name) 0 names

-- the seconds that a text gives: 0 where it is empty
abbrev pub seconds_of : List ℕ → Option ℕ
seconds_of text = if length text == 0 then Some 0 else decimal_of text

-- a call of the cache, if there is one
abbrev pub asked : Option ℕ → Call → Result Ask CmdFault
asked None call = Err faults.UnknownCache
asked (Some cache) call = Ok (asks.Cache cache call)

-- a set in the cache, if there is one and the seconds can be read
abbrev pub set_asked : Option ℕ → Option ℕ → List ℕ → List ℕ → Result Ask CmdFault
set_asked None seconds key value = Err faults.UnknownCache
set_asked (Some cache) None key value = Err faults.BadNumber
set_asked (Some cache) (Some ttl) key value = Ok (asks.Cache cache (calls.Set key value ttl))

-- the texts of a set: key, value, and where they are given the seconds and the cache's name; fewer or more break the block, fewer at its end, more where the fifth begins
abbrev pub set_of : List (List ℕ) → List ℕ → Result (List (List ℕ)) ℕ → Result Ask CmdFault
set_of names block (Err at) = Err (faults.BadBlock at)
set_of names block (Ok texts) =
    if nat_lt (length texts) 2 then Err (faults.BadBlock (length block))
    else (if nat_lt 4 (length texts) then Err (faults.BadBlock (length (array_of (take 4 texts))))
    else set_asked (cache_of names (slice_index_or texts 3 [])) (seconds_of (slice_index_or texts 2 [])) (slice_index_or texts 0 []) (slice_index_or texts 1 []))

-- what a text commands
abbrev pub kind_of : List ℕ → Option Kind
kind_of text =
    if bytes_eq text (codes "get") then Some kinds.Get
    else (if bytes_eq text (codes "set") then Some kinds.Set
    else (if bytes_eq text (codes "update") then Some kinds.Update
    else (if bytes_eq text (codes "del") then Some kinds.Del
    else (if bytes_eq text (codes "exists") then Some kinds.Exists
    else (if bytes_eq text (codes "clear") then Some kinds.Clear
    else (if bytes_eq text (codes "num") then Some kinds.Num
    else (if bytes_eq text (codes "inc") then Some (kinds.Math ops.Inc)
    else (if bytes_eq text (codes "dec") then Some (kinds.Math ops.Dec)
    else (if bytes_eq text (codes "mul") then Some (kinds.Math ops.Mul)
    else (if bytes_eq text (codes "div") then Some (kinds.Math ops.Div)
    else (if bytes_eq text (codes "keys") then Some kinds.Keys
    else (if bytes_eq text (codes "sweep") then Some kinds.Sweep
    else None))))))))))))

-- the call of a command
abbrev pub call_of : Kind → List ℕ → List ℕ → ℕ → ℤ → Call
call_of kinds.Get key value ttl by = calls.Get key
call_of kinds.Set key value ttl by = calls.Set key value ttl
call_of kinds.Update key value ttl by = calls.Update key value ttl
call_of kinds.Del key value ttl by = calls.Del key
call_of kinds.Exists key value ttl by = calls.Exists key
call_of kinds.Clear key value ttl by = calls.Clear
call_of kinds.Num key value ttl by = calls.Num key
call_of (kinds.Math op) key value ttl by = calls.Math op key by ttl
call_of kinds.Keys key value ttl by = calls.Keys
call_of kinds.Sweep key value ttl by = calls.Sweep

-- the amount that a text gives: 1 where it is empty
abbrev pub amount_of : List ℕ → Option ℤ
amount_of text = if length text == 0 then Some (pos 1) else signed_of text

-- a command's ask; a command that is none comes before a cache that is none, and that before numbers that cannot be read
abbrev pub commanded : Option Kind → Option ℕ → Option ℕ → Option ℤ → List ℕ → List ℕ → Result Ask CmdFault
commanded None cache seconds amount key value = Err faults.UnknownCommand
commanded (Some kind) None seconds amount key value = Err faults.UnknownCache
commanded (Some kind) (Some cache) None amount key value = Err faults.BadNumber
commanded (Some kind) (Some cache) (Some ttl) None key value = Err faults.BadNumber
commanded (Some kind) (Some cache) (Some ttl) (Some by) key value = Ok (asks.Cache cache (call_of kind key value ttl by))

-- the variables of a command block; other variables are passed over
abbrev pub command_block_ask : List (List ℕ) → Result (List Pair) ℕ → Result Ask CmdFault
command_block_ask names (Err at) = Err (faults.BadBlock at)
command_block_ask names (Ok pairs) = commanded
    (kind_of (value_of pairs (codes "cmd")))
    (cache_of names (value_of pairs (codes "cache")))
    (seconds_of (value_of pairs (codes "expires")))
    (amount_of (value_of pairs (codes "amount")))
    (value_of pairs (codes "key"))
    (value_of pairs (codes "value"))

-- the ask of a block, by its modifier2: a get, a set, a del or a command block
abbrev pub ask_of : ℕ → List ℕ → List (List ℕ) → Result Ask CmdFault
ask_of m2 block names =
    if m2 == 0 then asked (cache_of names []) (calls.Get block)
    else (if m2 == 1 then set_of names block (array_read block)
    else (if m2 == 2 then asked (cache_of names []) (calls.Del block)
    else command_block_ask names (vars_read block)))

-- the values of modifier2 that ask a cache
abbrev pub IsCacheModifier : ℕ → Type 0
IsCacheModifier m2 = (m2 ≡ 0) ⊎ (m2 ≡ 1) ⊎ (m2 ≡ 2) ⊎ (m2 ≡ 200)
