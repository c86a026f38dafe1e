-- A part of a list of entries: some of them, in their order. What a policy leaves of a list is one, and keeps what holds of the list.
use Rattle.std.proofs.Common.{◌≡◌, ℕ, zero, suc, ◌≤◌, Bool, true, false, cond, List, [], ◌∷◌, length, take, filter, refl, arith}
use Rattle.std.specs.List.{list_all}
use Rattle.std.proofs.lemmas.Bool.{and_parts, and_from}
use Rattle.uw_model.specs.declared.conf.CacheConf.{CacheConf}
use Rattle.uw_model.specs.declared.entries.Entry.{Entry}
use Rattle.uw_model.specs.Entries.{IsApartFrom, AreApart, IsState}

pub data IsPart : List Entry → List Entry → Type 0 where
  end : IsPart [] []
  keeps : {e : Entry} {part list : List Entry} → IsPart part list → IsPart (e ∷ part) (e ∷ list)
  leaves : {e : Entry} {part list : List Entry} → IsPart part list → IsPart part (e ∷ list)

pub part_whole : (list : List Entry) → IsPart list list
part_whole [] = end
part_whole (e ∷ list) = keeps (part_whole list)

pub part_empty : (list : List Entry) → IsPart [] list
part_empty [] = end
part_empty (e ∷ list) = leaves (part_empty list)

part_cond : (b : Bool) (e : Entry) (part list : List Entry) → IsPart part list → IsPart (cond b (e ∷ part) part) (e ∷ list)
part_cond true e part list h = keeps h
part_cond false e part list h = leaves h

pub part_filter : (p : Entry → Bool) (list : List Entry) → IsPart (filter p list) list
part_filter p [] = end
part_filter p (e ∷ list) = part_cond (p e) e (filter p list) list (part_filter p list)

pub part_take : (n : ℕ) (list : List Entry) → IsPart (take n list) list
part_take zero list = part_empty list
part_take (suc n) [] = end
part_take (suc n) (e ∷ list) = keeps (part_take n list)

pub part_length : {part list : List Entry} → IsPart part list → length part ≤ length list
part_length end = omega arith
part_length (keeps h) = omega (arith, part_length h)
part_length (leaves h) = omega (arith, part_length h)

pub part_all : (p : Entry → Bool) {part list : List Entry} → IsPart part list → list_all p list ≡ true → list_all p part ≡ true
part_all p end all = refl
part_all p (keeps {e = e} {part = part} {list = list} h) all =
    let parts = and_parts (p e) (list_all p list) all in and_from (p e) (list_all p part) parts.0 (part_all p h parts.1)
part_all p (leaves {e = e} {part = part} {list = list} h) all = part_all p h (and_parts (p e) (list_all p list) all).1

pub part_apart_from : (conf : CacheConf) (o : Entry) {part list : List Entry} → IsPart part list → IsApartFrom conf o list → IsApartFrom conf o part
part_apart_from conf o end apart = tt
part_apart_from conf o (keeps h) apart = (apart.0, part_apart_from conf o h apart.1)
part_apart_from conf o (leaves h) apart = part_apart_from conf o h apart.1

pub part_apart : (conf : CacheConf) {part list : List Entry} → IsPart part list → AreApart conf list → AreApart conf part
part_apart conf end apart = tt
part_apart conf (keeps {e = e} h) apart = (apart.0, part_apart_from conf e h apart.1, part_apart conf h apart.2)
part_apart conf (leaves h) apart = part_apart conf h apart.2

-- a part of a state is a state
pub part_state : (conf : CacheConf) {part list : List Entry} → IsPart part list → IsState conf list → IsState conf part
part_state conf h state = record { few = omega (arith, part_length h, state.few); apart = part_apart conf h state.apart }
