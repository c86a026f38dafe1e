-- What room is made: a part of the list, in which the blocks fit. An empty list has room for every value that is not too long.
use Rattle.std.proofs.Common.{◌≡◌, ℕ, zero, suc, ◌+◌, ◌-◌, ◌*◌, ◌/◌, ◌<◌, ◌≤◌, max, nat_lt, Bool, true, false, ◌&&◌, ◌⊎◌, cond, List, [], ◌∷◌, length, take, Option, Some, None, is_some, refl, sym, ap, inl, inr, arith, ◌==◌, IsTrue, IsSomeAnd, ◌∙◌}
use Rattle.std.proofs.lemmas.Bool.{cases_Bool, and_parts, and_from, lt-ltb}
use Rattle.std.proofs.lemmas.Option.{none-some, same_Some}
use Rattle.std.proofs.lemmas.Nat.{div_below, mul-le}
use Rattle.std.proofs.lemmas.Bool.{cases_eq, or_left, or_right, and_right, cond-true, cond-false}
use Rattle.std.proofs.lemmas.List.{take_all}
use Rattle.uw_model.specs.Laws.{IsLongestFront}
use Rattle.uw_model.specs.declared.conf.CacheConf.{CacheConf}
use Rattle.uw_model.specs.declared.entries.Entry.{Entry}
use Rattle.uw_model.specs.Entries.{IsCacheConf, max_value, span}
use Rattle.uw_model.specs.Placement.{is_alive, first_run, fits, longest_front, alive_of, room}
use Rattle.uw_model.proofs.PartLemmas.{IsPart, part_whole, part_empty, part_filter, part_take}
use Rattle.uw_model.proofs.PlacementLemmas.{first_run_found}

-- a list that is left where n blocks have room
pub record IsRoom (conf : CacheConf) (list kept : List Entry) (n : ℕ) : Type 0 where
  pub part : IsPart kept list
  pub fits : fits conf kept n ≡ true

-- a choice between two options
pub cases_choice : {A : Type 0} (b : Bool) (x y : Option A) (z : A) → cond b x y ≡ Some z → ((b ≡ true) × (x ≡ Some z)) ⊎ ((b ≡ false) × (y ≡ Some z))
cases_choice true x y z e = inl (refl, e)
cases_choice false x y z e = inr (refl, e)

room_of : (conf : CacheConf) (list part kept : List Entry) (n : ℕ) → IsPart part list → fits conf part n ≡ true → Some part ≡ Some kept → IsRoom conf list kept n
room_of conf list part kept n is fit e = let same = same_Some part kept e in record { part = rw same at is; fits = rw same at fit }

front_is_room : (conf : CacheConf) (list kept : List Entry) (n count : ℕ) → longest_front conf list n count ≡ Some kept → IsRoom conf list kept n
unfolding longest_front
front_is_room conf list kept n zero e =
    elim (cases_choice (fits conf [] n) (Some []) None kept e) [
      | inl h ↦ room_of conf list [] kept n (part_empty list) h.0 h.1
      | inr h ↦ absurd (none-some kept h.1)
    ]
front_is_room conf list kept n (suc count) e =
    elim (cases_choice (fits conf (take (suc count) list) n) (Some (take (suc count) list)) (longest_front conf list n count) kept e) [
      | inl h ↦ room_of conf list (take (suc count) list) kept n (part_take (suc count) list) h.0 h.1
      | inr h ↦ front_is_room conf list kept n count h.1
    ]

-- the policies one by one, from the last
cleared_is : (conf : CacheConf) (list kept : List Entry) (n : ℕ) → fits conf [] n ≡ true → cond conf.clear_on_full (Some []) None ≡ Some kept → IsRoom conf list kept n
cleared_is conf list kept n empty e =
    elim (cases_choice conf.clear_on_full (Some []) None kept e) [
      | inl h ↦ room_of conf list [] kept n (part_empty list) empty h.1
      | inr h ↦ absurd (none-some kept h.1)
    ]

purged_is : (conf : CacheConf) (list kept : List Entry) (n : ℕ) → fits conf [] n ≡ true → cond (conf.purge_lru && is_some (longest_front conf list n (length list))) (longest_front conf list n (length list)) (cond conf.clear_on_full (Some []) None) ≡ Some kept → IsRoom conf list kept n
purged_is conf list kept n empty e =
    elim (cases_choice (conf.purge_lru && is_some (longest_front conf list n (length list))) (longest_front conf list n (length list)) (cond conf.clear_on_full (Some []) None) kept e) [
      | inl h ↦ front_is_room conf list kept n (length list) h.1
      | inr h ↦ cleared_is conf list kept n empty h.1
    ]

pub room_is : (conf : CacheConf) (list kept : List Entry) (n now : ℕ) → fits conf [] n ≡ true → room conf list n now ≡ Some kept → IsRoom conf list kept n
room_is conf list kept n now empty e =
    elim (cases_choice (fits conf list n) (Some list) _ kept e) [
      | inl h ↦ room_of conf list list kept n (part_whole list) h.0 h.1
      | inr h ↦ elim (cases_choice (conf.sweep_on_full && fits conf (alive_of conf now list) n) (Some (alive_of conf now list)) _ kept h.1) [
        | inl g ↦ room_of conf list (alive_of conf now list) kept n (part_filter (is_alive conf now) list) (and_parts conf.sweep_on_full (fits conf (alive_of conf now list) n) g.0).1 g.1
        | inr g ↦ purged_is conf list kept n empty g.1
      ]
    ]

-- a value that is not too long takes no more blocks than there are
span_below : (len blocksize blocks : ℕ) → 1 ≤ blocksize → 1 ≤ blocks → len ≤ blocks * blocksize → max 1 ((len + (blocksize - 1)) / blocksize) ≤ blocks
span_below len blocksize blocks some more short =
    let below : (len + (blocksize - 1)) / blocksize < blocks + 1 = div_below (len + (blocksize - 1)) blocksize (blocks + 1) some (omega arith) in
    omega arith

pub span_within : (conf : CacheConf) (value : List ℕ) → IsCacheConf conf → length value ≤ max_value conf → span conf value ≤ conf.blocks
span_within conf value is short =
    elim (cases_Bool conf.bitmap) [
      | inl set ↦ (let s = rw set at short in span_below (length value) conf.blocksize conf.blocks (omega (arith, is.blocksize.0)) is.blocks.0 (omega (arith, s)))
      | inr unset ↦ (let s = rw unset at short in let m = mul-le 1 conf.blocksize conf.blocks conf.blocksize is.blocks.0 (omega arith) in
          span_below (length value) conf.blocksize conf.blocks (omega (arith, is.blocksize.0)) is.blocks.0 (omega (arith, s, m)))
    ]

pub empty_fits : (conf : CacheConf) (n : ℕ) → IsCacheConf conf → n ≤ conf.blocks → fits conf [] n ≡ true
empty_fits conf n is within =
    and_from (nat_lt 0 conf.items) (is_some (first_run conf [] n)) (lt-ltb 0 conf.items (omega (arith, is.items.0))) (sym (ap is_some (first_run_found conf [] n 0 (omega arith) refl (λ k below. absurd (omega arith)))))

-- ---- a purge

-- the longest front of at most so many entries
record IsFrontUpTo (conf : CacheConf) (list : List Entry) (n count : ℕ) (front : List Entry) : Type 0 where
  size : ℕ
  within : size ≤ count
  same : front ≡ take size list
  room : fits conf front n ≡ true
  longest : (more : ℕ) → size < more → more ≤ count → fits conf (take more list) n ≡ false

front_here : (conf : CacheConf) (list : List Entry) (n count : ℕ) → fits conf (take count list) n ≡ true → IsFrontUpTo conf list n count (take count list)
front_here conf list n count fit = record { size = count; within = omega arith; same = refl; room = fit; longest = λ more above below. absurd (omega arith) }

front_below : (conf : CacheConf) (list : List Entry) (n count : ℕ) (front : List Entry) → fits conf (take (suc count) list) n ≡ false → IsFrontUpTo conf list n count front → IsFrontUpTo conf list n (suc count) front
front_below conf list n count front fails h = record {
  size = h.size;
  within = omega (arith, h.within);
  same = h.same;
  room = h.room;
  longest = λ more above below. elim (cases_eq more (suc count)) [ inl q ↦ rw q fails | inr apart ↦ h.longest more above (omega arith) ];
}

front_up_to : (conf : CacheConf) (list : List Entry) (n count : ℕ) → fits conf [] n ≡ true → (front : List Entry) × (longest_front conf list n count ≡ Some front) × IsFrontUpTo conf list n count front
unfolding longest_front
front_up_to conf list n zero empty = ([], rw empty refl, front_here conf list n 0 empty)
front_up_to conf list n (suc count) empty =
    elim (cases_Bool (fits conf (take (suc count) list) n)) [
      | inl fit ↦ (take (suc count) list, rw fit refl, front_here conf list n (suc count) fit)
      | inr fails ↦ (let h = front_up_to conf list n count empty in (h.0, rw fails h.1, front_below conf list n count h.0 fails h.2))
    ]

longest_of : (conf : CacheConf) (list : List Entry) (n : ℕ) (front : List Entry) → IsFrontUpTo conf list n (length list) front → IsLongestFront conf list n front
longest_of conf list n front h = record { count = h.size; within = h.within; same = h.same; room = h.room; longest = h.longest }

-- with `purge_lru` all entries are alive
all_alive : (conf : CacheConf) (now : ℕ) (list : List Entry) → conf.purge_lru ≡ true → alive_of conf now list ≡ list
all_alive conf now [] purges = refl
all_alive conf now (e ∷ list) purges =
    let alive : is_alive conf now e ≡ true = or_left _ (nat_lt now e.dies) (or_right (e.dies == 0) conf.purge_lru purges) in
    rw alive (ap (λ l. e ∷ l) (all_alive conf now list purges))

some_and : {A : Type 0} (o : Option A) (x : A) (P : A → Type 0) → o ≡ Some x → P x → IsSomeAnd o P
some_and o x P e h = rw e h

whole_front : (conf : CacheConf) (list : List Entry) (n : ℕ) → fits conf list n ≡ true → IsLongestFront conf list n list
whole_front conf list n fit = record {
  count = length list;
  within = omega arith;
  same = sym (take_all (length list) list (omega arith));
  room = fit;
  longest = λ more above below. absurd (omega arith);
}

purged_room : (conf : CacheConf) (list : List Entry) (n now : ℕ) (front : List Entry) → conf.purge_lru ≡ true → fits conf list n ≡ false → longest_front conf list n (length list) ≡ Some front → room conf list n now ≡ Some front
purged_room conf list n now front purges fails longest =
    let alive = alive_of conf now list in
    let cleared = cond conf.clear_on_full (Some []) None in
    let purged = cond (conf.purge_lru && is_some (longest_front conf list n (length list))) (longest_front conf list n (length list)) cleared in
    let swept = cond (conf.sweep_on_full && fits conf alive n) (Some alive) purged in
    cond-false (fits conf list n) (Some list) swept fails
    ∙ cond-false (conf.sweep_on_full && fits conf alive n) (Some alive) purged (and_right conf.sweep_on_full (fits conf alive n) (ap (λ l. fits conf l n) (all_alive conf now list purges) ∙ fails))
    ∙ cond-true (conf.purge_lru && is_some (longest_front conf list n (length list))) (longest_front conf list n (length list)) cleared (and_from conf.purge_lru (is_some (longest_front conf list n (length list))) purges (ap is_some longest))
    ∙ longest

pub purge_room : (conf : CacheConf) (list : List Entry) (n now : ℕ) → IsCacheConf conf → n ≤ conf.blocks → IsTrue conf.purge_lru → IsSomeAnd (room conf list n now) (IsLongestFront conf list n)
purge_room conf list n now is within purges =
    elim (cases_Bool (fits conf list n)) [
      | inl fit ↦ some_and (room conf list n now) list (IsLongestFront conf list n) (cond-true (fits conf list n) (Some list) _ fit) (whole_front conf list n fit)
      | inr fails ↦ (let h = front_up_to conf list n (length list) (empty_fits conf n is within) in
          some_and (room conf list n now) h.0 (IsLongestFront conf list n) (purged_room conf list n now h.0 purges fails h.1) (longest_of conf list n h.0 h.2))
    ]
