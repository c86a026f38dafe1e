-- The list without a key, where no entry has it and where one has.
use Rattle.std.proofs.Common.{◌≡◌, ℕ, zero, suc, ◌<◌, Bool, true, false, not, cond, List, [], ◌∷◌, length, get_or, filter, remove, Option, Some, None, is_some, MatchOption, refl, sym, ap, ◌∙◌, arith}
use Rattle.std.specs.List.{list_all}
use Rattle.std.specs.Str.{bytes_eq}
use Rattle.std.proofs.lemmas.Slice.Eq.{bytes_eq-Decides}
use Rattle.std.proofs.lemmas.Bool.{cond-false, and_parts, not-true, false_from_ne_true, both_ways}
use Rattle.std.proofs.lemmas.List.Recursion.{and_at}
use Rattle.uw_model.specs.declared.conf.CacheConf.{CacheConf}
use Rattle.uw_model.specs.declared.entries.Entry.{Entry}
use Rattle.uw_model.specs.Entries.{new_entry}
use Rattle.uw_model.specs.Placement.{is_alive}
use Rattle.uw_model.specs.declared.calls.Call.TheVariants as calls
use Rattle.uw_model.specs.declared.calls.Answer.TheVariants as answers
use Rattle.uw_model.specs.Calls.{refused, is_bad_key, without, alive_at, got, deleted, next_state}
use Rattle.uw_model.specs.KeySteps.{lacks, HaveOwnKeys, IsPlaceOf, IsAlivePlace}

-- a test that all pass keeps the whole list
pub filter_whole : {X : Type 0} (p : X → Bool) (xs : List X) → list_all p xs ≡ true → filter p xs ≡ xs
filter_whole p [] all = refl
filter_whole p (x ∷ xs) all =
    let parts = and_parts (p x) (list_all p xs) all in
    rw parts.0 (ap (λ l. x ∷ l) (filter_whole p xs parts.1))

pub same_key : (k : List ℕ) → bytes_eq k k ≡ true
same_key k = (bytes_eq-Decides k k).1 refl

-- what passes at all elements passes at one
pub list_all_each : {X : Type 0} (p : X → Bool) (xs : List X) (i : ℕ) (d : X) → i < length xs → list_all p xs ≡ true → p (get_or xs i d) ≡ true
list_all_each p xs i d within all = and_at (list_all p) p refl (λ _ _. refl) xs i d within all

pub other_key : (a b : List ℕ) → bytes_eq a b ≡ false → bytes_eq b a ≡ false
other_key a b differs =
    false_from_ne_true (bytes_eq b a) (λ same. both_ways (bytes_eq a b) differs ((bytes_eq-Decides a b).1 (sym ((bytes_eq-Decides b a).0 same))))

-- where no two entries have one key, the list without the key of one is the list without that one
without_itself : (list : List Entry) (place : ℕ) (d : Entry) → HaveOwnKeys list → place < length list → without (get_or list place d).key list ≡ remove list place
without_itself [] place d own within = absurd (omega arith)
without_itself (e ∷ list) zero d own within =
    rw (same_key e.key) (filter_whole (λ o. not (bytes_eq o.key e.key)) list own.0)
without_itself (e ∷ list) (suc place) d own within =
    let here : place < length list = omega arith in
    let x = get_or list place d in
    let apart : bytes_eq e.key x.key ≡ false = other_key x.key e.key (not-true (bytes_eq x.key e.key) (list_all_each (λ o. not (bytes_eq o.key e.key)) list place d here own.0)) in
    rw apart (ap (λ l. e ∷ l) (without_itself list place d own.1 here))

pub without_at : (list : List Entry) (key : List ℕ) (place : ℕ) → HaveOwnKeys list → IsPlaceOf list key place → (d : Entry) → without key list ≡ remove list place
without_at list key place own is d = ap (λ k. without k list) (sym (is.same d)) ∙ without_itself list place d own is.within

pub without_none : (list : List Entry) (key : List ℕ) → lacks key list ≡ true → without key list ≡ list
without_none list key none = filter_whole (λ e. not (bytes_eq e.key key)) list none

-- the alive entry of a key, where no entry has the key and where one has
pub alive_none : (conf : CacheConf) (now : ℕ) (list : List Entry) (key : List ℕ) → lacks key list ≡ true → alive_at conf list now key ≡ None
alive_none conf now [] key none = refl
alive_none conf now (e ∷ list) key none =
    let parts = and_parts (not (bytes_eq e.key key)) (lacks key list) none in
    rw (not-true (bytes_eq e.key key) parts.0) (alive_none conf now list key parts.1)

alive_itself : (conf : CacheConf) (now : ℕ) (list : List Entry) (place : ℕ) (d : Entry) → HaveOwnKeys list → place < length list → alive_at conf list now (get_or list place d).key ≡ cond (is_alive conf now (get_or list place d)) (Some (get_or list place d)) None
alive_itself conf now [] place d own within = absurd (omega arith)
alive_itself conf now (e ∷ list) zero d own within =
    rw (same_key e.key, alive_none conf now list e.key own.0) refl
alive_itself conf now (e ∷ list) (suc place) d own within =
    let here : place < length list = omega arith in
    let x = get_or list place d in
    let apart : bytes_eq e.key x.key ≡ false = other_key x.key e.key (not-true (bytes_eq x.key e.key) (list_all_each (λ o. not (bytes_eq o.key e.key)) list place d here own.0)) in
    rw apart (alive_itself conf now list place d own.1 here)

pub alive_place : (conf : CacheConf) (now : ℕ) (list : List Entry) (key : List ℕ) (place : ℕ) → HaveOwnKeys list → IsPlaceOf list key place → (d : Entry) → alive_at conf list now key ≡ cond (is_alive conf now (get_or list place d)) (Some (get_or list place d)) None
alive_place conf now list key place own is d = ap (alive_at conf list now) (sym (is.same d)) ∙ alive_itself conf now list place d own is.within

-- the list after a use of the entry at a place
pub used_at : (conf : CacheConf) (list : List Entry) (place : ℕ) (d : Entry) → HaveOwnKeys list → place < length list → conf.purge_lru ≡ true → get_or list place d ∷ remove list place ≡ (got conf list (Some (get_or list place d))).list
used_at conf list place d own within purges = rw purges (ap (λ l. get_or list place d ∷ l) (sym (without_itself list place d own within)))

-- there is an alive entry where it has a place
pub nothing : Entry
nothing = new_entry [] [] 0 0 0

pub is_some_place : (conf : CacheConf) (list : List Entry) (now : ℕ) (key : List ℕ) (place : Option ℕ) → MatchOption place (alive_at conf list now key ≡ None) (IsAlivePlace conf list now key) → is_some place ≡ is_some (alive_at conf list now key)
is_some_place conf list now key None h = sym (ap is_some h)
is_some_place conf list now key (Some place) h = sym (ap is_some (h.found nothing))

-- the list after the removal of the entry at a place
pub deleted_at : (conf : CacheConf) (list : List Entry) (now : ℕ) (key : List ℕ) (place : ℕ) → is_bad_key conf key ≡ false → HaveOwnKeys list → IsAlivePlace conf list now key place → remove list place ≡ next_state conf list now (calls.Del key)
deleted_at conf list now key place good own is =
    sym (ap (λ o. o.list) (cond-false (is_bad_key conf key) (refused answers.KeyLength list) (deleted list (alive_at conf list now key)) good ∙ ap (deleted list) (is.found nothing))
    ∙ without_itself list place nothing own is.within)
