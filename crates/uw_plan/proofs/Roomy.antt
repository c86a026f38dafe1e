-- The policies one after the other, as room is made.
use Rattle.std.proofs.Common.{◌≡◌, ℕ, ◌==◌, ◌&&◌, nat_lt, Bool, true, false, cond, List, [], ◌∷◌, Option, Some, None, IfSome, MatchOption, is_some, unwrap_or, length, inl, inr, refl, sym, ap, ◌∙◌, subst}
use Rattle.std.proofs.lemmas.Bool.{and_from, and_parts, cases_Bool, cond-false, cond-true, lt-ltb, or_left, or_right}
use Rattle.uw_model.specs.declared.conf.CacheConf.{CacheConf}
use Rattle.uw_model.specs.declared.entries.Entry.{Entry}
use Rattle.uw_model.specs.Entries.{IsCacheConf}
use Rattle.uw_model.specs.Placement.{alive_of, first_run, fits, is_alive, longest_front, room}
use Rattle.uw_words.specs.Plans.{Plan}
use Rattle.uw_words.specs.Parts.{seen}
use Rattle.uw_recency.proofs.Lists.{one_list}
use Rattle.uw_plan.specs.Regions.{shape_of}
use Rattle.uw_plan.specs.Parts.{HoldEntries}
use Rattle.uw_plan.specs.Agreement.{AgreesAs}
use Rattle.uw_plan.specs.CallSteps.{HasSpareFor, Leaves}
use Rattle.uw_plan.specs.PolicySteps.{swept_where_set}
use Rattle.uw_plan.proofs.Agreeing.{entries_once}
use Rattle.uw_plan.proofs.Shapes.{shape_is}
use Rattle.uw_plan.proofs.OneByOne.{spare_left}

-- words agree with one list at most
pub one_list_agrees : (conf : CacheConf) → IsCacheConf conf → (reader : ℕ → ℕ) (items others : List ℕ) (list other : List Entry) → AgreesAs reader (shape_of conf) conf items list
    → AgreesAs reader (shape_of conf) conf others other → list ≡ other
one_list_agrees conf is reader items others list other one two =
    let same : items ≡ others = sym one.is ∙ one_list (shape_of conf) reader one.parts.items two.parts.items (shape_is conf is) one.held.recency two.held.recency ∙ two.is in
    entries_once reader (shape_of conf) others list other (subst (λ (l : List ℕ). HoldEntries reader (shape_of conf) l list) same one.entries) two.entries

-- what there is room for after entries left
pub spare_then : (conf : CacheConf) → IsCacheConf conf → (words : List ℕ) (before now : Plan) (items others : List ℕ) (list kept other : List Entry)
    → AgreesAs (seen before words) (shape_of conf) conf items list → HasSpareFor conf list 0 before → Leaves conf words before now list kept
    → AgreesAs (seen now words) (shape_of conf) conf others other → HasSpareFor conf other 0 now
spare_then conf is words before now items others list kept other agrees spare leaves then =
    subst (λ (l : List Entry). HasSpareFor conf l 0 now) (one_list_agrees conf is (seen now words) leaves.items others kept other leaves.agrees then)
    (spare_left conf is words before now items list kept agrees leaves spare)

-- what does not fit in the list that is left fits in none with which the words agree
pub full_then : (conf : CacheConf) → IsCacheConf conf → (words : List ℕ) (n : ℕ) (before now : Plan) (others : List ℕ) (list kept other : List Entry)
    → Leaves conf words before now list kept → fits conf kept n ≡ false → AgreesAs (seen now words) (shape_of conf) conf others other → fits conf other n ≡ false
full_then conf is words n before now others list kept other leaves full then =
    ap (λ (l : List Entry). fits conf l n) (sym (one_list_agrees conf is (seen now words) leaves.items others kept other leaves.agrees then)) ∙ full

-- with `purge_lru` all entries are alive
all_alive : (conf : CacheConf) (moment : ℕ) (list : List Entry) → conf.purge_lru ≡ true → alive_of conf moment list ≡ list
all_alive conf moment [] purges = refl
all_alive conf moment (e ∷ list) purges =
    let alive : is_alive conf moment e ≡ true = or_left _ (nat_lt moment e.dies) (or_right (e.dies == 0) conf.purge_lru purges) in
    rw alive (ap (λ (l : List Entry). e ∷ l) (all_alive conf moment list purges))

module _ (conf : CacheConf) (moment n : ℕ) (list : List Entry) where
  pub swept_is_all : conf.purge_lru ≡ true → swept_where_set conf moment list ≡ list
  swept_is_all purges = elim (cases_Bool conf.sweep_on_full) [
    | inl sweeps ↦ cond-true conf.sweep_on_full (alive_of conf moment list) list sweeps ∙ all_alive conf moment list purges
    | inr stays ↦ cond-false conf.sweep_on_full (alive_of conf moment list) list stays
  ]

  -- a purge of what a sweep left is one of the list
  pub same_purge : (conf.purge_lru && is_some (longest_front conf (swept_where_set conf moment list) n (length (swept_where_set conf moment list))))
      ≡ (conf.purge_lru && is_some (longest_front conf list n (length list)))
  same_purge = elim (cases_Bool conf.purge_lru) [
    | inl purges ↦ ap (λ (l : List Entry). conf.purge_lru && is_some (longest_front conf l n (length l))) (swept_is_all purges)
    | inr stays ↦ rw stays refl
  ]

  -- where neither the list nor what is alive of it has room
  pub swept_full : fits conf list n ≡ false → (conf.sweep_on_full && fits conf (alive_of conf moment list) n) ≡ false → fits conf (swept_where_set conf moment list) n ≡ false
  swept_full full dead = elim (cases_Bool conf.sweep_on_full) [
    | inl sweeps ↦ ap (λ (l : List Entry). fits conf l n) (cond-true conf.sweep_on_full (alive_of conf moment list) list sweeps) ∙ (rw sweeps at dead)
    | inr stays ↦ ap (λ (l : List Entry). fits conf l n) (cond-false conf.sweep_on_full (alive_of conf moment list) list stays) ∙ full
  ]

  pub swept_is_alive : (conf.sweep_on_full && fits conf (alive_of conf moment list) n) ≡ true → swept_where_set conf moment list ≡ alive_of conf moment list
  swept_is_alive room = cond-true conf.sweep_on_full (alive_of conf moment list) list (and_parts conf.sweep_on_full (fits conf (alive_of conf moment list) n) room).0

  -- the policies, one by one
  abbrev cleared : Option (List Entry)
  cleared = cond conf.clear_on_full (Some []) None

  abbrev purged : Option (List Entry)
  purged = cond (conf.purge_lru && is_some (longest_front conf list n (length list))) (longest_front conf list n (length list)) cleared

  abbrev swept : Option (List Entry)
  swept = cond (conf.sweep_on_full && fits conf (alive_of conf moment list) n) (Some (alive_of conf moment list)) purged

  pub room_as_it_is : fits conf list n ≡ true → room conf list n moment ≡ Some list
  room_as_it_is fit = cond-true (fits conf list n) (Some list) swept fit

  module _ (full : fits conf list n ≡ false) where
    pub room_swept : (conf.sweep_on_full && fits conf (alive_of conf moment list) n) ≡ true → room conf list n moment ≡ Some (alive_of conf moment list)
    room_swept fit =
        cond-false (fits conf list n) (Some list) swept full
        ∙ cond-true (conf.sweep_on_full && fits conf (alive_of conf moment list) n) (Some (alive_of conf moment list)) purged fit

    module _ (dead : (conf.sweep_on_full && fits conf (alive_of conf moment list) n) ≡ false) where
      room_then : room conf list n moment ≡ purged
      room_then =
          cond-false (fits conf list n) (Some list) swept full
          ∙ cond-false (conf.sweep_on_full && fits conf (alive_of conf moment list) n) (Some (alive_of conf moment list)) purged dead

      pub room_purged : (front : List Entry) → conf.purge_lru ≡ true
          → longest_front conf (swept_where_set conf moment list) n (length (swept_where_set conf moment list)) ≡ Some front → room conf list n moment ≡ Some front
      room_purged front purges longest =
          let here : longest_front conf list n (length list) ≡ Some front =
          ap (λ (l : List Entry). longest_front conf l n (length l)) (sym (swept_is_all purges)) ∙ longest in
          room_then
          ∙ cond-true (conf.purge_lru && is_some (longest_front conf list n (length list))) (longest_front conf list n (length list)) cleared
          (and_from conf.purge_lru (is_some (longest_front conf list n (length list))) purges (ap is_some here))
          ∙ here

      module _ (stays : (conf.purge_lru && is_some (longest_front conf (swept_where_set conf moment list) n (length (swept_where_set conf moment list)))) ≡ false) where
        room_last : room conf list n moment ≡ cleared
        room_last =
            room_then
            ∙ cond-false (conf.purge_lru && is_some (longest_front conf list n (length list))) (longest_front conf list n (length list)) cleared (sym same_purge ∙ stays)

        pub room_cleared : conf.clear_on_full ≡ true → room conf list n moment ≡ Some []
        room_cleared clears = room_last ∙ cond-true conf.clear_on_full (Some []) None clears

        pub room_nowhere : conf.clear_on_full ≡ false → room conf list n moment ≡ None
        room_nowhere keeps = room_last ∙ cond-false conf.clear_on_full (Some []) None keeps

-- the first run in the empty list, by what is said of it where there is room
pub run_when_empty : (conf : CacheConf) → IsCacheConf conf → (n : ℕ) (run : Option ℕ) → is_some run ≡ fits conf [] n → IfSome run (λ first. first_run conf [] n ≡ Some first)
    → unwrap_or (first_run conf [] n) 0 ≡ unwrap_or run 0
run_when_empty conf is n None fit here = none_first (first_run conf [] n) (sym (and_with (nat_lt 0 conf.items) (is_some (first_run conf [] n)) (lt-ltb 0 conf.items is.items.0)) ∙ sym fit)
  where
    and_with : (a b : Bool) → a ≡ true → (a && b) ≡ b
    and_with a b e = rw e refl

    none_first : (run : Option ℕ) → is_some run ≡ false → unwrap_or run 0 ≡ 0
    none_first None none = refl
    none_first (Some first) none = absurd (let no : ⊥ = cc in no)
run_when_empty conf is n (Some first) fit here = ap (λ (o : Option ℕ). unwrap_or o 0) here

-- from what is said of an option, something else
pub matched : {P Q : Type 0} {R S : ℕ → Type 0} (o : Option ℕ) → (P → Q) → ((first : ℕ) → R first → S first) → MatchOption o P R → MatchOption o Q S
matched None none some here = none here
matched (Some first) none some here = some first here
