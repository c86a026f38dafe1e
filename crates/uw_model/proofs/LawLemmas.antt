-- The laws of the definitions.
use Rattle.std.proofs.Common.{◌≡◌, ◌≢◌, ℕ, ◌+◌, ◌-◌, ◌<◌, ◌≤◌, ◌==◌, ◌||◌, nat_lt, max, Bool, true, false, not, ◌&&◌, ◌⊎◌, ◌↔◌, cond, List, ◌∷◌, get_or, All, Option, Some, None, is_some, unwrap_or, IsTrue, refl, sym, ap, ◌∙◌, arith}
use Rattle.std.specs.List.{list_all}
use Rattle.std.specs.Str.{bytes_eq}
use Rattle.std.proofs.lemmas.Bool.{or_left, or_right, true_from_ne_false, false≢true, both_ways, and_from, cond-true, cond-false}
use Rattle.std.proofs.lemmas.Bool.Decides.{nat_tests}
use Rattle.std.proofs.lemmas.List.Recursion.{and_from_places}
use Rattle.uw_model.specs.declared.conf.CacheConf.{CacheConf}
use Rattle.uw_model.specs.declared.entries.Entry.{Entry}
use Rattle.uw_model.specs.declared.calls.Call.{Call}
use Rattle.uw_model.specs.declared.calls.Answer.{Answer}
use Rattle.uw_model.specs.declared.calls.Call.TheVariants as calls
use Rattle.uw_model.specs.declared.calls.Answer.TheVariants as answers
use Rattle.uw_model.specs.Entries.{new_entry, span, covers}
use Rattle.uw_model.specs.Placement.{is_alive, is_clear_of, is_free, first_run, room}
use Rattle.uw_model.specs.Calls.{Outcome, refused, is_bad_key, is_too_long, alive_at, without, value_answer, got, placed, deleted, is_no_number, number_at, result_of, is_zero_division, is_in_range, bytes_of_number, dies_of_number, answer, next_state, dies_at}
use Rattle.uw_model.specs.Laws.{is_refusal, IsLeastRun}
use Rattle.uw_model.proofs.KeysLemmas.{nothing, list_all_each, same_key}
use Rattle.uw_model.proofs.PlacementLemmas.{least_place_is, least_place_none, least_place_nowhere, first_run_found}

-- ---- runs

abbrev NoneCovered : CacheConf → ℕ → ℕ → Entry → Type 0
NoneCovered conf n place e = (block : ℕ) → place ≤ block → block < place + n → covers conf e block → ⊥

clear_covers : (conf : CacheConf) (n place : ℕ) (e : Entry) → is_clear_of conf place n e ≡ true → NoneCovered conf n place e
clear_covers conf n place e clear block from below covered = grind (arith, nat_tests)

-- the later of two numbers is a block that both cover
blocked_covers : (conf : CacheConf) (n place : ℕ) (e : Entry) → 1 ≤ n → is_clear_of conf place n e ≡ false → NoneCovered conf n place e → ⊥
blocked_covers conf n place e some blocked none =
    let ahead : place < e.first + span conf e.value = grind (arith, nat_tests) in
    let behind : e.first < place + n = grind (arith, nat_tests) in
    none (max e.first place) (omega arith) (omega arith) (omega arith, omega arith)

pub free_covered : (conf : CacheConf) (list : List Entry) (n place : ℕ) → 1 ≤ n → IsTrue (is_free conf list n place) ↔ All (λ e. (block : ℕ) → place ≤ block → block < place + n → covers conf e block → ⊥) list
free_covered conf list n place some = (
  λ free k d within. clear_covers conf n place (get_or list k d) (list_all_each (is_clear_of conf place n) list k d within free),
  λ none. and_from_places (list_all (is_clear_of conf place n)) (is_clear_of conf place n) refl (λ _ _. refl) list nothing (λ i within.
      true_from_ne_false (is_clear_of conf place n (get_or list i nothing)) (λ blocked. blocked_covers conf n place (get_or list i nothing) some blocked (none i nothing within))),
)

pub least_run : (conf : CacheConf) (list : List Entry) (n place : ℕ) → (first_run conf list n ≡ Some place) ↔ IsLeastRun conf list n place
least_run conf list n place = (
  λ e. let least = least_place_is (is_free conf list n) (conf.blocks + 1 - n) 0 place e in
      record { within = omega (arith, least.below); free = least.holds; least = λ before below. least.before before (omega arith) below },
  λ h. sym (first_run_found conf list n place h.within h.free h.least),
)

pub no_run : (conf : CacheConf) (list : List Entry) (n : ℕ) → (first_run conf list n ≡ None) ↔ ((place : ℕ) → place + n ≤ conf.blocks → is_free conf list n place ≡ false)
no_run conf list n = (
  λ e place within. least_place_none (is_free conf list n) (conf.blocks + 1 - n) 0 e place (omega arith) (omega arith),
  λ h. least_place_nowhere (is_free conf list n) (conf.blocks + 1 - n) 0 (λ k _ below. h k (omega arith)),
)

-- ---- calls

-- a refusing outcome has the list
abbrev Keeps : List Entry → Outcome → Type 0
Keeps list o = IsTrue (is_refusal o.answer) → o.list ≡ list

unless_keeps : (list : List Entry) (refuses : Bool) (answer : Answer) (rest : Outcome) → Keeps list rest → Keeps list (cond refuses (refused answer list) rest)
unless_keeps list true answer rest go = λ _. refl
unless_keeps list false answer rest go = go

got_keeps : (conf : CacheConf) (list : List Entry) (found : Option Entry) → Keeps list (got conf list found)
got_keeps conf list None = λ _. refl
got_keeps conf list (Some e) = λ h. absurd (false≢true h)

placed_keeps : (conf : CacheConf) (list : List Entry) (now : ℕ) (key value : List ℕ) (dies : ℕ) (answered : Answer) (kept : Option (List Entry)) → is_refusal answered ≡ false → Keeps list (placed conf list now key value dies answered kept)
placed_keeps conf list now key value dies answered None done = λ _. refl
placed_keeps conf list now key value dies answered (Some kept) done = λ h. absurd (both_ways (is_refusal answered) done h)

deleted_keeps : (list : List Entry) (found : Option Entry) → Keeps list (deleted list found)
deleted_keeps list None = λ _. refl
deleted_keeps list (Some e) = λ h. absurd (false≢true h)

pub refused_keeps : (conf : CacheConf) (list : List Entry) (now : ℕ) (call : Call) → IsTrue (is_refusal (answer conf list now call)) → next_state conf list now call ≡ list
refused_keeps conf list now (calls.Get key) =
    unless_keeps list (is_bad_key conf key) answers.KeyLength _ (got_keeps conf list (alive_at conf list now key))
refused_keeps conf list now (calls.Set key value ttl) =
    unless_keeps list (is_bad_key conf key) answers.KeyLength _ (
    unless_keeps list (is_too_long conf value) answers.TooLong _ (
    unless_keeps list (is_some (alive_at conf list now key)) answers.Exists _ (
    placed_keeps conf list now key value (dies_at now ttl) answers.Done (room conf (without key list) (span conf value) now) refl)))
refused_keeps conf list now (calls.Update key value ttl) =
    unless_keeps list (is_bad_key conf key) answers.KeyLength _ (
    unless_keeps list (is_too_long conf value) answers.TooLong _ (
    placed_keeps conf list now key value (dies_at now ttl) answers.Done (room conf (without key list) (span conf value) now) refl))
refused_keeps conf list now (calls.Del key) =
    unless_keeps list (is_bad_key conf key) answers.KeyLength _ (deleted_keeps list (alive_at conf list now key))
refused_keeps conf list now (calls.Exists key) = unless_keeps list (is_bad_key conf key) answers.KeyLength _ (λ _. refl)
refused_keeps conf list now calls.Clear = λ h. absurd (false≢true h)
refused_keeps conf list now (calls.Num key) =
    unless_keeps list (is_bad_key conf key) answers.KeyLength _ (
    unless_keeps list (is_no_number (alive_at conf list now key)) answers.NotNumber _ (λ _. refl))
refused_keeps conf list now (calls.Math op key by ttl) =
    let alive = alive_at conf list now key in
    let number = result_of op (number_at alive) by in
    unless_keeps list (is_bad_key conf key) answers.KeyLength _ (
    unless_keeps list (is_no_number alive) answers.NotNumber _ (
    unless_keeps list (is_zero_division op by) answers.ZeroDivisor _ (
    unless_keeps list (not (is_in_range number)) answers.Range _ (
    placed_keeps conf list now key (bytes_of_number number) (dies_of_number now ttl alive) (answers.Number number) (room conf (without key list) (span conf (bytes_of_number number)) now) refl))))
refused_keeps conf list now calls.Keys = λ _. refl
refused_keeps conf list now calls.Sweep = λ h. absurd (false≢true h)

-- after an outcome that is done, the key has the value at that moment
abbrev Reads : CacheConf → ℕ → List ℕ → List ℕ → Outcome → Type 0
Reads conf later key value o = o.answer ≡ answers.Done → answer conf o.list later (calls.Get key) ≡ answers.Value value

unless_reads : (conf : CacheConf) (later : ℕ) (key value : List ℕ) (list : List Entry) (refuses : Bool) (answer : Answer) (rest : Outcome) → answer ≢ answers.Done → (refuses ≡ false → Reads conf later key value rest) → Reads conf later key value (cond refuses (refused answer list) rest)
unless_reads conf later key value list true answer rest other go = λ e. absurd (other e)
unless_reads conf later key value list false answer rest other go = go refl

pub front_alive : (conf : CacheConf) (new : Entry) (kept : List Entry) (later : ℕ) → is_alive conf later new ≡ true → alive_at conf (new ∷ kept) later new.key ≡ Some new
front_alive conf new kept later alive =
    cond-true (bytes_eq new.key new.key && is_alive conf later new) (Some new) (alive_at conf kept later new.key) (and_from (bytes_eq new.key new.key) (is_alive conf later new) (same_key new.key) alive)

front_read : (conf : CacheConf) (new : Entry) (kept : List Entry) (later : ℕ) → is_bad_key conf new.key ≡ false → is_alive conf later new ≡ true → answer conf (new ∷ kept) later (calls.Get new.key) ≡ value_answer new
front_read conf new kept later good alive =
    ap (λ o. o.answer) (cond-false (is_bad_key conf new.key) (refused answers.KeyLength (new ∷ kept)) (got conf (new ∷ kept) (alive_at conf (new ∷ kept) later new.key)) good
    ∙ ap (got conf (new ∷ kept)) (front_alive conf new kept later alive))

pub alive_before : (conf : CacheConf) (e : Entry) (later : ℕ) → (e.dies ≡ 0) ⊎ (later < e.dies) → is_alive conf later e ≡ true
alive_before conf e later before = grind (arith, nat_tests)

placed_reads : (conf : CacheConf) (later now : ℕ) (list : List Entry) (key value : List ℕ) (dies : ℕ) (kept : Option (List Entry)) → is_bad_key conf key ≡ false → ((e : Entry) → e.dies ≡ dies → is_alive conf later e ≡ true) → Reads conf later key value (placed conf list now key value dies answers.Done kept)
placed_reads conf later now list key value dies None good alive = λ e. absurd (cc)
placed_reads conf later now list key value dies (Some kept) good alive = λ _.
    let new = new_entry key value dies (unwrap_or (first_run conf kept (span conf value)) 0) now in
    front_read conf new kept later good (alive new refl)

-- what a set wrote is read, at a moment at which each entry that dies when it does is alive
set_reads_alive : (conf : CacheConf) (list : List Entry) (now later ttl : ℕ) (key value : List ℕ) → answer conf list now (calls.Set key value ttl) ≡ answers.Done → ((e : Entry) → e.dies ≡ dies_at now ttl → is_alive conf later e ≡ true) → answer conf (next_state conf list now (calls.Set key value ttl)) later (calls.Get key) ≡ answers.Value value
set_reads_alive conf list now later ttl key value done alive =
    (unless_reads conf later key value list (is_bad_key conf key) answers.KeyLength _ (λ e. absurd (cc)) (λ good.
    unless_reads conf later key value list (is_too_long conf value) answers.TooLong _ (λ e. absurd (cc)) (λ _.
    unless_reads conf later key value list (is_some (alive_at conf list now key)) answers.Exists _ (λ e. absurd (cc)) (λ _.
    placed_reads conf later now list key value (dies_at now ttl) (room conf (without key list) (span conf value) now) good alive)))) done

pub set_reads : (conf : CacheConf) (list : List Entry) (now later ttl : ℕ) (key value : List ℕ) → answer conf list now (calls.Set key value ttl) ≡ answers.Done → (dies_at now ttl ≡ 0) ⊎ (later < dies_at now ttl) → answer conf (next_state conf list now (calls.Set key value ttl)) later (calls.Get key) ≡ answers.Value value
set_reads conf list now later ttl key value done before =
    set_reads_alive conf list now later ttl key value done (λ e same. alive_before conf e later (rw same before))

pub set_reads_always : (conf : CacheConf) (list : List Entry) (now later ttl : ℕ) (key value : List ℕ) → IsTrue conf.purge_lru → answer conf list now (calls.Set key value ttl) ≡ answers.Done → answer conf (next_state conf list now (calls.Set key value ttl)) later (calls.Get key) ≡ answers.Value value
set_reads_always conf list now later ttl key value purges done =
    set_reads_alive conf list now later ttl key value done (λ e _. or_left (e.dies == 0 || conf.purge_lru) (nat_lt later e.dies) (or_right (e.dies == 0) conf.purge_lru purges))
