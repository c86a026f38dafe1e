-- What the words stand for while the writes of a right list are made.
use Rattle.std.proofs.Common.{◌≡◌, ◌≢◌, ◌⊎◌, inl, inr, ⊎_elim, ℕ, suc, ◌+◌, ◌-◌, ◌<◌, ◌≤◌, All, Bool, true, false, cond, ◌||◌, List, [], ◌∷◌, ◌++◌, length}
use Rattle.std.proofs.Common.{map, get_or, take, drop, refl, sym, ap, ◌∙◌, subst, arith, append_assoc}
use Rattle.std.proofs.Math.Seq.{take-append-add}
use Rattle.std.proofs.lemmas.Bool.{cases_lt}
use Rattle.std.proofs.lemmas.Bool.Decides.{nat_tests}
use Rattle.std.proofs.lemmas.List.{length-append, take-append-le, take_all, get_or-set_same, ext_get_or}
use Rattle.std.proofs.lemmas.List.Elements.{All-take}
use Rattle.std.proofs.lemmas.List.Folds.{list_any-append, list_any_none}
use Rattle.uw_words.specs.Plans.{region}
use Rattle.uw_words.specs.Numbers.{IsOneOf}
use Rattle.uw_intent.specs.declared.frame.WordWrite.{WordWrite}
use Rattle.uw_intent.specs.declared.frame.Frame.{Frame}
use Rattle.uw_intent.specs.Stores.{words_after}
use Rattle.uw_intent.specs.RedoRecord.{IsFrame, IsBeyond, IsTarget, IsWholeText, IsRecord, run_writes, record_text, closing, repairs, applied}
use Rattle.uw_intent.specs.Standing.{Kind, IsLocal, StandsFor}
use Rattle.uw_intent.specs.RightWrites.{opens, is_opening, has_opened, IsOfRecord, opened_by, copy_places, IsCopy, IsGated, IsRight}
use Rattle.uw_intent.proofs.Progress.{length-made, made-append}
use Rattle.uw_intent.proofs.Repairs.{run_repairs, repairs_open, repairs_closed}
use Rattle.uw_intent.proofs.Words.{word_after, AllWithin, AllAway, all_rest, get_or-made, word_after-append, word_after_away, written_or_away, part_made}
use Rattle.uw_intent.proofs.Recoveries.{all_weaker, all_within, gate_away, used_away}

-- places of the record and beyond it

pub beyond_other : (frame : Frame) (at : ℕ) → IsBeyond frame at → ¬ IsOfRecord frame at
beyond_other frame at beyond (inl used) = beyond.used used
beyond_other frame at beyond (inr inside) = ⊎_elim (λ before. omega (arith, before, inside.0)) (λ behind. omega (arith, behind, inside.1)) beyond.outside

pub gate_other : (frame : Frame) (len : ℕ) → IsFrame frame len → ¬ IsOfRecord frame frame.gate
gate_other frame len is (inl used) = omega (arith, is.gate, is.used, used)
gate_other frame len is (inr inside) = omega (arith, is.gate, is.start, inside.0)

of_record_within : (frame : Frame) (len at : ℕ) → IsFrame frame len → IsOfRecord frame at → at < len
of_record_within frame len at is (inl used) = omega (arith, is.used, is.start, is.within, used)
of_record_within frame len at is (inr inside) = omega (arith, is.within, inside.1)

-- a fact of each place that writes go to
abbrev pub AllAt : (ℕ → Type 0) → List WordWrite → Type 0
AllAt P writes = All (λ write. P write.at) writes

-- a fact of each place, by another
pub at_weaker : (P Q : ℕ → Type 0) (writes : List WordWrite) → ((at : ℕ) → P at → Q at) → AllAt P writes → AllAt Q writes
at_weaker P Q writes weaker all = λ k d h. weaker (get_or writes k d).at (all k d h)

-- a fact of each place holds of one of them
pub at_one_of : (P : ℕ → Type 0) (writes : List WordWrite) (at : ℕ) → AllAt P writes → IsOneOf (map (λ write. write.at) writes) at → P at
at_one_of P [] at all none = absurd none
at_one_of P (write ∷ writes) at all (inl same) = subst P same (all 0 write (omega arith))
at_one_of P (write ∷ writes) at all (inr later) = at_one_of P writes at (all_rest (λ (w : WordWrite). P w.at) write writes all) later

-- writes that open the gate, or leave it

pub none_opens : (frame : Frame) (writes : List WordWrite) → AllAway frame.gate writes → has_opened frame writes ≡ false
none_opens frame writes away =
    list_any_none (is_opening frame) writes
    (all_weaker (λ (w : WordWrite). w.at ≢ frame.gate) (λ (w : WordWrite). is_opening frame w ≡ false) writes (λ w other. not_opening w other) away)
  where
    not_opening : (w : WordWrite) → w.at ≢ frame.gate → is_opening frame w ≡ false
    not_opening w other = grind (arith, nat_tests)

or_true : (b : Bool) → (b || true) ≡ true
or_true true = refl
or_true false = refl

pub or_false : (b : Bool) → (b || false) ≡ b
or_false true = refl
or_false false = refl

pub or_assoc : (a b c : Bool) → ((a || b) || c) ≡ (a || (b || c))
or_assoc true b c = refl
or_assoc false b c = refl

one_opens : (frame : Frame) (early late : List WordWrite) → has_opened frame (early ++ opens frame ∷ late) ≡ true
one_opens frame early late =
    list_any-append (is_opening frame) early (opens frame ∷ late)
    ∙ ap (λ (b : Bool). has_opened frame early || b) first
    ∙ or_true (has_opened frame early)
  where
    first : has_opened frame (opens frame ∷ late) ≡ true
    first = grind (arith, nat_tests)

-- while the record is filled
module _ (frame : Frame) (words : List ℕ) (is : IsFrame frame (length words)) (fill : List WordWrite) (only : AllAt (IsOfRecord frame) fill) where
  fill_within : AllWithin (length words) fill
  fill_within = at_weaker (IsOfRecord frame) (λ (at : ℕ). at < length words) fill (λ at inside. of_record_within frame (length words) at is inside) only

  fill_away : (at : ℕ) → ¬ IsOfRecord frame at → AllAway at fill
  fill_away at other = at_weaker (IsOfRecord frame) (λ (n : ℕ). n ≢ at) fill (λ n inside same. other (subst (IsOfRecord frame) same inside)) only

  while_filled : (j at : ℕ) → ¬ IsOfRecord frame at → region (words_after (take j fill) words) at ≡ region words at
  while_filled j at other =
      get_or-made (take j fill) words at (All-take (λ (w : WordWrite). w.at < length words) j fill fill_within)
      ∙ word_after_away (take j fill) at (get_or words at 0) (All-take (λ (w : WordWrite). w.at ≢ at) j fill (fill_away at other))

-- while a whole record is in force, words written to places of its runs leave what the words stand for
module _ (frame : Frame) (words : List ℕ) (is : IsFrame frame (length words)) (gate : region words frame.gate ≡ 1) (whole : IsRecord frame words)
    (made : List WordWrite) (all : AllAt (IsOneOf (copy_places frame words)) made) where
  abbrev runs : List WordWrite
  runs = run_repairs frame words

  abbrev last : List WordWrite
  last = closing frame ∷ []

  abbrev now : List ℕ
  now = words_after made words

  made_at : (P : ℕ → Type 0) → AllAt P runs → AllAt P made
  made_at P each = at_weaker (IsOneOf (copy_places frame words)) P made (λ at one. at_one_of P runs at each one) all

  made_targets : AllAt (IsTarget frame (length words)) made
  made_targets = made_at (IsTarget frame (length words)) whole.targets

  made_within : AllWithin (length words) made
  made_within = at_weaker (IsTarget frame (length words)) (λ (at : ℕ). at < length words) made (λ at target. target.within) made_targets

  made_away : (at : ℕ) → AllAway at runs → AllAway at made
  made_away at away = made_at (λ (n : ℕ). n ≢ at) away

  stays : (at : ℕ) → AllAway at runs → region now at ≡ region words at
  stays at away = get_or-made made words at made_within ∙ word_after_away made at (get_or words at 0) (made_away at away)

  pub still_open : region now frame.gate ≡ 1
  still_open = stays frame.gate (gate_away frame words is gate whole) ∙ gate

  same_used : region now frame.used ≡ region words frame.used
  same_used = stays frame.used (used_away frame words is gate whole)

  same_text : record_text frame now ≡ record_text frame words
  same_text =
      ap (λ (n : ℕ). take n (drop frame.start now)) same_used
      ∙ part_made made words frame.start (region words frame.used)
      (at_weaker (IsTarget frame (length words)) (λ (at : ℕ). (at < frame.start) ⊎ (frame.start + region words frame.used ≤ at)) made
      (λ at target. ⊎_elim (λ before. inl before) (λ behind. inr (omega (arith, behind, whole.within))) target.beyond.outside) made_targets)

  same_runs : run_repairs frame now ≡ runs
  same_runs = ap (run_writes 0 0) same_text

  pub still_whole : IsRecord frame now
  still_whole = record {
    within = omega (arith, same_used, whole.within);
    whole = subst (IsWholeText 0) (sym same_text) whole.whole;
    targets =
        subst (λ (n : ℕ). All (λ (w : WordWrite). IsTarget frame n w.at) (run_repairs frame now)) (sym (length-made made words))
        (subst (All (λ (w : WordWrite). IsTarget frame (length words) w.at)) (sym same_runs) whole.targets);
  }

  open_before : region words frame.gate ≢ 0
  open_before none = omega (arith, gate, none)

  open_now : region now frame.gate ≢ 0
  open_now none = omega (arith, still_open, none)

  same_repairs : repairs frame now ≡ repairs frame words
  same_repairs = repairs_open frame now open_now ∙ ap (λ (l : List WordWrite). l ++ last) same_runs ∙ sym (repairs_open frame words open_before)

  over : (at own : ℕ) → word_after (runs ++ last) at (word_after made at own) ≡ word_after (runs ++ last) at own
  over at own =
      word_after-append runs last at (word_after made at own)
      ∙ ap (word_after last at) (run_over (written_or_away runs at))
      ∙ sym (word_after-append runs last at own)
    where
      run_over : ((one two : ℕ) → word_after runs at one ≡ word_after runs at two) ⊎ AllAway at runs
          → word_after runs at (word_after made at own) ≡ word_after runs at own
      run_over (inl written) = written (word_after made at own) own
      run_over (inr away) = ap (word_after runs at) (word_after_away made at own (made_away at away))

  pub same_applied : applied frame now ≡ applied frame words
  same_applied =
      let len : length now ≡ length words = length-made made words in
      let within : AllWithin (length words) (runs ++ last) = all_within frame words is gate whole in
      let within_now : AllWithin (length now) (runs ++ last) = subst (λ (n : ℕ). AllWithin n (runs ++ last)) (sym len) within in
      let are : repairs frame words ≡ runs ++ last = repairs_open frame words open_before in
      ap (λ (l : List WordWrite). words_after l now) (same_repairs ∙ are)
      ∙ ext_get_or 0 (words_after (runs ++ last) now) (words_after (runs ++ last) words)
      (length-made (runs ++ last) now ∙ len ∙ sym (length-made (runs ++ last) words))
      (λ at h.
      get_or-made (runs ++ last) now at within_now ∙ ap (word_after (runs ++ last) at) (get_or-made made words at made_within)
      ∙ over at (get_or words at 0) ∙ sym (get_or-made (runs ++ last) words at within))
      ∙ ap (λ (l : List WordWrite). words_after l words) (sym are)

-- words with a closed gate stand for themselves
pub closed_applied : (frame : Frame) (words : List ℕ) → region words frame.gate ≡ 0 → applied frame words ≡ words
closed_applied frame words closed = ap (λ (l : List WordWrite). words_after l words) (repairs_closed frame words closed)

-- words that stand for a state agree with it where the gate is closed
pub standing_agree : {S C A : Type 0} (k : Kind S C A) (words : List ℕ) (s : S) → StandsFor k words s → region words k.frame.gate ≡ 0 → k.agrees words s
standing_agree k words s stands closed = subst (λ (l : List ℕ). k.agrees l s) (closed_applied k.frame words closed) stands.agrees

module _ {S C A : Type 0} (k : Kind S C A) (is : IsLocal k) where
  abbrev frame : Frame
  frame = k.frame

  -- words that agree with a state stand for it
  pub agreeing_stand : (words : List ℕ) (s : S) → k.agrees words s → StandsFor k words s
  agreeing_stand words s agrees =
      let closed : region words k.frame.gate ≡ 0 = is.gate words s agrees in
      record { intact = inl closed; agrees = subst (λ (l : List ℕ). k.agrees l s) (sym (closed_applied k.frame words closed)) agrees }

  module _ (words : List ℕ) (s after : S) (todo : List WordWrite) (agrees : k.agrees words s) (gated : IsGated k words after todo) where
    abbrev fill : List WordWrite
    fill = gated.fill

    abbrev copied : List WordWrite
    copied = gated.copied

    abbrev opened : List ℕ
    opened = opened_by k.frame fill words

    -- the copies, and the gate closes
    abbrev ending : List WordWrite
    ending = copied ++ closing k.frame ∷ []

    framed : IsFrame k.frame (length words)
    framed = is.frame words s agrees

    closed : region words k.frame.gate ≡ 0
    closed = is.gate words s agrees

    -- the record is being filled
    filling_stands : (j : ℕ) → StandsFor k (words_after (take j fill) words) s
    filling_stands j =
        let same = while_filled k.frame words framed fill gated.only j in
        let now = words_after (take j fill) words in
        let shut : region now k.frame.gate ≡ 0 = same k.frame.gate (gate_other k.frame (length words) framed) ∙ closed in
        agreeing_stand now s (is.same words now s (length-made (take j fill) words) shut (λ at beyond. same at (beyond_other k.frame at beyond)) agrees)

    filling_opens : (j : ℕ) → has_opened k.frame (take j fill) ≡ false
    filling_opens j =
        let away : AllAway k.frame.gate fill = fill_away k.frame words framed fill gated.only k.frame.gate (gate_other k.frame (length words) framed) in
        none_opens k.frame (take j fill) (All-take (λ (w : WordWrite). w.at ≢ k.frame.gate) j fill away)

    -- the gate has opened, and words are being copied
    length-opened : length opened ≡ length words
    length-opened = length-made (fill ++ opens k.frame ∷ []) words

    opened_frame : IsFrame k.frame (length opened)
    opened_frame = subst (IsFrame k.frame) (sym length-opened) framed

    made_opened : (late : List WordWrite) → words_after (fill ++ opens k.frame ∷ late) words ≡ words_after late opened
    made_opened late = made-append fill (opens k.frame ∷ late) words ∙ ap (words_after late) (sym (made-append fill (opens k.frame ∷ []) words))

    opened_gate : region opened k.frame.gate ≡ 1
    opened_gate =
        ap (λ (l : List ℕ). region l k.frame.gate) (made-append fill (opens k.frame ∷ []) words)
        ∙ get_or-set_same (words_after fill words) k.frame.gate 1 0 (omega (arith, length-made fill words, framed.gate, framed.start, framed.within))

    of_runs : (i : ℕ) → AllAt (IsOneOf (copy_places k.frame opened)) (take i copied)
    of_runs i =
        let OfRun : WordWrite → Type 0 = λ w. IsOneOf (copy_places k.frame opened) w.at in
        All-take OfRun i copied (all_weaker (IsCopy k.frame opened) OfRun copied (λ w copy. copy.target) gated.copies)

    copying_open : (i : ℕ) → region (words_after (take i copied) opened) k.frame.gate ≡ 1
    copying_open i = still_open k.frame opened opened_frame opened_gate gated.whole (take i copied) (of_runs i)

    copying_stands : (i : ℕ) → StandsFor k (words_after (take i copied) opened) after
    copying_stands i =
        let some = of_runs i in
        let still = copying_open i in
        let whole = still_whole k.frame opened opened_frame opened_gate gated.whole (take i copied) some in
        let same = same_applied k.frame opened opened_frame opened_gate gated.whole (take i copied) some in
        record { intact = inr (still, whole); agrees = subst (λ (l : List ℕ). k.agrees l after) (sym same) gated.stands }

    -- all writes were made
    gated_agree : k.agrees (words_after todo words) after
    gated_agree =
        let stood = applied k.frame opened in
        let len : length (words_after todo words) ≡ length stood = length-made todo words ∙ sym (length-made (repairs k.frame opened) opened ∙ length-opened) in
        is.same stood (words_after todo words) after len
        (gated.last k.frame.gate (gate_other k.frame (length words) framed) ∙ is.gate stood after gated.stands)
        (λ at beyond. gated.last at (beyond_other k.frame at beyond)) gated.stands

    in_order : todo ≡ fill ++ (opens k.frame ∷ ending)
    in_order = gated.is ∙ append_assoc fill (opens k.frame ∷ copied) (closing k.frame ∷ [])

    -- the first of the writes end while the record is filled, while words are copied, or with the last one
    abbrev ComeTo : ℕ → Type 0
    ComeTo j = (take j todo ≡ take j fill) ⊎ ((i : ℕ) × (take j todo ≡ fill ++ (opens k.frame ∷ take i copied))) ⊎ ((take j todo ≡ todo) × (length todo ≤ j))

    come_to : (j : ℕ) → ComeTo j
    come_to j = elim (cases_lt (length fill) j) [
      | inl late ↦
          let i = j - (length fill + 1) in
          let place : j ≡ length fill + suc i = omega arith in
          let taken : take j todo ≡ fill ++ (opens k.frame ∷ take i ending) =
          ap (take j) in_order ∙ ap (λ (n : ℕ). take n (fill ++ (opens k.frame ∷ ending))) place ∙ take-append-add fill (opens k.frame ∷ ending) (suc i) in
          elim (cases_lt (length copied) i) [
            | inl past ↦
                let all : length todo ≤ j =
                omega (arith, ap (length {A = WordWrite}) in_order, length-append fill (opens k.frame ∷ ending), length-append copied (closing k.frame ∷ [])) in
                inr (inr (take_all j todo all, all))
            | inr within ↦
                let same : take i ending ≡ take i copied = take-append-le i copied (closing k.frame ∷ []) within in
                inr (inl (i, taken ∙ ap (λ (l : List WordWrite). fill ++ (opens k.frame ∷ l)) same))
          ]
      | inr early ↦
          inl (
          ap (take j) gated.is
          ∙ take-append-le j (fill ++ opens k.frame ∷ copied) (closing k.frame ∷ []) (omega (arith, length-append fill (opens k.frame ∷ copied)))
          ∙ take-append-le j fill (opens k.frame ∷ copied) early
          )
    ]

    gated_stand : (j : ℕ) → StandsFor k (words_after (take j todo) words) (cond (has_opened k.frame (take j todo)) after s)
    gated_stand j = go (come_to j)
      where
        stands_as : {some : List WordWrite} {has : Bool} → take j todo ≡ some → has_opened k.frame some ≡ has
            → StandsFor k (words_after some words) (cond has after s)
            → StandsFor k (words_after (take j todo) words) (cond (has_opened k.frame (take j todo)) after s)
        stands_as {some = some} taken has stands =
            subst (λ (l : List WordWrite). StandsFor k (words_after l words) (cond (has_opened k.frame l) after s)) (sym taken)
            (subst (λ (b : Bool). StandsFor k (words_after some words) (cond b after s)) (sym has) stands)

        go : ComeTo j → StandsFor k (words_after (take j todo) words) (cond (has_opened k.frame (take j todo)) after s)
        go (inl filling) = stands_as filling (filling_opens j) (filling_stands j)
        go (inr (inl (i, copying))) =
            stands_as copying (one_opens k.frame fill (take i copied))
            (subst (λ (l : List ℕ). StandsFor k l after) (sym (made_opened (take i copied))) (copying_stands i))
        go (inr (inr (whole, all))) =
            stands_as whole (ap (has_opened k.frame) in_order ∙ one_opens k.frame fill ending) (agreeing_stand (words_after todo words) after gated_agree)

    -- while a write is left, the gate is open exactly where it has opened
    gated_gate : (j : ℕ) → j < length todo → region (words_after (take j todo) words) k.frame.gate ≡ cond (has_opened k.frame (take j todo)) 1 0
    gated_gate j more = go (come_to j)
      where
        gate_as : {some : List WordWrite} {has : Bool} → take j todo ≡ some → has_opened k.frame some ≡ has
            → region (words_after some words) k.frame.gate ≡ cond has 1 0
            → region (words_after (take j todo) words) k.frame.gate ≡ cond (has_opened k.frame (take j todo)) 1 0
        gate_as {some = some} taken has gate =
            subst (λ (l : List WordWrite). region (words_after l words) k.frame.gate ≡ cond (has_opened k.frame l) 1 0) (sym taken)
            (subst (λ (b : Bool). region (words_after some words) k.frame.gate ≡ cond b 1 0) (sym has) gate)

        go : ComeTo j → region (words_after (take j todo) words) k.frame.gate ≡ cond (has_opened k.frame (take j todo)) 1 0
        go (inl filling) =
            gate_as filling (filling_opens j)
            (while_filled k.frame words framed fill gated.only j k.frame.gate (gate_other k.frame (length words) framed) ∙ closed)
        go (inr (inl (i, copying))) =
            gate_as copying (one_opens k.frame fill (take i copied)) (ap (λ (l : List ℕ). region l k.frame.gate) (made_opened (take i copied)) ∙ copying_open i)
        go (inr (inr (whole, all))) = absurd (omega arith)

  module _ (words : List ℕ) (s : S) (moment : ℕ) (call : C) (answer : A) (todo : List WordWrite) (agrees : k.agrees words s)
      (right : IsRight k words s moment call answer todo) where
    abbrev next : S
    next = k.next s moment call

    -- after each of the writes the words stand for the next state where the gate's write was made, else for the state before
    pub right_stand : (j : ℕ) → StandsFor k (words_after (take j todo) words) (cond (has_opened k.frame (take j todo)) (k.next s moment call) s)
    right_stand j = go right.plan
      where
        go : ((todo ≡ []) × k.agrees words next) ⊎ IsGated k words next todo
            → StandsFor k (words_after (take j todo) words) (cond (has_opened k.frame (take j todo)) next s)
        go (inl none) =
            let nothing : take j todo ≡ [] = ap (take j) none.0 ∙ take_all j [] (omega arith) in
            subst (λ (l : List WordWrite). StandsFor k (words_after l words) (cond (has_opened k.frame l) next s)) (sym nothing) (agreeing_stand words s agrees)
        go (inr gated) = gated_stand words s next todo agrees gated j

    -- after all of the writes the words agree with the next state
    pub right_agree : k.agrees (words_after todo words) (k.next s moment call)
    right_agree = go right.plan
      where
        go : ((todo ≡ []) × k.agrees words next) ⊎ IsGated k words next todo → k.agrees (words_after todo words) next
        go (inl none) = subst (λ (l : List WordWrite). k.agrees (words_after l words) next) (sym none.0) none.1
        go (inr gated) = gated_agree words s next todo agrees gated

    -- while a write is left, the gate is open exactly where the call has joined
    pub right_gate : (j : ℕ) → j < length todo → region (words_after (take j todo) words) k.frame.gate ≡ cond (has_opened k.frame (take j todo)) 1 0
    right_gate j more = go right.plan
      where
        go : ((todo ≡ []) × k.agrees words next) ⊎ IsGated k words next todo
            → region (words_after (take j todo) words) k.frame.gate ≡ cond (has_opened k.frame (take j todo)) 1 0
        go (inl none) = absurd (omega (arith, more, ap (length {A = WordWrite}) none.0))
        go (inr gated) = gated_gate words s next todo agrees gated j more
