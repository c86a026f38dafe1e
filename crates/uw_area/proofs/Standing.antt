-- What the words of an area stand for: at first, while an operation is committed, and behind it.
use Rattle.std.proofs.Common.{◌≡◌, ◌≢◌, inl, ℕ, zero, suc, ◌+◌, ◌*◌, ◌<◌, ◌≤◌, Bool, true, false, not, cond, eqb, All, List, Option, length, get_or}
use Rattle.std.proofs.Common.{set, take, drop, replicate, refl, sym, ap, ◌∙◌, subst, arith}
use Rattle.std.proofs.lemmas.List.{length-set, length-replicate, get_or-set_same, get_or-set_other, get_or-drop}
use Rattle.std.proofs.lemmas.List.Elements.{All-replicate}
use Rattle.uw_model.specs.declared.areas.AreaAnswer.{AreaAnswer}
use Rattle.uw_model.specs.declared.areas.AreaOp.{AreaOp}
use Rattle.uw_model.specs.AreaLayout.{area_words}
use Rattle.uw_model.specs.AreaOps.{AreaState, area_answer, area_next, blank_area}
use Rattle.uw_words.specs.Plans.{Plan, region}
use Rattle.uw_words.specs.Parts.{seen}
use Rattle.uw_words.specs.Texts.{text_word}
use Rattle.uw_words.proofs.Copies.{told_apart}
use Rattle.uw_intent.specs.declared.frame.Frame.{Frame}
use Rattle.uw_intent.specs.declared.frame.WordWrite.{WordWrite}
use Rattle.uw_intent.specs.Stores.{words_after, AllMade, SomeMade}
use Rattle.uw_intent.specs.RedoRecord.{FitsRecord, IsBeyond, IsFrame, commit_writes, copies, repairs}
use Rattle.uw_intent.specs.Standing.{IsLocal, StandsFor}
use Rattle.uw_intent.specs.RightWrites.{has_opened, IsRight}
use Rattle.uw_intent.specs.CallTurns.{CallEnd, given, died, no_memory}
use Rattle.uw_intent.specs.OneTurn.{state_behind}
use Rattle.uw_intent.proofs.Listed.{copies_within}
use Rattle.uw_intent.proofs.Progress.{length-made}
use Rattle.uw_intent.proofs.Rights.{agreeing_stand, right_stand, right_agree, right_gate, standing_agree}
use Rattle.uw_intent.proofs.RightCommits.{commit_right, region-copies}
use Rattle.uw_area.specs.AreaWords.{AgreesWithArea, HoldsArea, area_frame}
use Rattle.uw_area.specs.AreaKind.{area_kind}
use Rattle.uw_area.specs.AreaSteps.{PlansOp}
use Rattle.uw_area.specs.AreaViews.{AreaView, HasOperated, IsStandingArea, todo_of}
use Rattle.uw_area.proofs.Planning.{holds_same}

-- ---- an area of zeros

abbrev zeros : ℕ → List ℕ
zeros count = replicate count 0

zeros_read : (count k : ℕ) → get_or (zeros count) k 0 ≡ 0
zeros_read zero k = refl
zeros_read (suc count) zero = refl
zeros_read (suc count) (suc k) = zeros_read count k

zero_word : (count k : ℕ) → text_word (zeros count) k ≡ 0
zero_word count k = omega (arith, at 0, at 1, at 2, at 3, at 4, at 5, at 6, at 7)
  where
    at : (i : ℕ) → get_or (drop (8 * k) (zeros count)) i 0 ≡ 0
    at i = get_or-drop (8 * k) (zeros count) i 0 ∙ zeros_read count (8 * k + i)

pub blank_agrees : (size : ℕ) → AgreesWithArea size (set (set (replicate (area_words size) 0) 0 2) 1 size) (blank_area size)
blank_agrees size =
    let blank : List ℕ = zeros (area_words size) in
    let first = set blank 0 2 in
    let count : length blank ≡ area_words size = length-replicate {A = ℕ} (area_words size) 0 in
    let many : length first ≡ area_words size = length-set blank 0 2 ∙ count in
    let other : (at : ℕ) → 2 ≤ at → region (set first 1 size) at ≡ 0 = λ at late.
    get_or-set_other first 1 at size 0 (λ same. omega (arith, late, same)) ∙ get_or-set_other blank 0 at 2 0 (λ same. omega (arith, late, same))
    ∙ zeros_read (area_words size) at in
    record {
      len = length-set first 1 size ∙ many;
      closed = other 10 (omega arith);
      holds = record {
        layout =
            get_or-set_other first 1 0 size 0 (λ same. omega (arith, same))
            ∙ get_or-set_same blank 0 2 0 (omega (arith, count));
        told = get_or-set_same first 1 size 0 (omega (arith, many));
        updates = other 2 (omega arith);
        many = length-replicate {A = ℕ} size 0;
        small = All-replicate (λ byte. byte < 256) size 0 (omega arith);
        bytes = λ k short. other (16 + k) (omega arith) ∙ sym (zero_word size k);
      };
    }

-- ---- the kind

pub area_local : (size : ℕ) → IsLocal (area_kind size)
area_local size = record {
  frame = λ words area agrees. record { gate = refl; used = refl; start = omega arith; within = omega (arith, agrees.len) };
  gate = λ words area agrees. agrees.closed;
  same = λ words now area len gate same agrees. record {
    len = len ∙ agrees.len;
    closed = gate;
    holds = record {
      layout = same 0 (early 0 (omega arith) (λ e. omega (arith, e)) (λ e. omega (arith, e))) ∙ agrees.holds.layout;
      told = same 1 (early 1 (omega arith) (λ e. omega (arith, e)) (λ e. omega (arith, e))) ∙ agrees.holds.told;
      updates = same 2 (early 2 (omega arith) (λ e. omega (arith, e)) (λ e. omega (arith, e))) ∙ agrees.holds.updates;
      many = agrees.holds.many;
      small = agrees.holds.small;
      bytes = λ k short.
          same (16 + k) (early (16 + k) (omega (arith, short, agrees.holds.many)) (λ e. omega (arith, e)) (λ e. omega (arith, e)))
          ∙ agrees.holds.bytes k short;
    };
  };
}
  where
    early : (at : ℕ) → at < (area_frame size).start → at ≢ 10 → at ≢ 11 → IsBeyond (area_frame size) at
    early at before gate used = record { outside = inl before; gate = gate; used = used }

-- words agree with one area at most
pub one_area : (size : ℕ) (words : List ℕ) (area other : AreaState) → AgreesWithArea size words area → AgreesWithArea size words other → area ≡ other
one_area size words area other agrees also =
    ap (λ (bytes : List ℕ). record { bytes = bytes; updates = area.updates }) bytes_same
    ∙ ap (λ (n : ℕ). record { bytes = other.bytes; updates = n }) updates_same
  where
    updates_same : area.updates ≡ other.updates
    updates_same = sym agrees.holds.updates ∙ also.holds.updates

    long : length area.bytes ≡ length other.bytes
    long = agrees.holds.many ∙ sym also.holds.many

    bytes_same : area.bytes ≡ other.bytes
    bytes_same =
        told_apart area.bytes other.bytes agrees.holds.small also.holds.small long
        (λ k short. sym (agrees.holds.bytes k short) ∙ also.holds.bytes k (omega (arith, short, long)))

-- words that stand for an area have room for the record
pub standing_frame : (size : ℕ) (words : List ℕ) (area : AreaState) → StandsFor (area_kind size) words area → length words ≡ area_words size
standing_frame size words area stands = sym (length-made (repairs (area_frame size) words) words) ∙ stands.agrees.len

pub is_frame : (size len : ℕ) → len ≡ area_words size → IsFrame (area_frame size) len
is_frame size len is = record { gate = refl; used = refl; start = omega arith; within = omega (arith, is) }

-- ---- an operation that is planned on words that agree with an area

module _ (size : ℕ) (words : List ℕ) (op : AreaOp) (plan : Plan) (plans : PlansOp size words op plan) where
  abbrev todo : List WordWrite
  todo = commit_writes (area_frame size) plan.writes

  planned_agree : (area : AreaState) → AgreesWithArea size words area → AgreesWithArea size (words_after (copies plan.writes) words) (area_next area op)
  planned_agree area agrees =
      let reads : (at : ℕ) → region (words_after (copies plan.writes) words) at ≡ seen plan words at =
      λ at. region-copies words plan.writes at within plans.once in
      record {
        len = length-made (copies plan.writes) words ∙ agrees.len;
        closed = reads 10 ∙ plans.gate ∙ agrees.closed;
        holds = holds_same size (area_next area op) (seen plan words) (region (words_after (copies plan.writes) words)) reads (plans.next area agrees.holds);
      }
    where
      fits : FitsRecord (area_frame size) (length words) plan.writes
      fits = subst (λ (n : ℕ). FitsRecord (area_frame size) n plan.writes) (sym agrees.len) plans.fits

      within : All (λ write. write.at < length words) (copies plan.writes)
      within = copies_within (area_frame size) (length words) plan.writes fits.targets

  pub op_right : (area : AreaState) (moment : ℕ) → AgreesWithArea size words area
      → IsRight (area_kind size) words area moment op (area_answer area op) (commit_writes (area_frame size) plan.writes)
  op_right area moment agrees =
      commit_right (area_kind size) (area_local size) words area moment op plan.writes agrees
      (subst (λ (n : ℕ). FitsRecord (area_frame size) n plan.writes) (sym agrees.len) plans.fits) plans.once (planned_agree area agrees)
      (plans.few area agrees.holds)

  -- all of its writes were made
  pub op_agrees : (now : List ℕ) (told left : Option (List ℕ)) → AllMade (commit_writes (area_frame size) plan.writes) words now told left → (area : AreaState)
      → AgreesWithArea size words area → AgreesWithArea size now (area_next area op)
  op_agrees now told left all area agrees =
      subst (λ (l : List ℕ). AgreesWithArea size l (area_next area op)) (sym all.words)
      (right_agree (area_kind size) (area_local size) words area 0 op (area_answer area op) todo agrees (op_right area 0 agrees))

  -- some of its writes were made, and the gate tells whether it is whole
  module _ (now : List ℕ) (told left : Option (List ℕ)) (some : SomeMade (commit_writes (area_frame size) plan.writes) words now told left) where
    pub op_whole : (area : AreaState) → AgreesWithArea size words area → (whole : Bool) → whole ≡ not (eqb (region now 10) 0)
        → whole ≡ has_opened (area_frame size) (take some.count (commit_writes (area_frame size) plan.writes))
    op_whole area agrees whole gate =
        gate ∙ ap (λ (l : List ℕ). not (eqb (region l 10) 0)) some.words
        ∙ ap (λ (n : ℕ). not (eqb n 0))
        (right_gate (area_kind size) (area_local size) words area 0 op (area_answer area op) todo agrees (op_right area 0 agrees) some.count some.fewer)
        ∙ tells (has_opened (area_frame size) (take some.count todo))
      where
        tells : (b : Bool) → not (eqb (cond b 1 0) 0) ≡ b
        tells true = refl
        tells false = refl

    pub op_broken : (area : AreaState) → AgreesWithArea size words area → (whole : Bool)
        → whole ≡ has_opened (area_frame size) (take some.count (commit_writes (area_frame size) plan.writes))
        → StandsFor (area_kind size) now (cond whole (area_next area op) area)
    op_broken area agrees whole is =
        subst (λ (b : Bool). StandsFor (area_kind size) now (cond b (area_next area op) area)) (sym is)
        (subst (λ (l : List ℕ). StandsFor (area_kind size) l (cond (has_opened (area_frame size) (take some.count todo)) (area_next area op) area))
        (sym some.words)
        (right_stand (area_kind size) (area_local size) words area 0 op (area_answer area op) todo agrees (op_right area 0 agrees) some.count))

-- ---- an operation that was made

-- the words that a kept area stands for, where no repair is pending
pub kept_agrees : (size room : ℕ) (words : List ℕ) → (kept : IsStandingArea size room words) → region words 10 ≡ 0 → AgreesWithArea size words kept.state
kept_agrees size room words kept closed = standing_agree (area_kind size) words kept.state kept.stands closed

module _ (before now : AreaView) (op : AreaOp) (plan : Plan) (same : now.size ≡ before.size) (planned : now.plan ≡ plan.writes)
    (plans : PlansOp before.size before.words op plan) (told left : Option (List ℕ)) where
  abbrev planned_todo : List WordWrite
  planned_todo = commit_writes (area_frame before.size) plan.writes

  todo_is : todo_of now ≡ planned_todo
  todo_is = ap (λ (n : ℕ). commit_writes (area_frame n) now.plan) same ∙ ap (commit_writes (area_frame before.size)) planned

  right_now : (area : AreaState) (moment : ℕ) → AgreesWithArea before.size before.words area
      → IsRight (area_kind before.size) before.words area moment op (area_answer area op) (todo_of now)
  right_now area moment agrees =
      subst (IsRight (area_kind before.size) before.words area moment op (area_answer area op)) (sym todo_is)
      (op_right before.size before.words op plan plans area moment agrees)

  pub operated_all : AllMade (commit_writes (area_frame before.size) plan.writes) before.words now.words told left → (answer : AreaAnswer)
      → ((area : AreaState) → HoldsArea (region before.words) before.size area → answer ≡ area_answer area op)
      → HasOperated before now op told left (given answer)
  operated_all all answer is = record {
    same = same;
    right = right_now;
    writes = subst (λ (l : List WordWrite). AllMade l before.words now.words told left) (sym todo_is) all;
    answer = λ area moment agrees. is area agrees.holds;
    stands = λ area moment agrees.
        agreeing_stand (area_kind before.size) (area_local before.size) now.words (area_next area op)
        (op_agrees before.size before.words op plan plans now.words told left all area agrees);
  }

  pub operated_some : SomeMade (commit_writes (area_frame before.size) plan.writes) before.words now.words told left → (area : AreaState)
      → AgreesWithArea before.size before.words area → (whole : Bool) → whole ≡ not (eqb (region now.words 10) 0)
      → HasOperated before now op told left (died whole)
  operated_some some first agreed whole gate =
      let is = op_whole before.size before.words op plan plans now.words told left some first agreed whole gate in
      record {
        same = same;
        right = right_now;
        writes =
            subst (λ (l : List WordWrite). (made : SomeMade l before.words now.words told left) × (whole ≡ has_opened (area_frame before.size)
            (take made.count l)))
            (sym todo_is) (some, is);
        answer = λ area moment agrees. tt;
        stands = λ area moment agrees. op_broken before.size before.words op plan plans now.words told left some area agrees whole is;
      }

  pub operated_closed : AllMade (commit_writes (area_frame before.size) plan.writes) before.words now.words told left → (area : AreaState)
      → AgreesWithArea before.size before.words area → region now.words 10 ≡ 0
  operated_closed all area agrees = (op_agrees before.size before.words op plan plans now.words told left all area agrees).closed

  pub operated_none : now.words ≡ before.words → left ≡ told → HasOperated before now op told left no_memory
  operated_none words_same spent = record {
    same = same;
    right = right_now;
    writes = (words_same, spent);
    answer = λ area moment agrees. tt;
    stands = λ area moment agrees.
        subst (λ (l : List ℕ). StandsFor (area_kind before.size) l area) (sym words_same)
        (agreeing_stand (area_kind before.size) (area_local before.size) before.words area agrees);
  }

-- the same, where the size and the words before are known by other names
module _ (before now : AreaView) (op : AreaOp) (plan : Plan) (size : ℕ) (words : List ℕ) (frame : Frame) (size_is : size ≡ before.size)
    (words_is : words ≡ before.words) (frame_is : frame ≡ area_frame size) (same : now.size ≡ size) (planned : now.plan ≡ plan.writes)
    (plans : PlansOp size words op plan) (told left : Option (List ℕ)) where
  plans_before : PlansOp before.size before.words op plan
  plans_before = subst (λ (n : ℕ). PlansOp n before.words op plan) size_is (subst (λ (l : List ℕ). PlansOp size l op plan) words_is plans)

  made_before : (Made : List WordWrite → List ℕ → Type 0) → Made (commit_writes frame plan.writes) words
      → Made (commit_writes (area_frame before.size) plan.writes) before.words
  made_before Made made =
      subst (λ (f : Frame). Made (commit_writes f plan.writes) before.words) (frame_is ∙ ap area_frame size_is)
      (subst (Made (commit_writes frame plan.writes)) words_is made)

  holds_before : (area : AreaState) → HoldsArea (region before.words) before.size area → HoldsArea (region words) size area
  holds_before area holds =
      subst (λ (n : ℕ). HoldsArea (region words) n area) (sym size_is) (subst (λ (l : List ℕ). HoldsArea (region l) before.size area) (sym words_is) holds)

  pub call_all : AllMade (commit_writes frame plan.writes) words now.words told left → (answer : AreaAnswer)
      → ((area : AreaState) → HoldsArea (region words) size area → answer ≡ area_answer area op)
      → HasOperated before now op told left (given answer)
  call_all all answer is =
      operated_all before now op plan (same ∙ size_is) planned plans_before told left
      (made_before (λ writes old. AllMade writes old now.words told left) all) answer (λ area holds. is area (holds_before area holds))

  pub call_some : SomeMade (commit_writes frame plan.writes) words now.words told left → (room : ℕ) → IsStandingArea before.size room before.words
      → region before.words 10 ≡ 0 → (whole : Bool) → whole ≡ not (eqb (region now.words 10) 0)
      → HasOperated before now op told left (died whole)
  call_some some room kept idle whole gate =
      operated_some before now op plan (same ∙ size_is) planned plans_before told left
      (made_before (λ writes old. SomeMade writes old now.words told left) some) kept.state (kept_agrees before.size room before.words kept idle) whole gate

  pub call_none : now.words ≡ words → left ≡ told → HasOperated before now op told left no_memory
  call_none words_same spent = operated_none before now op plan (same ∙ size_is) planned plans_before told left (words_same ∙ words_is) spent

  pub call_closed : AllMade (commit_writes frame plan.writes) words now.words told left → (room : ℕ) → IsStandingArea before.size room before.words
      → region before.words 10 ≡ 0 → region now.words 10 ≡ 0
  call_closed all room kept idle =
      operated_closed before now op plan (same ∙ size_is) planned plans_before told left
      (made_before (λ writes old. AllMade writes old now.words told left) all) kept.state (kept_agrees before.size room before.words kept idle)

-- the words behind an operation stand for some area again
pub kept_behind : (before now : AreaView) (op : AreaOp) (told left : Option (List ℕ)) (end : CallEnd AreaAnswer) (room later : ℕ)
    → IsStandingArea before.size room before.words → region before.words 10 ≡ 0 → later ≡ room → HasOperated before now op told left end
    → IsStandingArea now.size later now.words
kept_behind before now op told left end room later kept idle same operated =
    subst (λ (n : ℕ). IsStandingArea n later now.words) (sym operated.same) record {
      limit = kept.limit;
      many = same ∙ kept.many;
      state = state_behind (area_kind before.size) kept.state 0 op end;
      stands = operated.stands kept.state 0 (kept_agrees before.size room before.words kept idle);
    }
