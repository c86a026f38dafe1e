-- Each kind of step keeps the rule, and tells what it is to tell.
use Rattle.std.proofs.Common.{◌≡◌, ◌≢◌, ℕ, zero, suc, ◌+◌, ◌*◌, ◌%◌, ◌^◌, ◌<◌, Bool, true, false, List, [], ◌∷◌, ◌++◌, length, get_or, set, Option, Some, None, IfSome, IfNone, IsSome, sym, refl, ap, ◌∙◌, subst, arith, length-set, get_or-set_same, get_or-set_other}
use mathlib.Core.Logic.{dite}
use mathlib.Core.Option.{some, none, some-ne-none, some-injective}
use native.Mathlib.Decide.{ℕ_discrete}
use lib.ListN.{get_elem?}
use Rattle.std.proofs.Math.Nat.{mod-add-mod}
use Rattle.std.proofs.lemmas.List.{length-append}
use Rattle.atomic_table.specs.Table.{State, Me, rest, step, keeps, takes, gives, opening, Final, Seen, Allows, Splits, Joins}
use Rattle.atomic_table.specs.Seated.{TableId}
use Rattle.atomic_table.proofs.Lists.{set_here, set_else, set_again, at_longer}
use Rattle.uw_lock.specs.declared.entries.Made.{Made}
use Rattle.uw_lock.specs.declared.entries.View.{View}
use Rattle.uw_lock.specs.LockRule.{StartsWith, IsAtRest, Fits, HoldsHistory, IsLast, IsWhole, MayBeLeftHeld, known, made}
use Rattle.uw_lock.specs.LockSteps.{first_view, with_entry, Taken, Looked, Noted, Left, IsEnding, divided, granted, bare, informed}
use Rattle.uw_lock.proofs.Histories.{starts_same, starts_longer, grown_by_others, noted_mine, other_mine, owns-zero, owns_any, all_mine, divided_owns, granted_owns, divided_mine, granted_mine, halves_differ}
use Rattle.uw_lock.proofs.Seats.{at_below, same_place, each_set, each_end, Apart, OwnsOf, apart_set, apart_end}

word_at : (l : List ℕ) (i : ℕ) → i < length l → get_elem? l i ≡ some (get_or l i 0)
word_at [] i h = absurd (omega arith)
word_at (x ∷ xs) zero h = refl
word_at (x ∷ xs) (suc i) h = word_at xs i (omega arith)

-- storing what is there changes nothing
stored_again : (l : List ℕ) (i n : ℕ) → i < length l → get_or l i 0 ≡ n → set l i n ≡ l
stored_again l i n h e = set_again l i n (word_at l i h ∙ ap some e)

pub if_some : {A : Type 0} (P Q : A → Type 0) (o : Option A) → ((x : A) → P x → Q x) → IfSome o P → IfSome o Q
if_some P Q None f h = tt
if_some P Q (Some x) f h = f x h

pub if_none : {A : Type 0} (P Q : Type 0) (o : Option A) → (P → Q) → IfNone o P → IfNone o Q
if_none P Q None f h = f h
if_none P Q (Some x) f h = tt

pub is_some : {A : Type 0} (P : Type 0) (o : Option A) → ¬ P → IfNone o P → IsSome o
is_some P None f h = absurd (f h)
is_some P (Some x) f h = refl

not_both : (b : Bool) → b ≡ true → b ≡ false → ⊥
not_both b is not = let e : true ≡ false = sym is ∙ not in cc

pub some_same : {A : Type 0} (x y : A) → Some x ≡ Some y → x ≡ y
some_same x y e = ap (elim_some x) e
  where
    elim_some : {A : Type 0} → A → Option A → A
    elim_some d None = d
    elim_some d (Some a) = a

module _ {K E C : Type 0} (stands : K → List (Made E) → Type 0) (pending : K → Bool) (conf : K → C) (c : C) where
  abbrev St : Type 0
  St = State (Option K) (View E C)

  abbrev M : Type 0
  M = Me (Option K) (View E C)

  abbrev Rule : St → Type 0
  Rule = HoldsHistory stands pending conf c

  abbrev owner : St → ℕ
  owner s = get_or s.words 0 0

  owns_same : (v : View E C) → OwnsOf v v
  owns_same v p = (p, λ k. (k, refl))

  -- a pass that owns every number is the last holder
  only_seat : (s : St) (r : Rule s) (id : ℕ) (v : View E C) → get_elem? s.views id ≡ some v → 0 < v.step → v.number ≡ 0 → v.step ≡ 1 → r.last ≡ v
  only_seat s r id v at some_step first whole = let u = r.last in let l = r.lasts in dite (ℕ_discrete id r.holder)
      (λ same. same_place s.views id u v (subst (λ (j : ℕ). get_elem? s.views j ≡ some u) (sym same) l.0) at)
      (λ other. absurd (r.apart id r.holder v u at l.0 other some_step l.1 u.number 0 (owns_any v u.number first whole ∙ sym (owns-zero u))))

  -- the swap that tries to take the lock
  pub takes_lock : (slots id : ℕ) (m : M) → IsAtRest m → Allows Rule slots id m 0 (λ _. 1) (Taken stands pending conf (step slots 0 1 0 none) m)
  takes_lock slots id m rest s r long at small = let wide = r.wide in let three = r.owner in let one : get_or (set s.words 0 1) 0 0 ≡ 1 = get_or-set_same s.words 0 1 0 (omega arith) in dite (ℕ_discrete (owner s) 1)
      (λ held. (
        m.0,
        keeps,
        tt,
        subst (λ (z : List ℕ × List (View E C)). Rule (record { words = z.0; homes = s.homes; views = z.1 }))
            (λ i. (sym (stored_again s.words 0 1 (omega arith) held) i, sym (set_again s.views id m.0 at) i)) r,
        ((λ _. refl), λ no. absurd (no held)),
      ))
      (λ free. let h = r.home free in let f = r.fits id m.0 at in let n = f.2 rest.1 in let w : View E C = record m.0 { seen = r.history; holds = true; word = owner s } in (
        w,
        takes 0 (Some h.0),
        h.1,
        record {
          history = r.history;
          holder = id;
          wide = length-set s.words 0 1 ∙ wide;
          owner = omega (arith, one);
          count = get_or-set_other s.words 0 1 1 0 (λ e. omega arith) ∙ r.count;
          last = w;
          lasts = (set_here s.views id w (at_below s.views id m.0 at), rest.1, (λ no. absurd (no one)), λ _. (refl, set_here s.homes 0 none (at_below s.homes 0 (some (Some h.0)) h.1)));
          home = λ no. absurd (no one);
          only = each_set (λ j u. u.holds ≡ true → (get_or (set s.words 0 1) 0 0 ≡ 1) × (j ≡ id) × (u.seen ≡ r.history)) s.views id w (λ _. (one, refl, refl))
              (λ j u _ e holds. absurd (free (r.only j u e holds).0));
          fits = each_set (λ j u. Fits c r.history u) s.views id w (starts_same r.history, f.1, λ p. (n.0, n.1, n.1)) (λ j u _ e. r.fits j u e);
          apart = apart_set s.views id m.0 w at r.apart (owns_same m.0);
        },
        (
          (λ held. absurd (free held)),
          λ _. (
            h.0,
            refl,
            refl,
            grown_by_others m.0.number r.history m.0.seen m.0.mine f.0 n.1.0 n.2.0,
            n.1,
            n.0 ∙ ap Some (sym h.2.1),
            h.2.0,
            (λ no. h.2.2 (omega arith)),
            λ first whole. (
              sym (r.lasts.2 free) ∙ ap (λ (u : View E C). u.word) (only_seat s r id m.0 at rest.1 first whole),
              all_mine m.0 r.history first whole n.1 ∙ sym (all_mine m.0 m.0.seen first whole n.2),
            ),
          ),
        ),
      ))

  -- a seat that holds is the only one, and has seen the whole history
  holder_is : (s : St) (r : Rule s) (id : ℕ) (v : View E C) → get_elem? s.views id ≡ some v → v.holds ≡ true → (j : ℕ) (u : View E C) → j ≢ id → get_elem? s.views j ≡ some u → u.holds ≡ true → ⊥
  holder_is s r id v at holds j u other e h = other ((r.only j u e h).1 ∙ sym (r.only id v at holds).1)

  -- the add to the count, by which an entry joins the history
  pub notes_entry : (slots id : ℕ) (m : M) (moment : ℕ) (entry : E) (announced : Option E) → 0 < m.0.step → m.0.holds ≡ true → announced ≡ Some entry
      → Allows Rule slots id m 1 (λ n. (n + 1) % 2 ^ 64) (Noted m.0.number moment announced (step slots 1 1 0 none) m)
  notes_entry slots id m moment entry announced some_step holds is s r long at small =
      let e : Made E = made m.0.number moment entry in let wide = r.wide in let o = r.only id m.0 at holds in let f = r.fits id m.0 at in let n = f.2 some_step in let w : View E C = with_entry m.0 e in let h : List (Made E) = r.history ++ e ∷ [] in
      let added : ℕ = (get_or s.words 1 0 + 1) % 2 ^ 64 in
      let still : get_or (set s.words 1 added) 0 0 ≡ owner s = get_or-set_other s.words 1 0 added 0 (λ e. omega arith) in
      let counted : added ≡ length h % 2 ^ 64 = ap (λ (k : ℕ). (k + 1) % 2 ^ 64) r.count ∙ (mod-add-mod (length r.history) (2 ^ 64) 1 ∙ ap (λ (k : ℕ). k % 2 ^ 64) (sym (length-append r.history (e ∷ [])))) in (
        w,
        keeps,
        tt,
        record {
          history = h;
          holder = id;
          wide = length-set s.words 1 added ∙ wide;
          owner = subst (λ (k : ℕ). k < 3) (sym still) r.owner;
          count = get_or-set_same s.words 1 added 0 (omega arith) ∙ counted;
          last = w;
          lasts = (set_here s.views id w (at_below s.views id m.0 at), some_step, (λ no. absurd (no (still ∙ o.0))), λ _. (holds, (r.lasts.3 o.0).1));
          home = λ no. absurd (no (still ∙ o.0));
          only = each_set (λ j u. u.holds ≡ true → (get_or (set s.words 1 added) 0 0 ≡ 1) × (j ≡ id) × (u.seen ≡ h)) s.views id w
              (λ _. (still ∙ o.0, refl, ap (λ (l : List (Made E)). l ++ e ∷ []) o.2)) (λ j u other at' h'. absurd (holder_is s r id m.0 at holds j u other at' h'));
          fits = each_set (λ j u. Fits c h u) s.views id w (
            subst (λ (l : List (Made E)). StartsWith h (l ++ e ∷ [])) (sym o.2) (starts_same h),
            starts_longer r.history m.0.told (e ∷ []) f.1,
            λ _. (n.0, noted_mine m.0 e r.history refl some_step n.1, noted_mine m.0 e m.0.seen refl some_step n.2),
          )
              (λ j u other at'. let g = r.fits j u at' in (
                starts_longer r.history u.seen (e ∷ []) g.0,
                starts_longer r.history u.told (e ∷ []) g.1,
                λ p. let k = g.2 p in (k.0, other_mine u e r.history (λ i same. r.apart j id u m.0 at' at other p some_step i 0 (same ∙ sym (owns-zero m.0))) k.1, k.2),
              ));
          apart = apart_set s.views id m.0 w at r.apart (owns_same m.0);
        },
        (λ x told. ap (λ (y : E). (with_entry m.0 (made m.0.number moment y), m.1)) (some_same entry x (sym is ∙ told))),
      )

  -- the store of the owner word that leaves the lock
  pub leaves_lock : (slots id : ℕ) (v : View E C) (value : K) (more : List (ℕ × Option K)) (m : M) (to : ℕ) → m ≡ (v, (0, Some value) ∷ more) → 0 < v.step → v.holds ≡ true
      → IsEnding stands pending conf v to value
      → Allows Rule slots id m 0 (λ _. to) (λ _. Left (step slots 0 to 0 none) m to)
  leaves_lock slots id v value more m to is some_step holds ending =
      subst (λ (x : M). Allows Rule slots id x 0 (λ _. to) (λ _. Left (step slots 0 to 0 none) x to)) (sym is) leaves
    where
      leaves : Allows Rule slots id (v, (0, Some value) ∷ more) 0 (λ _. to) (λ _. Left (step slots 0 to 0 none) (v, (0, Some value) ∷ more) to)
      leaves s r long at small =
          let wide = r.wide in let three = ending.2 in let o = r.only id v at holds in let f = r.fits id v at in let n = f.2 some_step in let w : View E C = record v { holds = false; word = to } in
          let now : get_or (set s.words 0 to) 0 0 ≡ to = get_or-set_same s.words 0 to 0 (omega arith) in
          let out = (r.lasts.3 o.0).1 in (
            w,
            gives,
            tt,
            record {
              history = r.history;
              holder = id;
              wide = length-set s.words 0 to ∙ wide;
              owner = omega (arith, now);
              count = get_or-set_other s.words 0 1 to 0 (λ e. omega arith) ∙ r.count;
              last = w;
              lasts = (set_here s.views id w (at_below s.views id v at), some_step, (λ _. sym now), λ one. absurd (ending.3 (sym now ∙ one)));
              home = λ _. (value, set_here s.homes 0 (some (Some value)) (at_below s.homes 0 none out), (subst (stands value) o.2 ending.0, some_same (conf value) c (sym ending.1 ∙ n.0), λ is. ending.4 (sym now ∙ is)));
              only = each_set (λ j u. u.holds ≡ true → (get_or (set s.words 0 to) 0 0 ≡ 1) × (j ≡ id) × (u.seen ≡ r.history)) s.views id w
                  (λ no. cc) (λ j u other at' h'. absurd (holder_is s r id v at holds j u other at' h'));
              fits = each_set (λ j u. Fits c r.history u) s.views id w (f.0, f.1, λ _. n) (λ j u _ e. r.fits j u e);
              apart = apart_set s.views id v w at r.apart (owns_same v);
            },
            refl,
          )

  -- a pass stays one, and keeps the owner word that it knows
  abbrev Keeps : View E C → View E C → Type 0
  Keeps v w = 0 < v.step → (0 < w.step) × (w.word ≡ v.word)

  keeps_same : (v : View E C) → Keeps v v
  keeps_same v p = (p, refl)

  last_set : (s : St) (r : Rule s) (id : ℕ) (v w : View E C) → get_elem? s.views id ≡ some v → v.holds ≡ false → Keeps v w
      → (u : View E C) × IsLast stands pending conf (record { words = s.words; homes = s.homes; views = set s.views id w }) r.holder u
  last_set s r id v w at idle keep = let x = r.last in let l = r.lasts in dite (ℕ_discrete r.holder id)
      (λ same. let e : v ≡ x = same_place s.views id v x at (subst (λ (j : ℕ). get_elem? s.views j ≡ some x) same l.0) in let k = keep (subst (λ (u : View E C). 0 < u.step) (sym e) l.1) in (
        w,
        (
          subst (λ (j : ℕ). get_elem? (set s.views id w) j ≡ some w) (sym same) (set_here s.views id w (at_below s.views id v at)),
          k.0,
          (λ free. k.1 ∙ (ap (λ (u : View E C). u.word) e ∙ l.2 free)),
          λ one. absurd (not_both x.holds (l.3 one).0 (ap (λ (u : View E C). u.holds) (sym e) ∙ idle)),
        ),
      ))
      (λ other. (x, (set_else s.views id r.holder w other ∙ l.0, l.1, l.2, l.3)))

  -- a seat's view changes, and nothing else
  review : (s : St) (r : Rule s) (id : ℕ) (v w : View E C) → get_elem? s.views id ≡ some v → v.holds ≡ false → w.holds ≡ false → Fits c r.history w → OwnsOf v w → Keeps v w
      → Rule (record { words = s.words; homes = s.homes; views = set s.views id w })
  review s r id v w at idle still fit o k = record {
    history = r.history;
    holder = r.holder;
    wide = r.wide;
    owner = r.owner;
    count = r.count;
    last = (last_set s r id v w at idle k).0;
    lasts = (last_set s r id v w at idle k).1;
    home = r.home;
    only = each_set (λ j u. u.holds ≡ true → (owner s ≡ 1) × (j ≡ r.holder) × (u.seen ≡ r.history)) s.views id w (λ h. absurd (not_both w.holds h still)) (λ j u _ e. r.only j u e);
    fits = each_set (λ j u. Fits c r.history u) s.views id w fit (λ j u _ e. r.fits j u e);
    apart = apart_set s.views id v w at r.apart o;
  }

  -- a new seat comes with a view
  enrol : (s : St) (r : Rule s) (w : View E C) → w.holds ≡ false → Fits c r.history w → ((j : ℕ) (u : View E C) → get_elem? s.views j ≡ some u → Apart u w)
      → Rule (record { words = s.words; homes = s.homes; views = s.views ++ w ∷ [] })
  enrol s r w still fit apart = record {
    history = r.history;
    holder = r.holder;
    wide = r.wide;
    owner = r.owner;
    count = r.count;
    last = r.last;
    lasts = let l = r.lasts in (at_longer s.views (w ∷ []) r.holder r.last l.0, l.1, l.2, l.3);
    home = r.home;
    only = each_end (λ j u. u.holds ≡ true → (owner s ≡ 1) × (j ≡ r.holder) × (u.seen ≡ r.history)) s.views w (λ h. absurd (not_both w.holds h still)) (λ j u e. r.only j u e);
    fits = each_end (λ j u. Fits c r.history u) s.views w fit (λ j u e. r.fits j u e);
    apart = apart_end s.views w r.apart apart;
  }

  -- the load of the count, which sees the history
  pub looks_up : (slots id : ℕ) (m : M) → 0 < m.0.step → m.0.holds ≡ false → Allows Rule slots id m 1 (λ n. n) (Looked (step slots 1 0 0 none) m)
  looks_up slots id m some_step idle s r long at small = let wide = r.wide in let f = r.fits id m.0 at in let n = f.2 some_step in let w : View E C = record m.0 { seen = r.history; told = [] } in (
    w,
    keeps,
    tt,
    subst (λ (l : List ℕ). Rule (record { words = l; homes = s.homes; views = set s.views id w })) (sym (stored_again s.words 1 (get_or s.words 1 0) (omega arith) refl))
        (review s r id m.0 w at idle idle (starts_same r.history, (r.history, refl), λ _. (n.0, n.1, n.1)) (owns_same m.0) (keeps_same m.0)),
    (refl, refl, grown_by_others m.0.number r.history m.0.seen m.0.mine f.0 n.1.0 n.2.0, f.1, n.1),
  )

  -- the split that grants a new pass every second number
  pub splits_pass : (id : ℕ) (v : View E C) → 0 < v.step → v.holds ≡ false → Splits Rule id v (divided v) (granted v)
  unfolding review
  splits_pass id v some_step idle s r at = let f = r.fits id v at in let n = f.2 some_step in
      let first = review s r id v (divided v) at idle idle (f.0, f.1, λ _. (n.0, divided_mine v r.history n.1, divided_mine v v.seen n.2)) (λ _. (some_step, λ k. (2 * k, divided_owns v k))) (λ _. (omega arith, refl)) in
      enrol (record { words = s.words; homes = s.homes; views = set s.views id (divided v) }) first (granted v) idle
      (f.0, f.1, λ _. (n.0, granted_mine v r.history n.1, granted_mine v v.seen n.2))
      (each_set (λ j u. Apart u (granted v)) s.views id (divided v)
      (λ p q k l same. halves_differ v k l some_step same)
      (λ j u other e p q k l same. r.apart j id u v e at other p some_step k (2 * l + 1) (same ∙ granted_owns v l)))

  -- the split that cuts off a message with what was seen
  pub splits_message : (id : ℕ) (v : View E C) → v.holds ≡ false → Splits Rule id v v (bare v.seen)
  splits_message id v idle s r at = let f = r.fits id v at in
      subst (λ (l : List (View E C)). Rule (record { words = s.words; homes = s.homes; views = l ++ bare v.seen ∷ [] })) (sym (set_again s.views id v at))
      (enrol s r (bare v.seen) refl (f.0, (r.history, refl), λ p. absurd (omega arith)) (λ j u e p q. absurd (omega arith)))

  -- the join of a message, which a pass keeps until it looks
  pub joins_message : (id : ℕ) (v : View E C) (other : ℕ) (w : View E C) → v.holds ≡ false → w.holds ≡ false → w.step ≡ 0 → Joins Rule id v other w (informed v w) (bare [])
  unfolding review
  joins_message id v other w idle still unnumbered s r at differ there = let f = r.fits id v at in let both : View E C = informed v w in
      let g = r.fits other w (sym (set_else s.views id other both differ) ∙ there) in
      let first = review s r id v both at idle idle (f.0, g.0, f.2) (owns_same v) (keeps_same v) in
      review (record { words = s.words; homes = s.homes; views = set s.views id both }) first other w (bare []) there still refl
      ((r.history, refl), (r.history, refl), λ p. absurd (omega arith)) (λ p. absurd (omega arith)) (λ p. absurd (omega arith))

  -- the table at its start
  pub opens : (value : K) → stands value [] → pending value ≡ false → conf value ≡ c → Rule (opening (0 ∷ 0 ∷ []) (Some value ∷ []) (first_view c))
  opens value stood settled named = record {
    history = [];
    holder = 0;
    wide = refl;
    owner = omega arith;
    count = refl;
    last = first_view c;
    lasts = (refl, omega arith, (λ _. refl), λ one. absurd (omega arith));
    home = λ _. (value, refl, (stood, named, λ _. settled));
    only = each_end (λ j u. u.holds ≡ true → (0 ≡ 1) × (j ≡ 0) × (u.seen ≡ [])) [] (first_view c) (λ h. absurd (not_both false h refl)) (λ j u e. absurd (some-ne-none u (sym e)));
    fits = each_end (λ j u. Fits c [] u) [] (first_view c) (([], refl), ([], refl), λ _. (refl, (refl, λ k. refl), (refl, λ k. refl))) (λ j u e. absurd (some-ne-none u (sym e)));
    apart = apart_end [] (first_view c) (λ i j v w e. absurd (some-ne-none v (sym e))) (λ j u e. absurd (some-ne-none u (sym e)));
  }

  -- the table at its end
  abbrev Last : ℕ → View E C → List ℕ → List (Option K) → Type 0
  Last id v ws xs = Final (Seen Rule id v) ws xs

  not_held : (id : ℕ) (v : View E C) (ws : List ℕ) (xs : List (Option K)) (f : Last id v ws xs) → get_elem? ws 0 ≢ some 1 → owner f.0 ≢ 1
  not_held id v ws xs f other one = let wide = f.1.0.wide in other (ap (λ (l : List ℕ). get_elem? l 0) (sym f.2) ∙ (word_at f.0.words 0 (omega arith) ∙ ap some one))

  pub closes_home : (id : ℕ) (v : View E C) (ws : List ℕ) (xs : List (Option K)) → Last id v ws xs → get_elem? ws 0 ≢ some 1 → (x : K) × (get_elem? xs 0 ≡ some (Some x))
  closes_home id v ws xs f other = let h = f.1.0.home (not_held id v ws xs f other) in (h.0, f.4 0 (Some h.0) h.1)

  pub closes_whole : (lock : TableId) (id : ℕ) (v : View E C) (ws : List ℕ) (xs : List (Option K)) (x : K) → 0 < v.step → Last id v ws xs → get_elem? ws 0 ≢ some 1 → get_elem? xs 0 ≡ some (Some x)
      → IsWhole stands pending conf (known lock v) x
  closes_whole lock id v ws xs x some_step f other there =
      let r = f.1.0 in let h = r.home (not_held id v ws xs f other) in let g = r.fits id v f.1.1 in let n = g.2 some_step in
      subst (IsWhole stands pending conf (known lock v)) (some_same h.0 x (some-injective (Some h.0) (Some x) (sym (f.4 0 (Some h.0) h.1) ∙ there))) (
        r.history,
        h.2.0,
        grown_by_others v.number r.history v.seen v.mine g.0 n.1.0 n.2.0,
        n.1.0,
        n.0 ∙ ap Some (sym h.2.1),
        λ only. all_mine v r.history only.0 only.1 n.1 ∙ sym (all_mine v v.seen only.0 only.1 n.2),
      )

  pub closes_held : (lock : TableId) (id : ℕ) (v : View E C) (ws : List ℕ) (xs : List (Option K)) → v.holds ≡ false → Last id v ws xs → get_elem? ws 0 ≡ some 1
      → MayBeLeftHeld stands pending conf (known lock v)
  closes_held lock id v ws xs idle f held = let wide = f.1.0.wide in
      let one : owner f.0 ≡ 1 = some-injective (owner f.0) 1 (sym (word_at f.0.words 0 (omega arith)) ∙ (ap (λ (l : List ℕ). get_elem? l 0) f.2 ∙ held)) in
      (c, f.0, id, v, f.1.0, one, f.1.1, refl, idle)

  pub closes_alone : (id : ℕ) (v : View E C) (ws : List ℕ) (xs : List (Option K)) → 0 < v.step → v.holds ≡ false → v.number ≡ 0 → v.step ≡ 1 → Last id v ws xs → get_elem? ws 0 ≢ some 1
  closes_alone id v ws xs some_step idle first whole f held = let s = f.0 in let r = f.1.0 in let wide = r.wide in
      let one : owner s ≡ 1 = some-injective (owner s) 1 (sym (word_at s.words 0 (omega arith)) ∙ (ap (λ (l : List ℕ). get_elem? l 0) f.2 ∙ held)) in
      not_both v.holds (ap (λ (u : View E C). u.holds) (sym (only_seat s r id v f.1.1 some_step first whole)) ∙ (r.lasts.3 one).0) idle
