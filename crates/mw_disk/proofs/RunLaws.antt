-- Two runs of device calls, one after the other, make one run: in what they touch, what a crash since leaves, and how their
-- calls are counted.
-- Used by: mw_file, mw_plain, mw_world_file, mw_book, mw_simulator.
use Rattle.std.specs.Prelude.{◌≡◌, ◌<◌, ◌≤◌, ℕ, suc, ◌+◌, ◌-◌, ◌^◌, Bool, true, false, Some, List, [], ◌∷◌, ◌++◌, length, min, replicate, IsTrue}
use Rattle.std.proofs.Common.{refl, sym, ap, ◌∙◌, subst, inl, inr, arith, append_assoc, length-append}
use Rattle.std.proofs.lemmas.List.{get_or_past, length-replicate, replicate-append-replicate, append-nil}
use Rattle.std.proofs.lemmas.Bool.{cases_lt, false≢true}
use Rattle.mw_disk.specs.Facts.{Facts, MayLeave, IsSynced, Torn, Called, Spares, NothingNew, TearsAt, most_counted}
use Rattle.mw_disk.specs.Runs.{SameBut, Later, Touched, Fits, LeavesOnly, Good, Bad}

pub same_but_refl : (S : ℕ → Type 0) (bytes : List ℕ) → SameBut S bytes bytes
same_but_refl S bytes = record { size = refl; outside = λ k out. refl }

pub same_but_trans : (S : ℕ → Type 0) (a b c : List ℕ) → SameBut S a b → SameBut S b c → SameBut S a c
same_but_trans S a b c ab bc = record {
  size = bc.size ∙ ab.size;
  outside = λ k out. bc.outside k out ∙ ab.outside k out;
}

pub same_but_wider : (S T : ℕ → Type 0) (a b : List ℕ) → ((k : ℕ) → S k → T k) → SameBut S a b → SameBut T a b
same_but_wider S T a b wider ab = record { size = ab.size; outside = λ k out. ab.outside k (λ s. out (wider k s)) }

pub later_refl : (f : Facts) → Later f f
later_refl f = record { later = omega arith; honest = refl; past = λ k c le i. i; kept = λ k c le i. i }

pub later_trans : (a b c : Facts) → Later a b → Later b c → Later a c
later_trans a b c ab bc = record {
  later = let l = ab.later in let m = bc.later in omega arith;
  honest = bc.honest ∙ ab.honest;
  past = λ k i le left. ab.past k i le (bc.past k i (let l = ab.later in omega arith) left);
  kept = λ k i le left. bc.kept k i (let l = ab.later in omega arith) (ab.kept k i le left);
}

pub called_later : (old new : Facts) (ok : Bool) → Called old new ok → Later old new
called_later old new ok call = record { later = call.later; honest = call.honest; past = call.past; kept = call.kept }

-- an honest disk stays honest, and was honest before
pub still_honest : (old new : Facts) → Later old new → IsTrue old.honest → IsTrue new.honest
still_honest old new later honest = subst (λ (b : Bool). IsTrue b) (sym later.honest) honest

pub was_honest : (old new : Facts) → Later old new → IsTrue new.honest → IsTrue old.honest
was_honest old new later honest = subst (λ (b : Bool). IsTrue b) later.honest honest

-- the images of one moment, known by two names
image_at : (f : Facts) (j k : ℕ) (c : List ℕ) → j ≡ k → f.image j c → f.image k c
image_at f j k c same left = subst (λ (m : ℕ). f.image m c) same left

pub touched_none : (S : ℕ → Type 0) (f : Facts) → Touched S f f
touched_none S f = record {
  later = later_refl f;
  each = λ k c low high left. (c, image_at f k f.moment c (omega arith) left, same_but_refl S c);
  seen = same_but_refl S f.reads;
}

touched_each : (S : ℕ → Type 0) (a b c : Facts) → Touched S a b → Touched S b c
    → (k : ℕ) (i : List ℕ) → a.moment ≤ k → k ≤ c.moment → c.image k i → (d : List ℕ) × MayLeave a d × SameBut S d i
touched_each S a b c ab bc k i low high left = elim (cases_lt k b.moment) [
  | inl before ↦ ab.each k i low (omega arith) (bc.later.past k i (omega arith) left)
  | inr since ↦
      let t = bc.each k i since high left in
      let u = ab.each b.moment t.0 ab.later.later (omega arith) t.1 in
      (u.0, u.1, same_but_trans S u.0 t.0 i u.2 t.2)
]

pub touched_trans : (S : ℕ → Type 0) (a b c : Facts) → Touched S a b → Touched S b c → Touched S a c
touched_trans S a b c ab bc = record {
  later = later_trans a b c ab.later bc.later;
  each = touched_each S a b c ab bc;
  seen = same_but_trans S a.reads b.reads c.reads ab.seen bc.seen;
}

pub touched_wider : (S T : ℕ → Type 0) (old new : Facts) → ((k : ℕ) → S k → T k) → Touched S old new → Touched T old new
touched_wider S T old new wider touched = record {
  later = touched.later;
  each = λ k c low high left. let t = touched.each k c low high left in (t.0, t.1, same_but_wider S T t.0 c wider t.2);
  seen = same_but_wider S T old.reads new.reads wider touched.seen;
}

-- a write within the bytes that was cut short changes only bytes of its range
pub torn_same : (S : ℕ → Type 0) (at n : ℕ) (old new : List ℕ) → ((k : ℕ) → at ≤ k → k < at + n → S k) → at + n ≤ length old → Torn at n old new → SameBut S old new
torn_same S at n old new within fits torn = record {
  size = let l = torn.no_shorter in let m = torn.no_longer in omega arith;
  outside = λ k out. elim (cases_lt k (length old)) [
    | inl there ↦ elim (cases_lt k at) [
      | inl before ↦ torn.before k before there
      | inr from ↦ elim (cases_lt k (at + n)) [
        | inl in_range ↦ absurd (out (within k from in_range))
        | inr after ↦ torn.after k after there
      ]
    ]
    | inr past ↦
        let e : length new ≡ length old = (let l = torn.no_shorter in let m = torn.no_longer in omega arith) in
        get_or_past new k 0 (omega arith) ∙ sym (get_or_past old k 0 past)
  ];
}

-- what a crash during a call may leave is what it may leave at its start or at its end
call_each : (S : ℕ → Type 0) (old new : Facts) (ok : Bool) → Called old new ok
    → ((c : List ℕ) → MayLeave new c → (d : List ℕ) × MayLeave old d × SameBut S d c)
    → (k : ℕ) (c : List ℕ) → old.moment ≤ k → k ≤ new.moment → new.image k c → (d : List ℕ) × MayLeave old d × SameBut S d c
call_each S old new ok call now k c low high left = elim (cases_lt old.moment k) [
  | inl within ↦ now c (call.fresh k c within high left)
  | inr at_start ↦ (c, image_at old k old.moment c (omega arith) (call.past k c at_start left), same_but_refl S c)
]

-- a write within the bytes, whether it went well or not
pub touched_write : (S : ℕ → Type 0) (old new : Facts) (ok : Bool) → Called old new ok
    → (at n : ℕ) → TearsAt at n old new → Torn at n old.reads new.reads → ((k : ℕ) → at ≤ k → k < at + n → S k) → Fits old (at + n) → Touched S old new
touched_write S old new ok call at n tears torn within fits = record {
  later = called_later old new ok call;
  each = call_each S old new ok call (λ c left. let t = tears c left in
      (t.0, t.1, torn_same S at n t.0 c within (fits.left t.0 t.1) t.2));
  seen = torn_same S at n old.reads new.reads within fits.reads torn;
}

-- a read, a sync or a look at the length, whether it went well or not
pub touched_quiet : (S : ℕ → Type 0) (old new : Facts) (ok : Bool) → Called old new ok → NothingNew old new → new.reads ≡ old.reads → Touched S old new
touched_quiet S old new ok call nothing same = record {
  later = called_later old new ok call;
  each = call_each S old new ok call (λ c left. (c, nothing c left, same_but_refl S c));
  seen = subst (λ (bytes : List ℕ). SameBut S old.reads bytes) (sym same) (same_but_refl S old.reads);
}

-- a synced disk stays synced through such a call
pub rest_quiet : (old new : Facts) → IsSynced old → NothingNew old new → new.reads ≡ old.reads → IsSynced new
rest_quiet old new rest nothing same = λ c left. rest c (nothing c left) ∙ sym same

pub fits_rest : (f : Facts) (n : ℕ) → IsSynced f → n ≤ length f.reads → Fits f n
fits_rest f n rest long = record { reads = long; left = λ c left. let e = ap length (rest c left) in omega arith }

pub fits_after : (S : ℕ → Type 0) (old new : Facts) (n : ℕ) → Touched S old new → Fits old n → Fits new n
fits_after S old new n touched fits = record {
  reads = let e = touched.seen.size in let l = fits.reads in omega arith;
  left = λ c left.
      let t = touched.each new.moment c touched.later.later (omega arith) left in
      let e = t.2.size in
      let l = fits.left t.0 t.1 in
      omega arith;
}

pub fits_less : (f : Facts) (m n : ℕ) → m ≤ n → Fits f n → Fits f m
fits_less f m n less fits = record {
  reads = let l = fits.reads in omega arith;
  left = λ c left. let l = fits.left c left in omega arith;
}

-- if P holds of each old image with any bytes at these offsets, a crash leaves only bytes with P
pub leaves_touched : (S : ℕ → Type 0) (old new : Facts) {P : List ℕ → Type 0} → Touched S old new
    → ((d c : List ℕ) → MayLeave old d → SameBut S d c → P c) → LeavesOnly old new P
leaves_touched S old new touched has = record {
  later = touched.later;
  each = λ c left. let t = touched.each left.0 c left.1 left.2 left.3 in has t.0 c t.1 t.2;
}

-- the same from a synced disk, of what a read gave
pub leaves : (S : ℕ → Type 0) (old new : Facts) {P : List ℕ → Type 0} → IsSynced old → Touched S old new
    → ((c : List ℕ) → SameBut S old.reads c → P c) → LeavesOnly old new P
leaves S old new rest touched has = leaves_touched S old new touched
    (λ d c left same. has c (subst (λ (bytes : List ℕ). SameBut S bytes c) (rest d left) same))

-- the same if no call was made
pub leaves_same : (f : Facts) {P : List ℕ → Type 0} → ((c : List ℕ) → MayLeave f c → P c) → LeavesOnly f f P
leaves_same f has = record {
  later = later_refl f;
  each = λ c left. has c (image_at f left.0 f.moment c (let low = left.1 in let high = left.2 in omega arith) left.3);
}

pub leaves_wider : (old new : Facts) {P Q : List ℕ → Type 0} → ((c : List ℕ) → P c → Q c) → LeavesOnly old new P → LeavesOnly old new Q
leaves_wider old new wider only = record { later = only.later; each = λ c left. wider c (only.each c left) }

-- the same of one run after the other
pub leaves_more : (a b c : Facts) {P : List ℕ → Type 0} → LeavesOnly a b P → LeavesOnly b c P → LeavesOnly a c P
leaves_more a b c ab bc = record {
  later = later_trans a b c ab.later bc.later;
  each = λ i left. let low = left.1 in let high = left.2 in elim (cases_lt left.0 b.moment) [
    | inl before ↦ ab.each i (left.0, low, omega arith, bc.later.past left.0 i (omega arith) left.3)
    | inr since ↦ bc.each i (left.0, since, high, left.3)
  ];
}

-- the same of a crash now
pub leaves_now : (old new : Facts) {P : List ℕ → Type 0} → LeavesOnly old new P → (c : List ℕ) → MayLeave new c → P c
leaves_now old new only c left = only.each c (new.moment, only.later.later, omega arith, left)

-- what is known of one call, by two names of its number
plan_at : (f : Facts) (j k : ℕ) → j ≡ k → f.plan j ≡ f.plan k
plan_at f j k same = ap (λ (n : ℕ). f.plan n) same

pub good_none : (f : Facts) → Good 0 f f
good_none f = record {
  honest = refl;
  outcomes = λ honest fits. sym (append-nil f.outcomes);
  faults = refl;
  refused = refl;
  none_doomed = λ k low doomed. omega arith;
  plan = λ k. plan_at f k (0 + k) (omega arith);
}

pub good_call : (old new : Facts) → Called old new true → Good 1 old new
good_call old new call = record {
  honest = call.honest;
  outcomes = call.outcomes;
  faults = call.faults;
  refused = call.granted refl;
  none_doomed = λ k low doomed. false≢true (sym (call.doomed (plan_at old 0 k (omega arith) ∙ doomed)));
  plan = λ k. call.plan k ∙ plan_at old (suc k) (1 + k) (omega arith);
}

pub bad_call : (old new : Facts) → Called old new false → (IsTrue old.honest → Spares old new false) → Bad 1 old new
bad_call old new call spares = record {
  well = 0;
  fewer = omega arith;
  honest = call.honest;
  outcomes = λ honest fits. call.outcomes honest fits ∙ ap (λ (l : List Bool). l ++ false ∷ []) (sym (append-nil old.outcomes));
  faults = call.faults;
  spared = λ honest known. (spares honest).spared known refl;
  none_doomed = λ k low doomed. omega arith;
  plan = λ k. call.plan k ∙ plan_at old (suc k) (0 + suc k) (omega arith);
}

-- the outcomes of one run and then those of another are one list
joined : (xs : List Bool) (m n : ℕ) → (xs ++ replicate m true) ++ replicate n true ≡ xs ++ replicate (m + n) true
joined xs m n = append_assoc xs (replicate m true) (replicate n true) ∙ ap (λ (l : List Bool). xs ++ l) (replicate-append-replicate m n true)

longer : (xs ys : List Bool) (m n : ℕ) → ys ≡ xs ++ replicate m true → length xs + (m + n) < 2 ^ 64 → length ys + n < 2 ^ 64
longer xs ys m n is fits =
    let e = ap length is ∙ length-append xs (replicate m true) in
    let r = length-replicate m true in
    omega arith

still : (b c : Bool) → c ≡ b → IsTrue b → IsTrue c
still b c same honest = subst (λ (v : Bool). IsTrue v) (sym same) honest

-- after a run that went well, the calls of the next one have these numbers
plan_behind : (m : ℕ) (a b : Facts) → Good m a b → (k : ℕ) → m ≤ k → b.plan (k - m) ≡ a.plan k
plan_behind m a b ab k low = ab.plan (k - m) ∙ plan_at a (m + (k - m)) k (omega arith)

-- no call of two runs was known to fail
none_doomed_trans : (m n : ℕ) (a b : Facts) → Good m a b → ((k : ℕ) → k < n → b.plan k ≡ Some false → ⊥) → (k : ℕ) → k < m + n → a.plan k ≡ Some false → ⊥
none_doomed_trans m n a b ab none k low doomed = elim (cases_lt k m) [
  | inl before ↦ ab.none_doomed k before doomed
  | inr since ↦ none (k - m) (omega arith) (plan_behind m a b ab k since ∙ doomed)
]

pub good_trans : (m n : ℕ) (a b c : Facts) → Good m a b → Good n b c → Good (m + n) a c
good_trans m n a b c ab bc = record {
  honest = bc.honest ∙ ab.honest;
  outcomes = λ honest fits.
      let is = ab.outcomes honest (omega arith) in
      bc.outcomes (still a.honest b.honest ab.honest honest) (longer a.outcomes b.outcomes m n is fits)
      ∙ (ap (λ (l : List Bool). l ++ replicate n true) is ∙ joined a.outcomes m n);
  faults = bc.faults ∙ ab.faults;
  refused = bc.refused ∙ ab.refused;
  none_doomed = none_doomed_trans m n a b ab bc.none_doomed;
  plan = λ k. bc.plan k ∙ (ab.plan (n + k) ∙ plan_at a (m + (n + k)) (m + n + k) (omega arith));
}

pub then_bad : (m n : ℕ) (a b c : Facts) → Good m a b → Bad n b c → Bad (m + n) a c
then_bad m n a b c ab bc = record {
  well = m + bc.well;
  fewer = let l = bc.fewer in omega arith;
  honest = bc.honest ∙ ab.honest;
  outcomes = λ honest fits.
      let is = ab.outcomes honest (omega arith) in
      bc.outcomes (still a.honest b.honest ab.honest honest) (longer a.outcomes b.outcomes m n is fits)
      ∙ ap (λ (l : List Bool). l ++ false ∷ []) (ap (λ (l : List Bool). l ++ replicate bc.well true) is ∙ joined a.outcomes m bc.well);
  faults = bc.faults ∙ ap (λ (n : ℕ). min (n + 1) most_counted) ab.faults;
  spared = λ honest known. bc.spared (still a.honest b.honest ab.honest honest) (ab.plan bc.well ∙ known) ∙ ap (λ (n : ℕ). min (n + 1) most_counted) ab.refused;
  none_doomed = none_doomed_trans m bc.well a b ab bc.none_doomed;
  plan = λ k. bc.plan k ∙ (ab.plan (bc.well + suc k) ∙ plan_at a (m + (bc.well + suc k)) (m + bc.well + suc k) (omega arith));
}

pub bad_wider : (m n : ℕ) (old new : Facts) → m ≤ n → Bad m old new → Bad n old new
bad_wider m n old new wider bad = record {
  well = bad.well;
  fewer = let l = bad.fewer in omega arith;
  honest = bad.honest;
  outcomes = λ honest fits. bad.outcomes honest (omega arith);
  faults = bad.faults;
  spared = bad.spared;
  none_doomed = bad.none_doomed;
  plan = bad.plan;
}
