-- A disk in memory keeps the disk model: each call that it remembers, or that fails without a trace, meets the contract of
-- `Disk`.
-- Used by: all calls of MemDisk.
use Rattle.std.proofs.Common.{◌≡◌, ◌<◌, ◌≤◌, ◌-◌, ℕ, ◌+◌, ◌^◌, Bool, true, false, cond, Some, Result, Ok, Err, List, [], ◌∷◌, ◌++◌, length, take, drop, min, max, replicate, get_or, refl, sym, ap, ◌∙◌, subst, inl, inr, ◌⊎◌, leb, arith, append_assoc, length-append}
use Rattle.std.specs.List.{flat_map}
use Rattle.std.specs.Result.{IsErr, is_ok}
use Rattle.std.proofs.lemmas.List.{append-nil, take_all, take-append-le, drop_all, length-replicate, length-take, length-drop, get_or_append_left, get_or-take, get_or-drop, get_or-append_right, replicate_more, replicate-append-replicate}
use Rattle.std.proofs.lemmas.Bool.{cases_lt, false≢true, leb-true, le-leb}
use Rattle.mw_disk.specs.Facts.{MayLeave, IsSynced, Torn, Called, Spares, NothingNew, TearsAt, patched, most_counted}
use Rattle.mw_memory_disk.specs.Memory.{begun, next_turn, plan_of, State, only, padded, after, run, went_well, outcomes_of, Memory, state_at, bytes_of, memory_facts, logged, missed_once, refused_once, FailsAs, only_if}
use Rattle.mw_memory_disk.proofs.Plans.{plan_begun, not_doomed, goes_now}
use Rattle.mw_memory_disk.specs.declared.event.Event.{Event}
use Rattle.mw_memory_disk.specs.declared.event.Call.{Call}
use Rattle.mw_memory_disk.specs.declared.event.Call.TheVariants.{Quiet, Wrote, Tore, Synced}
use Rattle.mw_memory_disk.specs.declared.event.Turn.{Turn}
use Rattle.mw_memory_disk.specs.declared.event.Turn.TheVariants.{Goes, Fails, Stopped}

-- the disk remembers the call, and no other fact has changed
pub record Logs (call : Call) (old new : Memory) : Type 0 where
  pub first : new.first ≡ old.first
  pub log : new.log ≡ old.log ++ record { missed = old.missed; call = call } ∷ []
  pub missed : new.missed ≡ 0
  pub faults : new.faults ≡ cond (went_well call) old.faults (min (old.faults + 1) most_counted)
  pub refused : new.refused ≡ old.refused
  pub plan : (k : ℕ) → plan_of new k ≡ plan_of old k

pub logs_from : (call : Call) (old new : Memory) → new ≡ logged old call → Logs call old new
logs_from call old new is = record {
  first = ap (λ (m : Memory). m.first) is;
  log = ap (λ (m : Memory). m.log) is;
  missed = ap (λ (m : Memory). m.missed) is;
  faults = ap (λ (m : Memory). m.faults) is;
  refused = ap (λ (m : Memory). m.refused) is;
  plan = λ k. ap (λ (m : Memory). plan_of m k) is;
}

-- the call has failed without a trace
pub record Misses (old new : Memory) : Type 0 where
  pub first : new.first ≡ old.first
  pub log : new.log ≡ old.log
  pub missed : new.missed ≡ min (old.missed + 1) most_counted
  pub faults : new.faults ≡ min (old.faults + 1) most_counted
  pub plan : (k : ℕ) → plan_of new k ≡ plan_of old k

misses_from : (old new : Memory) → new ≡ missed_once old → Misses old new
misses_from old new is = record {
  first = ap (λ (m : Memory). m.first) is;
  log = ap (λ (m : Memory). m.log) is;
  missed = ap (λ (m : Memory). m.missed) is;
  faults = ap (λ (m : Memory). m.faults) is;
  plan = λ k. ap (λ (m : Memory). plan_of m k) is;
}

pub refused_from : (old new : Memory) → new ≡ refused_once old → Misses old new
refused_from old new is = record {
  first = ap (λ (m : Memory). m.first) is;
  log = ap (λ (m : Memory). m.log) is;
  missed = ap (λ (m : Memory). m.missed) is;
  faults = ap (λ (m : Memory). m.faults) is;
  plan = λ k. ap (λ (m : Memory). plan_of m k) is;
}

-- the call has failed, and the disk remembers it or not
abbrev pub FailsBy : Call → Memory → Memory → Type 0
FailsBy call old new = Misses old new ⊎ Logs call old new

pub fails_from : (call : Call) (turn : Turn) (old new : Memory) → FailsAs call turn old new → FailsBy call old new
fails_from call Stopped old new fails = inl (misses_from old new fails)
fails_from call Goes old new fails = inl (refused_from old new fails)
fails_from call Fails old new fails = elim fails [ inl logs ↦ inr (logs_from call old new logs) | inr refused ↦ inl (refused_from old new refused) ]

-- ---- one more call

pub run_push : (s : State) (es : List Event) (e : Event) → run s (es ++ e ∷ []) ≡ after (run s es) e.call
run_push s [] e = refl
run_push s (d ∷ es) e = run_push (after s d.call) es e

pub bytes_push : (first : List ℕ) (es : List Event) (e : Event) → bytes_of first (es ++ e ∷ []) ≡ (after (run (only first) es) e.call).bytes
bytes_push first es e = ap (λ (s : State). s.bytes) (run_push (only first) es e)

outcomes_push : (es : List Event) (e : Event) → flat_map outcomes_of (es ++ e ∷ []) ≡ flat_map outcomes_of es ++ outcomes_of e
outcomes_push [] e = append-nil (outcomes_of e)
outcomes_push (d ∷ es) e =
    ap (λ (l : List Bool). outcomes_of d ++ l) (outcomes_push es e) ∙ sym (append_assoc (outcomes_of d) (flat_map outcomes_of es) (outcomes_of e))

-- ---- writes cut short

pub torn_none : (at n : ℕ) (bytes : List ℕ) → Torn at n bytes bytes
torn_none at n bytes = record {
  before = λ k below there. refl;
  after = λ k above there. refl;
  no_shorter = omega arith;
  no_longer = omega arith;
}

pub length-padded : (bytes : List ℕ) (at : ℕ) → length (padded bytes at) ≡ max (length bytes) at
length-padded bytes at =
    let a = length-append bytes (replicate (at - length bytes) 0) in
    let r = length-replicate {A = ℕ} (at - length bytes) 0 in
    omega arith

length-patched : (old : List ℕ) (at : ℕ) (block : List ℕ) → at ≤ length old → length (patched old at block) ≡ max (length old) (at + length block)
length-patched old at block fits =
    let a = length-append (take at old) (block ++ drop (at + length block) old) in
    let b = length-append block (drop (at + length block) old) in
    let t = length-take at old in
    let d = length-drop (at + length block) old in
    omega arith

-- the bytes before and after a block that was written
patched_before : (old : List ℕ) (at : ℕ) (block : List ℕ) (k : ℕ) → k < at → k < length old → get_or (patched old at block) k 0 ≡ get_or old k 0
patched_before old at block k below there =
    let t = length-take at old in
    get_or_append_left (take at old) (block ++ drop (at + length block) old) 0 k (omega arith) ∙ get_or-take at old k 0 below

patched_after : (old : List ℕ) (at : ℕ) (block : List ℕ) (k : ℕ) → at ≤ length old → at + length block ≤ k → get_or (patched old at block) k 0 ≡ get_or old k 0
patched_after old at block k fits above =
    let n : length (take at old) ≡ at = length-take at old ∙ omega arith in
    get_or-append_right (take at old) (block ++ drop (at + length block) old) at k 0 n (omega arith)
    ∙ (get_or-append_right block (drop (at + length block) old) (length block) (k - at) 0 refl (omega arith)
    ∙ (get_or-drop (at + length block) old (k - at - length block) 0
    ∙ ap (λ (i : ℕ). get_or old i 0) (let e : at + length block + (k - at - length block) ≡ k = omega arith in e)))

-- a write that went well is a case of a torn write
pub torn_patched : (old : List ℕ) (at : ℕ) (block : List ℕ) → Torn at (length block) old (patched (padded old at) at block)
torn_patched old at block =
    let p = length-padded old at in
    let l = length-patched (padded old at) at block (omega arith) in
    record {
      before = λ k below there. patched_before (padded old at) at block k below (omega arith)
          ∙ get_or_append_left old (replicate (at - length old) 0) 0 k there;
      after = λ k above there. patched_after (padded old at) at block k (omega arith) above
          ∙ get_or_append_left old (replicate (at - length old) 0) 0 k there;
      no_shorter = omega arith;
      no_longer = omega arith;
    }

-- a write that begins within the bytes needs no zeros
pub padded_none : (old : List ℕ) (at : ℕ) → at ≤ length old → padded old at ≡ old
padded_none old at fits =
    let z : at - length old ≡ 0 = omega arith in
    rw z (append-nil old)

-- ---- what a read gives is an image of now

stays_left : (s : State) (call : Call) → s.left s.bytes → (after s call).left (after s call).bytes
stays_left s (Quiet well) left = left
stays_left s (Wrote at block) left = (s.bytes, left, torn_patched s.bytes at block)
stays_left s (Tore at len) left = (s.bytes, left, torn_none at len s.bytes)
stays_left s Synced left = refl

run_left : (s : State) (es : List Event) → s.left s.bytes → (run s es).left (run s es).bytes
run_left s [] left = left
run_left s (e ∷ es) left = run_left (after s e.call) es (stays_left s e.call left)

-- the images of now are those after all calls
pub from_now : (m : Memory) (c : List ℕ) → MayLeave (memory_facts m) c → (run (only m.first) m.log).left c
from_now m c left = subst (λ (l : List Event). (run (only m.first) l).left c) (take_all (length m.log) m.log (omega arith)) left

pub to_now : (m : Memory) (c : List ℕ) → (run (only m.first) m.log).left c → MayLeave (memory_facts m) c
to_now m c left = subst (λ (l : List Event). (run (only m.first) l).left c) (sym (take_all (length m.log) m.log (omega arith))) left

pub reads_left : (m : Memory) → MayLeave (memory_facts m) (memory_facts m).reads
reads_left m = to_now m (memory_facts m).reads (run_left (only m.first) m.log refl)

-- ---- a call that is remembered

pub logs_state : (call : Call) (old new : Memory) → Logs call old new → run (only new.first) new.log ≡ after (run (only old.first) old.log) call
logs_state call old new logs =
    ap (λ (l : List Event). run (only new.first) l) logs.log
    ∙ (ap (λ (f : List ℕ). run (only f) (old.log ++ record { missed = old.missed; call = call } ∷ [])) logs.first
    ∙ run_push (only old.first) old.log (record { missed = old.missed; call = call }))

pub logs_reads : (call : Call) (old new : Memory) → Logs call old new → (memory_facts new).reads ≡ (after (run (only old.first) old.log) call).bytes
logs_reads call old new logs = ap (λ (s : State). s.bytes) (logs_state call old new logs)

pub logs_left : (call : Call) (old new : Memory) → Logs call old new → (c : List ℕ) → MayLeave (memory_facts new) c → (after (run (only old.first) old.log) call).left c
logs_left call old new logs c left = subst (λ (s : State). s.left c) (logs_state call old new logs) (from_now new c left)

longer_log : (call : Call) (old new : Memory) → Logs call old new → length new.log ≡ length old.log + 1
longer_log call old new logs = ap length logs.log ∙ length-append old.log (record { missed = old.missed; call = call } ∷ [])

-- the state of a past moment stays
logs_past : (call : Call) (old new : Memory) → Logs call old new → (k : ℕ) → k ≤ length old.log → state_at new k ≡ state_at old k
logs_past call old new logs k past =
    ap (λ (l : List Event). run (only new.first) (take k l)) logs.log
    ∙ (ap (λ (f : List ℕ). run (only f) (take k (old.log ++ record { missed = old.missed; call = call } ∷ []))) logs.first
    ∙ ap (λ (l : List Event). run (only old.first) l) (take-append-le k old.log (record { missed = old.missed; call = call } ∷ []) past))

logs_outcomes : (call : Call) (old new : Memory) → Logs call old new → (memory_facts new).outcomes ≡ (memory_facts old).outcomes ++ went_well call ∷ []
logs_outcomes call old new logs =
    let e : Event = record { missed = old.missed; call = call } in
    let gone : (memory_facts new).outcomes ≡ flat_map outcomes_of new.log ++ [] = ap (λ (n : ℕ). flat_map outcomes_of new.log ++ replicate n false) logs.missed in
    gone ∙ (append-nil (flat_map outcomes_of new.log)
    ∙ (ap (λ (l : List Event). flat_map outcomes_of l) logs.log
    ∙ (outcomes_push old.log e
    ∙ sym (append_assoc (flat_map outcomes_of old.log) (replicate old.missed false) (went_well call ∷ [])))))

-- the facts after a call was begun and remembered; if it goes well it was not known to fail
pub logs_called : (call : Call) (ok : Bool) (old new : Memory) → went_well call ≡ ok → (plan_of old 0 ≡ Some false → ok ≡ false) → Logs call (begun old) new
    → Called (memory_facts old) (memory_facts new) ok
logs_called call ok old new is doomed logs = record {
  later = let n = longer_log call (begun old) new logs in omega arith;
  honest = refl;
  past = λ k c le left. subst (λ (s : State). s.left c) (logs_past call (begun old) new logs k le) left;
  kept = λ k c le left. subst (λ (s : State). s.left c) (sym (logs_past call (begun old) new logs k le)) left;
  fresh = λ k c low high left.
      let n = longer_log call (begun old) new logs in
      let e : k ≡ length new.log = omega arith in
      subst (λ (j : ℕ). (state_at new j).left c) e left;
  outcomes = λ honest fits. subst (λ (b : Bool). (memory_facts new).outcomes ≡ (memory_facts old).outcomes ++ b ∷ []) is (logs_outcomes call (begun old) new logs);
  faults = subst (λ (b : Bool). new.faults ≡ cond b old.faults (min (old.faults + 1) most_counted)) is logs.faults;
  plan = λ k. logs.plan k ∙ plan_begun old k;
  doomed = doomed;
  granted = λ well. logs.refused;
  seen = λ honest. reads_left new;
}

-- ---- a call that leaves no trace

misses_state : (old new : Memory) → Misses old new → (k : ℕ) → state_at new k ≡ state_at old k
misses_state old new misses k =
    ap (λ (l : List Event). run (only new.first) (take k l)) misses.log ∙ ap (λ (f : List ℕ). run (only f) (take k old.log)) misses.first

pub misses_reads : (old new : Memory) → Misses old new → (memory_facts new).reads ≡ (memory_facts old).reads
misses_reads old new misses = ap (λ (l : List Event). bytes_of new.first l) misses.log ∙ ap (λ (f : List ℕ). bytes_of f old.log) misses.first

pub misses_nothing : (old new : Memory) → Misses old new → NothingNew (memory_facts old) (memory_facts new)
misses_nothing old new misses c left =
    let same : length new.log ≡ length old.log = ap length misses.log in
    subst (λ (s : State). s.left c) (misses_state old new misses (length old.log)) (subst (λ (j : ℕ). (state_at new j).left c) same left)

misses_outcomes : (old new : Memory) → Misses old new → length (memory_facts old).outcomes + 1 < 2 ^ 64 → (memory_facts new).outcomes ≡ (memory_facts old).outcomes ++ false ∷ []
misses_outcomes old new misses fits =
    let a = length-append (flat_map outcomes_of old.log) (replicate old.missed false) in
    let r = length-replicate old.missed false in
    let n : new.missed ≡ old.missed + 1 = misses.missed ∙ omega arith in
    ap (λ (l : List Event). flat_map outcomes_of l ++ replicate new.missed false) misses.log
    ∙ (ap (λ (j : ℕ). flat_map outcomes_of old.log ++ replicate j false) n
    ∙ (ap (λ (l : List Bool). flat_map outcomes_of old.log ++ l) (sym (replicate_more old.missed false))
    ∙ sym (append_assoc (flat_map outcomes_of old.log) (replicate old.missed false) (false ∷ []))))

pub misses_called : (old new : Memory) → Misses (begun old) new → Called (memory_facts old) (memory_facts new) false
misses_called old new misses = record {
  later = let n : length new.log ≡ length old.log = ap length misses.log in omega arith;
  honest = refl;
  past = λ k c le left. subst (λ (s : State). s.left c) (misses_state (begun old) new misses k) left;
  kept = λ k c le left. subst (λ (s : State). s.left c) (sym (misses_state (begun old) new misses k)) left;
  fresh = λ k c low high left. absurd (let n : length new.log ≡ length old.log = ap length misses.log in let e : ⊥ = omega arith in e);
  outcomes = λ honest fits. misses_outcomes (begun old) new misses fits;
  faults = misses.faults;
  plan = λ k. misses.plan k ∙ plan_begun old k;
  doomed = λ known. refl;
  granted = λ well. cc;
  seen = λ honest. reads_left new;
}

-- ---- the clauses of each call: mid is the disk after the call was begun

quiet_logs_nothing : (well : Bool) (old new : Memory) → Logs (Quiet well) old new → NothingNew (memory_facts old) (memory_facts new)
quiet_logs_nothing well old new logs c left = to_now old c (logs_left (Quiet well) old new logs c left)

fails_begun : (call : Call) (turn : Turn) (old mid new : Memory) → mid ≡ begun old → FailsAs call turn mid new → FailsBy call (begun old) new
fails_begun call turn old mid new is fails = subst (λ (m : Memory). FailsBy call m new) is (fails_from call turn mid new fails)

logs_begun : (call : Call) (old mid new : Memory) → mid ≡ begun old → new ≡ logged mid call → Logs call (begun old) new
logs_begun call old mid new is logs = subst (λ (m : Memory). Logs call m new) is (logs_from call mid new logs)

refused_begun : (old mid new : Memory) → mid ≡ begun old → new ≡ refused_once mid → Misses (begun old) new
refused_begun old mid new is refused = subst (λ (m : Memory). Misses m new) is (refused_from mid new refused)

-- a call that went well
pub went_called : (call : Call) (turn : Turn) (old mid new : Memory) → went_well call ≡ true → turn ≡ next_turn old → turn ≡ Goes → mid ≡ begun old → new ≡ logged mid call
    → Called (memory_facts old) (memory_facts new) true
went_called call turn old mid new well its goes is logs =
    logs_called call true old new well (λ doomed. absurd (not_doomed old (sym its ∙ goes) doomed)) (logs_begun call old mid new is logs)

pub went_spared : (old new : Memory) → Spares (memory_facts old) (memory_facts new) true
went_spared old new = record { spared = λ known failed. cc }

-- a call that failed
pub fails_called : (call : Call) (turn : Turn) (old mid new : Memory) → went_well call ≡ false → mid ≡ begun old → FailsAs call turn mid new
    → Called (memory_facts old) (memory_facts new) false
fails_called call turn old mid new failed is fails = elim (fails_begun call turn old mid new is fails) [
  | inl misses ↦ misses_called old new misses
  | inr logs ↦ logs_called call false old new failed (λ doomed. refl) logs
]

-- a call that was refused memory
pub refused_called : (old mid new : Memory) → mid ≡ begun old → new ≡ refused_once mid → Called (memory_facts old) (memory_facts new) false
refused_called old mid new is refused = misses_called old new (refused_begun old mid new is refused)

pub refused_spared : (old mid new : Memory) → mid ≡ begun old → new ≡ refused_once mid → Spares (memory_facts old) (memory_facts new) false
refused_spared old mid new is refused = record {
  spared = λ known failed. ap (λ (m : Memory). m.refused) refused ∙ ap (λ (m : Memory). min (m.refused + 1) most_counted) is;
}

goes_refused : (call : Call) (turn : Turn) (old new : Memory) → turn ≡ Goes → FailsAs call turn old new → new ≡ refused_once old
goes_refused call turn old new goes fails = subst (λ (t : Turn). FailsAs call t old new) goes fails

pub fails_spared : (call : Call) (turn : Turn) (old mid new : Memory) → turn ≡ next_turn old → mid ≡ begun old → FailsAs call turn mid new
    → Spares (memory_facts old) (memory_facts new) false
fails_spared call turn old mid new its is fails = record {
  spared = λ known failed.
      let refused = goes_refused call turn mid new (its ∙ goes_now old known) fails in
      (refused_spared old mid new is refused).spared known refl;
}

pub fails_nothing : (turn : Turn) (old mid new : Memory) → mid ≡ begun old → FailsAs (Quiet false) turn mid new → NothingNew (memory_facts old) (memory_facts new)
fails_nothing turn old mid new is fails = elim (fails_begun (Quiet false) turn old mid new is fails) [
  | inl misses ↦ misses_nothing (begun old) new misses
  | inr logs ↦ quiet_logs_nothing false (begun old) new logs
]

pub fails_same : (turn : Turn) (old mid new : Memory) → mid ≡ begun old → FailsAs (Quiet false) turn mid new → (memory_facts new).reads ≡ (memory_facts old).reads
fails_same turn old mid new is fails = elim (fails_begun (Quiet false) turn old mid new is fails) [
  | inl misses ↦ misses_reads (begun old) new misses
  | inr logs ↦ logs_reads (Quiet false) (begun old) new logs
]

pub fails_tears : (turn : Turn) (at n : ℕ) (old mid new : Memory) → mid ≡ begun old → FailsAs (Tore at n) turn mid new → TearsAt at n (memory_facts old) (memory_facts new)
fails_tears turn at n old mid new is fails c left = elim (fails_begun (Tore at n) turn old mid new is fails) [
  | inl misses ↦ (c, misses_nothing (begun old) new misses c left, torn_none at n c)
  | inr logs ↦ let t = logs_left (Tore at n) (begun old) new logs c left in (t.0, to_now (begun old) t.0 t.1, t.2)
]

torn_same : (at n : ℕ) (old new : List ℕ) → new ≡ old → Torn at n old new
torn_same at n old new same = subst (λ (l : List ℕ). Torn at n old l) (sym same) (torn_none at n old)

pub fails_torn : (turn : Turn) (at n : ℕ) (old mid new : Memory) → mid ≡ begun old → FailsAs (Tore at n) turn mid new → Torn at n (memory_facts old).reads (memory_facts new).reads
fails_torn turn at n old mid new is fails = elim (fails_begun (Tore at n) turn old mid new is fails) [
  | inl misses ↦ torn_same at n (memory_facts old).reads (memory_facts new).reads (misses_reads (begun old) new misses)
  | inr logs ↦ torn_same at n (memory_facts old).reads (memory_facts new).reads (logs_reads (Tore at n) (begun old) new logs)
]

pub refused_nothing : (old mid new : Memory) → mid ≡ begun old → new ≡ refused_once mid → NothingNew (memory_facts old) (memory_facts new)
refused_nothing old mid new is misses = misses_nothing (begun old) new (refused_begun old mid new is misses)

pub refused_same : (old mid new : Memory) → mid ≡ begun old → new ≡ refused_once mid → (memory_facts new).reads ≡ (memory_facts old).reads
refused_same old mid new is misses = misses_reads (begun old) new (refused_begun old mid new is misses)

pub refused_tears : (at n : ℕ) (old mid new : Memory) → mid ≡ begun old → new ≡ refused_once mid → TearsAt at n (memory_facts old) (memory_facts new)
refused_tears at n old mid new is misses c left = (c, refused_nothing old mid new is misses c left, torn_none at n c)

pub refused_torn : (at n : ℕ) (old mid new : Memory) → mid ≡ begun old → new ≡ refused_once mid → Torn at n (memory_facts old).reads (memory_facts new).reads
refused_torn at n old mid new is misses = torn_same at n (memory_facts old).reads (memory_facts new).reads (refused_same old mid new is misses)

pub quiet_nothing : (old mid new : Memory) → mid ≡ begun old → new ≡ logged mid (Quiet true) → NothingNew (memory_facts old) (memory_facts new)
quiet_nothing old mid new is logs = quiet_logs_nothing true (begun old) new (logs_begun (Quiet true) old mid new is logs)

pub quiet_same : (old mid new : Memory) → mid ≡ begun old → new ≡ logged mid (Quiet true) → (memory_facts new).reads ≡ (memory_facts old).reads
quiet_same old mid new is logs = logs_reads (Quiet true) (begun old) new (logs_begun (Quiet true) old mid new is logs)

-- if a call with a condition may go well, the disk lets the next call go well
goes_turn : (fits : Bool) (turn : Turn) → only_if fits turn ≡ Goes → turn ≡ Goes
goes_turn true turn is = is
goes_turn false Goes is = refl
goes_turn false Fails is = cc
goes_turn false Stopped is = cc

-- a read that went well
pub read_called : (turn asked : Turn) (fits : Bool) (old mid new : Memory) → turn ≡ next_turn old → asked ≡ only_if fits turn → asked ≡ Goes → mid ≡ begun old
    → new ≡ logged mid (Quiet true) → Called (memory_facts old) (memory_facts new) true
read_called turn asked fits old mid new its made goes is logs =
    went_called (Quiet true) turn old mid new refl its (goes_turn fits turn (sym made ∙ goes)) is logs

-- a read that failed, if the bytes are there
pub read_spared : (at n : ℕ) (turn asked : Turn) (fits : Bool) (old mid new : Memory) → turn ≡ next_turn old → asked ≡ only_if fits turn
    → fits ≡ leb (at + n) (length (memory_facts mid).reads) → mid ≡ begun old → FailsAs (Quiet false) asked mid new
    → at + n ≤ length (memory_facts old).reads → Spares (memory_facts old) (memory_facts new) false
read_spared at n turn asked fits old mid new its made tests is fails there =
    let e : length (memory_facts mid).reads ≡ length (memory_facts old).reads = ap (λ (m : Memory). length (memory_facts m).reads) is in
    let holds : leb (at + n) (length (memory_facts mid).reads) ≡ true = le-leb (at + n) (length (memory_facts mid).reads) (omega arith) in
    fails_spared (Quiet false) asked old mid new (made ∙ (ap (λ (b : Bool). only_if b turn) (tests ∙ holds) ∙ its)) is fails

-- a call that goes well meets its condition
goes_if : (fits : Bool) (turn : Turn) → only_if fits turn ≡ Goes → fits ≡ true
goes_if true turn is = refl
goes_if false Goes is = cc
goes_if false Fails is = cc
goes_if false Stopped is = cc

-- the bytes of a read that goes well are there, before it and after it
pub read_there : (at n : ℕ) (turn asked : Turn) (fits : Bool) (old mid new : Memory) → mid ≡ begun old → new ≡ logged mid (Quiet true)
    → fits ≡ leb (at + n) (length (memory_facts mid).reads) → asked ≡ only_if fits turn → asked ≡ Goes
    → (at + n ≤ length (memory_facts old).reads) × (at + n ≤ length (memory_facts new).reads)
read_there at n turn asked fits old mid new is logs tests made goes =
    let there : at + n ≤ length (memory_facts mid).reads = leb-true (at + n) (length (memory_facts mid).reads) (sym tests ∙ goes_if fits turn (sym made ∙ goes)) in
    let e : length (memory_facts mid).reads ≡ length (memory_facts old).reads = ap (λ (m : Memory). length (memory_facts m).reads) is in
    let f = ap length (logs_reads (Quiet true) mid new (logs_from (Quiet true) mid new logs)) in
    (omega arith, omega arith)

pub sync_same : (old mid new : Memory) → mid ≡ begun old → new ≡ logged mid Synced → (memory_facts new).reads ≡ (memory_facts old).reads
sync_same old mid new is logs = logs_reads Synced (begun old) new (logs_begun Synced old mid new is logs)

pub sync_rest : (old mid new : Memory) → mid ≡ begun old → new ≡ logged mid Synced → IsSynced (memory_facts new)
sync_rest old mid new is logs c left =
    logs_left Synced (begun old) new (logs_begun Synced old mid new is logs) c left ∙ sym (sync_same old mid new is logs)

pub sync_nothing : (old mid new : Memory) → mid ≡ begun old → new ≡ logged mid Synced → NothingNew (memory_facts old) (memory_facts new)
sync_nothing old mid new is logs c left =
    subst (λ (l : List ℕ). MayLeave (memory_facts old) l) (sym (sync_rest old mid new is logs c left ∙ sync_same old mid new is logs)) (reads_left old)

pub wrote_tears : (at : ℕ) (block : List ℕ) (old mid new : Memory) → mid ≡ begun old → new ≡ logged mid (Wrote at block) → TearsAt at (length block) (memory_facts old) (memory_facts new)
wrote_tears at block old mid new is logs c left =
    let t = logs_left (Wrote at block) (begun old) new (logs_begun (Wrote at block) old mid new is logs) c left in
    (t.0, to_now old t.0 t.1, t.2)

wrote_reads : (at : ℕ) (block : List ℕ) (old mid new : Memory) → mid ≡ begun old → new ≡ logged mid (Wrote at block) → (memory_facts new).reads ≡ patched (padded (memory_facts old).reads at) at block
wrote_reads at block old mid new is logs = logs_reads (Wrote at block) (begun old) new (logs_begun (Wrote at block) old mid new is logs)

pub wrote_torn : (at : ℕ) (block : List ℕ) (old mid new : Memory) → mid ≡ begun old → new ≡ logged mid (Wrote at block) → Torn at (length block) (memory_facts old).reads (memory_facts new).reads
wrote_torn at block old mid new is logs =
    subst (λ (l : List ℕ). Torn at (length block) (memory_facts old).reads l) (sym (wrote_reads at block old mid new is logs)) (torn_patched (memory_facts old).reads at block)

pub wrote_written : (at : ℕ) (block : List ℕ) (old mid new : Memory) → mid ≡ begun old → new ≡ logged mid (Wrote at block)
    → at ≤ length (memory_facts old).reads → (memory_facts new).reads ≡ patched (memory_facts old).reads at block
wrote_written at block old mid new is logs fits =
    wrote_reads at block old mid new is logs ∙ ap (λ (l : List ℕ). patched l at block) (padded_none (memory_facts old).reads at fits)

-- ---- the bytes of a write, in place

grown : (old : List ℕ) (at : ℕ) (block : List ℕ) → length old < at + length block
    → patched (old ++ replicate (at + length block - length old) 0) at block ≡ patched (padded old at) at block
grown old at block grows =
    let gap : ℕ = at - length old in
    let zeros : List ℕ = replicate (at + length block - length old) 0 in
    let p = length-padded old at in
    let a = length-append old zeros in
    let r = length-replicate {A = ℕ} (at + length block - length old) 0 in
    let more : old ++ zeros ≡ padded old at ++ replicate (at + length block - length old - gap) 0 =
    ap (λ (l : List ℕ). old ++ l) (ap (λ (n : ℕ). replicate n 0) (let e : at + length block - length old ≡ gap + (at + length block - length old - gap) = omega arith in e)
    ∙ sym (replicate-append-replicate gap (at + length block - length old - gap) 0))
    ∙ sym (append_assoc old (replicate gap 0) (replicate (at + length block - length old - gap) 0)) in
    let front : take at (old ++ zeros) ≡ take at (padded old at) =
    ap (λ (l : List ℕ). take at l) more ∙ take-append-le at (padded old at) (replicate (at + length block - length old - gap) 0) (omega arith) in
    let none : drop (at + length block) (old ++ zeros) ≡ drop (at + length block) (padded old at) =
    drop_all (at + length block) (old ++ zeros) (omega arith) ∙ sym (drop_all (at + length block) (padded old at) (omega arith)) in
    ap (λ (l : List ℕ). l ++ (block ++ drop (at + length block) (old ++ zeros))) front
    ∙ ap (λ (l : List ℕ). take at (padded old at) ++ (block ++ l)) none

pub overwritten : (old : List ℕ) (at : ℕ) (block : List ℕ) → patched (padded old (at + length block)) at block ≡ patched (padded old at) at block
overwritten old at block = elim (cases_lt (length old) (at + length block)) [
  | inl grows ↦ grown old at block grows
  | inr there ↦ ap (λ (l : List ℕ). patched l at block) (padded_none old (at + length block) there ∙ sym (padded_none old at (omega arith)))
]
