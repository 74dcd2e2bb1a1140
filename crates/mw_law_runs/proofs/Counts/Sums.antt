-- A sum over workers or slots, after one worker or one slot changed, is the old sum with one term replaced.
-- Used by: Effects, GateSteps, Room, among others.
use Rattle.std.specs.Prelude.{ℕ, zero, suc, ◌≡◌, ◌≢◌, ◌<◌, ◌≤◌, ◌+◌, ◌==◌, ◌&&◌, if◌then◌else◌, Some}
use Rattle.std.proofs.Common.{refl, ap, ◌∙◌, inl, inr, arith}
use Rattle.std.proofs.lemmas.Bool.{cases_eq}
use Rattle.std.proofs.lemmas.Bool.Decides.{nat_tests}
use Rattle.mw_actor.specs.ActorState.{ActorState}
use Rattle.mw_world.specs.Definition.Counts.{counted, over_workers, slots_taken_for}
use Rattle.mw_world.specs.Maps.{upd}
use Rattle.mw_world.specs.Definition.State.{State, WorkerState}

upd_here : (worker_states : ℕ → WorkerState) (worker : ℕ) (worker_state : WorkerState) → upd worker_states worker worker_state worker ≡ worker_state
upd_here worker_states worker worker_state = grind (arith, nat_tests)

upd_else : (worker_states : ℕ → WorkerState) (worker other : ℕ) (worker_state : WorkerState) → other ≢ worker → upd worker_states worker worker_state other ≡ worker_states other
upd_else worker_states worker other worker_state apart = grind (arith, nat_tests, apart)

-- workers before the one that changed
over_before : (counts : ActorState → ℕ) (worker_states : ℕ → WorkerState) (worker : ℕ) (worker_state : WorkerState) (n : ℕ) → n ≤ worker → over_workers counts (upd worker_states worker worker_state) n ≡ over_workers counts worker_states n
over_before counts worker_states worker worker_state zero low = refl
over_before counts worker_states worker worker_state (suc n) low =
    let before : over_workers counts (upd worker_states worker worker_state) n ≡ over_workers counts worker_states n = over_before counts worker_states worker worker_state n (omega (arith, low)) in
    let here : counted counts (upd worker_states worker worker_state n).actor ≡ counted counts (worker_states n).actor = ap (λ s. counted counts s.actor) (upd_else worker_states worker n worker_state (omega (arith, low))) in
    omega (arith, before, here)

-- a sum over workers of which one changed
pub over_update : (counts : ActorState → ℕ) (worker_states : ℕ → WorkerState) (worker : ℕ) (worker_state : WorkerState) (n : ℕ) → worker < n
    → over_workers counts (upd worker_states worker worker_state) n + counted counts (worker_states worker).actor ≡ over_workers counts worker_states n + counted counts worker_state.actor
over_update counts worker_states worker worker_state zero low = absurd (omega (arith, low))
over_update counts worker_states worker worker_state (suc n) low = elim (cases_eq n worker) [
  | inl e ↦
      let before : over_workers counts (upd worker_states worker worker_state) n ≡ over_workers counts worker_states n = over_before counts worker_states worker worker_state n (omega (arith, e)) in
      let now : counted counts (upd worker_states worker worker_state n).actor ≡ counted counts worker_state.actor =
      ap (λ k. counted counts (upd worker_states worker worker_state k).actor) e ∙ ap (λ s. counted counts s.actor) (upd_here worker_states worker worker_state) in
      let was : counted counts (worker_states n).actor ≡ counted counts (worker_states worker).actor = ap (λ k. counted counts (worker_states k).actor) e in
      omega (arith, before, now, was)
  | inr apart ↦
      let more : over_workers counts (upd worker_states worker worker_state) n + counted counts (worker_states worker).actor ≡ over_workers counts worker_states n + counted counts worker_state.actor =
      over_update counts worker_states worker worker_state n (omega (arith, low, apart)) in
      let here : counted counts (upd worker_states worker worker_state n).actor ≡ counted counts (worker_states n).actor = ap (λ s. counted counts s.actor) (upd_else worker_states worker n worker_state apart) in
      omega (arith, more, here)
]

-- the sum includes what is counted for one worker
pub over_at : (counts : ActorState → ℕ) (worker_states : ℕ → WorkerState) (worker n : ℕ) → worker < n → counted counts (worker_states worker).actor ≤ over_workers counts worker_states n
over_at counts worker_states worker zero low = absurd (omega (arith, low))
over_at counts worker_states worker (suc n) low = elim (cases_eq n worker) [
  | inl e ↦
      let same : counted counts (worker_states n).actor ≡ counted counts (worker_states worker).actor = ap (λ k. counted counts (worker_states k).actor) e in
      omega (arith, same)
  | inr apart ↦
      let before : counted counts (worker_states worker).actor ≤ over_workers counts worker_states n = over_at counts worker_states worker n (omega (arith, low, apart)) in
      omega (arith, before)
]

-- the sum includes what is counted for two workers
pub over_two : (counts : ActorState → ℕ) (worker_states : ℕ → WorkerState) (one other n : ℕ) → one < n → other < n → one ≢ other
    → counted counts (worker_states one).actor + counted counts (worker_states other).actor ≤ over_workers counts worker_states n
over_two counts worker_states one other zero low there apart = absurd (omega (arith, low))
over_two counts worker_states one other (suc n) low there apart = elim (cases_eq n one) [
  | inl e ↦
      let same : counted counts (worker_states n).actor ≡ counted counts (worker_states one).actor = ap (λ k. counted counts (worker_states k).actor) e in
      let before : counted counts (worker_states other).actor ≤ over_workers counts worker_states n = over_at counts worker_states other n (omega (arith, there, apart, e)) in
      omega (arith, same, before)
  | inr not_one ↦ elim (cases_eq n other) [
    | inl e ↦
        let same : counted counts (worker_states n).actor ≡ counted counts (worker_states other).actor = ap (λ k. counted counts (worker_states k).actor) e in
        let before : counted counts (worker_states one).actor ≤ over_workers counts worker_states n = over_at counts worker_states one n (omega (arith, low, apart, e)) in
        omega (arith, same, before)
    | inr not_other ↦
        let before : counted counts (worker_states one).actor + counted counts (worker_states other).actor ≤ over_workers counts worker_states n =
        over_two counts worker_states one other n (omega (arith, low, not_one)) (omega (arith, there, not_other)) apart in
        omega (arith, before)
  ]
]

-- a worker for which nothing is counted
pub of_actor : (counts : ActorState → ℕ) (worker_state : WorkerState) (actor : ActorState) → worker_state.actor ≡ Some actor → counted counts worker_state.actor ≡ counts actor
of_actor counts worker_state actor is = ap (λ a. counted counts a) is

-- 1 if the slot is taken for the tenant, else 0
abbrev pub claimed : State → ℕ → ℕ → ℕ
claimed state tenant slot = if (state.cells.gates slot).taken && (state.history.tenant slot (state.cells.gates slot).seq == tenant) then 1 else 0

-- slots before the one that changed
slots_before : (state later : State) (tenant slot n : ℕ) → n ≤ slot → ((k : ℕ) → k ≢ slot → claimed later tenant k ≡ claimed state tenant k)
    → slots_taken_for later tenant n ≡ slots_taken_for state tenant n
slots_before state later tenant slot zero low same = refl
slots_before state later tenant slot (suc n) low same =
    let before : slots_taken_for later tenant n ≡ slots_taken_for state tenant n = slots_before state later tenant slot n (omega (arith, low)) same in
    let here : claimed later tenant n ≡ claimed state tenant n = same n (omega (arith, low)) in
    omega (arith, before, here)

-- a sum over slots of which one changed
pub slots_update : (state later : State) (tenant slot n : ℕ) → slot < n → ((k : ℕ) → k ≢ slot → claimed later tenant k ≡ claimed state tenant k)
    → slots_taken_for later tenant n + claimed state tenant slot ≡ slots_taken_for state tenant n + claimed later tenant slot
slots_update state later tenant slot zero low same = absurd (omega (arith, low))
slots_update state later tenant slot (suc n) low same = elim (cases_eq n slot) [
  | inl e ↦
      let before : slots_taken_for later tenant n ≡ slots_taken_for state tenant n = slots_before state later tenant slot n (omega (arith, e)) same in
      let now : claimed later tenant n ≡ claimed later tenant slot = ap (λ k. claimed later tenant k) e in
      let was : claimed state tenant n ≡ claimed state tenant slot = ap (λ k. claimed state tenant k) e in
      omega (arith, before, now, was)
  | inr apart ↦
      let more : slots_taken_for later tenant n + claimed state tenant slot ≡ slots_taken_for state tenant n + claimed later tenant slot =
      slots_update state later tenant slot n (omega (arith, low, apart)) same in
      let here : claimed later tenant n ≡ claimed state tenant n = same n apart in
      omega (arith, more, here)
]

-- a sum over slots of which none changed
pub slots_same : (state later : State) (tenant n : ℕ) → ((k : ℕ) → claimed later tenant k ≡ claimed state tenant k)
    → slots_taken_for later tenant n ≡ slots_taken_for state tenant n
slots_same state later tenant zero same = refl
slots_same state later tenant (suc n) same =
    let before : slots_taken_for later tenant n ≡ slots_taken_for state tenant n = slots_same state later tenant n same in
    omega (arith, before, same n)
