-- A call on a disk in memory goes well or fails as the disk's script, and the call at which it stops, say. Used by: Remembered.
use Rattle.std.proofs.Common.{◌≡◌, ◌≤◌, ℕ, ◌+◌, suc, Bool, true, false, cond, List, min, refl, sym, ap, ◌∙◌, inl, inr, arith, Option, Some, None}
use Rattle.std.specs.Prelude.{◌==◌, ◌&&◌, nat_lt}
use Rattle.std.specs.List.{list_any}
use Rattle.std.proofs.lemmas.Bool.{cases_lt}
use Rattle.std.proofs.lemmas.Bool.Decides.{nat_tests}
use Rattle.mw_disk.specs.Facts.{most_counted}
use Rattle.mw_memory_disk.specs.Memory.{Memory, stops_by, names, plan_of, is_stopped, one_less, is_named, next_turn, begun}
use Rattle.mw_memory_disk.specs.declared.event.Turn.{Turn}
use Rattle.mw_memory_disk.specs.declared.event.Turn.TheVariants.{Goes, Fails, Stopped}

-- ---- one call more was begun

stops_begun : (stop : Option ℕ) (k : ℕ) → stops_by (one_less stop) k ≡ stops_by stop (suc k)
stops_begun None k = refl
stops_begun (Some left) k = grind (arith, nat_tests)

-- a script names the call of this number
abbrev names_number : List ℕ → ℕ → Bool
names_number script n = nat_lt n most_counted && list_any (λ i. i == n + 1) script

names_past : (script : List ℕ) (n : ℕ) → most_counted ≤ n → names_number script n ≡ false
names_past script n past = let e : nat_lt n most_counted ≡ false = grind (arith, nat_tests) in ap (λ (b : Bool). b && list_any (λ i. i == n + 1) script) e

names_begun : (m : Memory) (k : ℕ) → names (begun m) k ≡ names m (suc k)
names_begun m k = elim (cases_lt m.calls most_counted) [
  | inl counted ↦ ap (λ (n : ℕ). names_number m.script n) (let e : min (m.calls + 1) most_counted + k ≡ m.calls + suc k = omega arith in e)
  | inr past ↦ names_past m.script (min (m.calls + 1) most_counted + k) (omega arith) ∙ sym (names_past m.script (m.calls + suc k) (omega arith))
]

abbrev known : Bool → Bool → Option Bool
known stopped named = cond stopped (Some false) (cond named (Some false) (Some true))

pub plan_begun : (m : Memory) (k : ℕ) → plan_of (begun m) k ≡ plan_of m (suc k)
plan_begun m k =
    ap (λ (b : Bool). known b (names (begun m) k)) (stops_begun m.stop k) ∙ ap (λ (b : Bool). known (stops_by m.stop (suc k)) b) (names_begun m k)

-- ---- the next call

-- what the turn of a call tells of it
abbrev told : Turn → Option Bool
told Goes = Some true
told Fails = Some false
told Stopped = Some false

told_by : (stopped named : Bool) → known stopped named ≡ told (cond stopped Stopped (cond named Fails Goes))
told_by true named = refl
told_by false true = refl
told_by false false = refl

stops_now : (stop : Option ℕ) → stops_by stop 0 ≡ is_stopped stop
stops_now None = refl
stops_now (Some left) = grind (arith, nat_tests)

plan_now : (m : Memory) → plan_of m 0 ≡ told (next_turn m)
plan_now m =
    ap (λ (b : Bool). known b (names m 0)) (stops_now m.stop)
    ∙ (ap (λ (n : ℕ). known (is_stopped m.stop) (names_number m.script n)) (let e : m.calls + 0 ≡ m.calls = omega arith in e)
    ∙ told_by (is_stopped m.stop) (is_named m))

-- a call that may go well was not known to fail
pub not_doomed : (m : Memory) → next_turn m ≡ Goes → plan_of m 0 ≡ Some false → ⊥
not_doomed m goes doomed = let e = plan_now m in let f = ap (λ (t : Turn). told t) goes in cc

goes_told : (turn : Turn) → told turn ≡ Some true → turn ≡ Goes
goes_told Goes is = refl
goes_told Fails is = cc
goes_told Stopped is = cc

-- a call that was known to go well may go well
pub goes_now : (m : Memory) → plan_of m 0 ≡ Some true → next_turn m ≡ Goes
goes_now m is = goes_told (next_turn m) (sym (plan_now m) ∙ is)
