-- If a listener is asked once more, and what it gave is put into the queue, `ArePut` still holds, with the count one higher.
-- Used by: accept_some, accept_while.
use Rattle.std.proofs.Common.{◌≡◌, ℕ, ◌+◌, List, [], ◌∷◌, ◌++◌, length, refl, ap, subst, sym, arith, length-append}
use Rattle.std.specs.declared.result.Result.{Result}
use Rattle.std.specs.declared.result.Result.TheVariants.{Ok, Err}
use Rattle.mw_session.proofs.TransitionLaws.{goes_further}
use Rattle.mw_session.specs.Transitions.{GoesThrough}
use Rattle.mw_workers.specs.ListenerCalls.{ArePut, IsPut, given}

given_more : {C E : Type 0} (answers : List (Result C E)) (connection : C) → given (answers ++ Ok connection ∷ []) ≡ given answers ++ connection ∷ []
given_more [] connection = refl
given_more (Ok first ∷ later) connection = ap (λ l. first ∷ l) (given_more later connection)
given_more (Err fault ∷ later) connection = given_more later connection

given_same : {C E : Type 0} (answers : List (Result C E)) (fault : E) → given (answers ++ Err fault ∷ []) ≡ given answers
given_same [] fault = refl
given_same (Ok first ∷ later) fault = ap (λ l. first ∷ l) (given_same later fault)
given_same (Err first ∷ later) fault = given_same later fault

longer : {X : Type 0} (answers : List X) (answer : X) (count : ℕ) → length answers ≡ count → length (answers ++ answer ∷ []) ≡ count + 1
longer answers answer count is = omega (arith, length-append answers (answer ∷ []), is)

pub put_more : {L W C E : Type 0} (accepts : L → Result C E → L → Type 0) (puts : W → C → W → Type 0) (old : L) (waiting : W) (count : ℕ) (between : L) (waiting_between : W) (answer : Result C E) (new : L) (new_waiting : W)
    → ArePut accepts puts old waiting count between waiting_between → accepts between answer new → IsPut puts waiting_between answer new_waiting
    → ArePut accepts puts old waiting (count + 1) new new_waiting
put_more accepts puts old waiting count between waiting_between (Ok connection) new new_waiting are last put = (
  are.0 ++ Ok connection ∷ [],
  goes_further accepts old are.0 between (Ok connection) new are.1 last,
  longer are.0 (Ok connection) count are.2,
  subst (λ l. GoesThrough puts waiting l new_waiting) (sym (given_more are.0 connection)) (goes_further puts waiting (given are.0) waiting_between connection new_waiting are.3 put),
)
put_more accepts puts old waiting count between waiting_between (Err fault) new new_waiting are last put = (
  are.0 ++ Err fault ∷ [],
  goes_further accepts old are.0 between (Err fault) new are.1 last,
  longer are.0 (Err fault) count are.2,
  subst (λ l. GoesThrough puts waiting l new_waiting) (sym (given_same are.0 fault)) (subst (λ w. GoesThrough puts waiting (given are.0) w) (sym put) are.3),
)
