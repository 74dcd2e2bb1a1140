-- In each store alone that simulates a tenant, a request that was handed a reply other than WORN has it, or a start has
-- dropped the request. Used by: RefusedChangeLaws, StoresOfRuns.
use Rattle.std.specs.Prelude.{ℕ, zero, suc, ◌+◌, ◌==◌, ◌≡◌, ◌≢◌, ◌<◌, ◌≤◌, ◌⊎◌, if◌then◌else◌, Bool, true, false, List, [], ◌∷◌, ◌++◌, slice_get, Option, Some, None}
use Rattle.std.specs.Option.{option_map, option_to_list}
use Rattle.std.proofs.Common.{refl, sym, ap, subst, ◌∙◌, inl, inr, arith}
use Rattle.std.proofs.lemmas.Bool.{cases_eq}
use Rattle.std.proofs.lemmas.Bool.Decides.{nat_tests}
use Rattle.std.proofs.lemmas.Option.{same_Some, none-some}
use Rattle.mw_words.specs.declared.replies.Reply.{Reply}
use Rattle.mw_lone.specs.declared.marks.Mark.{Mark}
use Rattle.mw_lone.specs.declared.marks.Mark.TheVariants.{Ask, Admit, Busy, Look, Miss, Seal, SealFail, FileFail, GiveUp, Retire, Reply as HandOut, Restart}
use Rattle.mw_lone.proofs.SoundStores.{get-insert_same, get-insert_other}
use Rattle.mw_lone.specs.Store.{Store, RequestState, request, with_request, asked}
use Rattle.mw_law_store.specs.Late.LateMarks.{IsNumbered}
use Rattle.mw_actor.specs.ActorState.{ActorState}
use Rattle.mw_actor.specs.Program.{replied}
use Rattle.mw_world.specs.Definition.Events.{WorldEvent, Come, Step, File, Hand, Restart as StartsAgain}
use Rattle.mw_world.specs.Definition.State.{State, TenantStart}
use Rattle.mw_world.specs.Definition.World.{outgoing, reply_for}
use Rattle.mw_law_store.proofs.Arrivals.{has_reply, replied_due}
use Rattle.mw_law_store.proofs.Marks.{row_of}
use Rattle.mw_law_store.specs.AbstractStates.{AbstractState}
use Rattle.mw_law_store.specs.HistoryMatches.{MayBeLabeled}
use Rattle.mw_law_store.specs.Refinement.{IsDue, changes_of_tenant, is_live, told_of}
use Rattle.mw_law_store.specs.RelaxedSteps.{StoreLabel, NoLabel, Says, ReservesPlace, MarksLate, RelaxedLabelStep}
use Rattle.mw_law_store.specs.Simulation.{IsSimulatedBy}
use Rattle.mw_law_store.specs.Worn.{is_worn_reply}

-- The request has this reply.
pub record HasSaid (s : Store) (n : ℕ) (reply : Reply) : Type 0 where
  pub found : RequestState
  pub is_asked : request s n ≡ Some found
  pub says : found.placed ≡ Some reply

-- The request came, and a start has dropped it.
pub record IsGone (s : Store) (n : ℕ) : Type 0 where
  pub none : request s n ≡ None
  pub below : n < s.next

abbrev pub IsAnswered : Store → ℕ → Reply → Type 0
IsAnswered s n reply = HasSaid s n reply ⊎ IsGone s n

-- An answered request after a step of the store.

module _ (s t : Store) (numbered : IsNumbered s) (n : ℕ) (reply : Reply) where
  other : (k : ℕ) (x : RequestState) (o : Option RequestState) → n ≢ k → request s n ≡ o → request (with_request s k x) n ≡ o
  other k x o apart at = get-insert_other s.requests k n x apart ∙ at

  beside : (k : ℕ) (x : RequestState) → n ≢ k → request t n ≡ request (with_request s k x) n → s.next ≤ t.next → IsAnswered s n reply → IsAnswered t n reply
  beside k x apart same more (inl is) = inl (record { found = is.found; is_asked = same ∙ other k x (Some is.found) apart is.is_asked; says = is.says })
  beside k x apart same more (inr gone) = inr (record { none = same ∙ other k x None apart gone.none; below = let below = gone.below in omega (arith, more, below) })

  not_it : (k : ℕ) (found : RequestState) → request s k ≡ Some found → found.placed ≡ None → IsAnswered s n reply → n ≢ k
  not_it k found at none (inl is) here =
      let one = same_Some found is.found (sym at ∙ ap (request s) (sym here) ∙ is.is_asked) in none-some reply (sym none ∙ ap (λ (it : RequestState). it.placed) one ∙ is.says)
  not_it k found at none (inr gone) here = none-some found (sym gone.none ∙ ap (request s) here ∙ at)

  -- a request that had no reply was written
  written : (k : ℕ) (found x : RequestState) → request s k ≡ Some found → found.placed ≡ None → request t n ≡ request (with_request s k x) n → t.next ≡ s.next → IsAnswered s n reply → IsAnswered t n reply
  written k found x at none same next is = beside k x (not_it k found at none is) same (omega (arith, next)) is

  -- a request was written again, with the same reply
  again : (k : ℕ) (found x : RequestState) → request s k ≡ Some found → x.placed ≡ found.placed → request t n ≡ request (with_request s k x) n → t.next ≡ s.next → IsAnswered s n reply → IsAnswered t n reply
  again k found x at placed same next is = by is (cases_eq n k)
    where
      by : IsAnswered s n reply → (n ≡ k) ⊎ (n ≢ k) → IsAnswered t n reply
      by is (inr apart) = beside k x apart same (omega (arith, next)) is
      by (inr gone) (inl here) = absurd (none-some found (sym gone.none ∙ ap (request s) here ∙ at))
      by (inl said) (inl here) =
          let one = same_Some found said.found (sym at ∙ ap (request s) (sym here) ∙ said.is_asked) in
          inl (record { found = x; is_asked = same ∙ get-insert_same s.requests k n x here; says = placed ∙ ap (λ (it : RequestState). it.placed) one ∙ said.says })

  unchanged : (j : Store) → j ≡ s → IsAnswered s n reply → IsAnswered j n reply
  unchanged j same is = subst (λ (one : Store). IsAnswered one n reply) (sym same) is

  same_requests : request t n ≡ request s n → t.next ≡ s.next → IsAnswered s n reply → IsAnswered t n reply
  same_requests same next (inl is) = inl (record { found = is.found; is_asked = same ∙ is.is_asked; says = is.says })
  same_requests same next (inr gone) = inr (record { none = same ∙ gone.none; below = let below = gone.below in omega (arith, next, below) })

  is_not_next : IsAnswered s n reply → (k : ℕ) → k ≡ s.next → n ≢ k
  is_not_next (inl is) k next here = let below = numbered n is.found is.is_asked in let e : ⊥ = omega (arith, below, next, here) in e
  is_not_next (inr gone) k next here = let below = gone.below in let e : ⊥ = omega (arith, below, next, here) in e

  by_mark : (start : AbstractState) (lines : List (Option Mark)) (mark : Mark) → MayBeLabeled start lines (Says mark) s → RelaxedLabelStep (Says mark) s t → IsAnswered s n reply → IsAnswered t n reply
  by_mark start lines (Ask k job) may goes is =
      let next : t.next ≡ s.next + 1 = ap (λ (u : Store). u.next) goes.after in
      beside k (asked job) (is_not_next is k goes.is_next) (ap (λ (u : Store). request u n) goes.after) (omega (arith, next)) is
  by_mark start lines (Admit k) may goes is = written k goes.found _ goes.waits.is_asked goes.waits.has_no_reply (ap (λ (u : Store). request u n) goes.after) (ap (λ (u : Store). u.next) goes.after) is
  by_mark start lines (Busy k) may goes is = written k goes.found _ goes.waits.is_asked goes.waits.has_no_reply (ap (λ (u : Store). request u n) goes.after) (ap (λ (u : Store). u.next) goes.after) is
  by_mark start lines (Look k) may goes is = written k goes.found _ goes.is_asked goes.has_no_reply (ap (λ (u : Store). request u n) goes.after) (ap (λ (u : Store). u.next) goes.after) is
  by_mark start lines (Miss k index) may goes is = written k goes.found _ goes.is_asked goes.has_no_reply (ap (λ (u : Store). request u n) goes.after) (ap (λ (u : Store). u.next) goes.after) is
  by_mark start lines (Seal k) may goes is = written k goes.found _ goes.can_be_written.is_asked goes.can_be_written.has_no_reply (ap (λ (u : Store). request u n) goes.after) (ap (λ (u : Store). u.next) goes.after) is
  by_mark start lines (SealFail k) may goes is = written k goes.found _ goes.can_be_written.is_asked goes.can_be_written.has_no_reply (ap (λ (u : Store). request u n) goes.after) (ap (λ (u : Store). u.next) goes.after) is
  by_mark start lines FileFail may goes is = same_requests (ap (λ (u : Store). request u n) goes.after) (ap (λ (u : Store). u.next) goes.after) is
  by_mark start lines (GiveUp k) may goes is = written k goes.found _ goes.is_asked goes.has_no_reply (ap (λ (u : Store). request u n) goes.after) (ap (λ (u : Store). u.next) goes.after) is
  by_mark start lines (Retire k) may goes is = again k goes.found (record goes.found { retired = true }) goes.is_asked refl (ap (λ (u : Store). request u n) goes.after) (ap (λ (u : Store). u.next) goes.after) is
  by_mark start lines (HandOut k) may goes is = again k goes.found (record goes.found { handed = true }) goes.is_asked refl (ap (λ (u : Store). request u n) goes.after) (ap (λ (u : Store). u.next) goes.after) is
  by_mark start lines (Restart interrupted take opened quota) may goes is = absurd may

  pub stays_answered : (start : AbstractState) (lines : List (Option Mark)) (says : StoreLabel) → MayBeLabeled start lines says s → RelaxedLabelStep says s t → IsAnswered s n reply → IsAnswered t n reply
  stays_answered start lines NoLabel may goes is = unchanged t goes is
  stays_answered start lines (Says mark) may goes is = by_mark start lines mark may goes is
  stays_answered start lines ReservesPlace may goes is = unchanged t goes is
  stays_answered start lines (MarksLate place mark k said) may goes is = written k goes.found _ goes.is_open.is_asked goes.is_open.has_no_reply (ap (λ (u : Store). request u n) goes.after) (ap (λ (u : Store). u.next) goes.after) is

-- a start drops it, since the numbers go on
pub gone_after : (s t : Store) (n : ℕ) (reply : Reply) → IsNumbered s → s.next ≤ t.next → request t n ≡ None → IsAnswered s n reply → IsAnswered t n reply
gone_after s t n reply numbered more none (inl is) = inr (record { none = none; below = let below = numbered n is.found is.is_asked in omega (arith, below, more) })
gone_after s t n reply numbered more none (inr gone) = inr (record { none = none; below = let below = gone.below in omega (arith, below, more) })

-- A reply that is handed out.

handed_so : (test : Bool) (said : Option Reply) (number n : ℕ) (reply : Reply) → (if test then option_map {U = ℕ × Reply} (λ one. (number, one)) said else None) ≡ Some (n, reply) → (test ≡ true) × (said ≡ Some reply) × (number ≡ n)
handed_so true None number n reply is = absurd (none-some (n, reply) is)
handed_so true (Some said) number n reply is = let both : (number, said) ≡ (n, reply) = same_Some (number, said) (n, reply) is in (refl, ap (λ (one : ℕ × Reply). Some one.1) both, ap (λ (one : ℕ × Reply). one.0) both)
handed_so false said number n reply is = absurd (none-some (n, reply) is)

-- the worker that hands a reply out, and its request
pub record HandsOut (state : State) (tenant n : ℕ) (reply : Reply) : Type 0 where
  pub worker : ℕ
  pub actor : ActorState
  pub sits : (state.worker_states worker).actor ≡ Some actor
  pub its : actor.tenant ≡ tenant
  pub says : replied actor ≡ Some reply
  pub number : (state.worker_states worker).request ≡ n

pub hands_out : (state : State) (tenant n : ℕ) (event : WorldEvent) (reply : Reply) → outgoing state tenant event ≡ Some (n, reply) → HandsOut state tenant n reply
hands_out state tenant n (Come worker by job) reply is = absurd (none-some (n, reply) is)
hands_out state tenant n (Step worker) reply is = absurd (none-some (n, reply) is)
hands_out state tenant n (File worker outcome) reply is = absurd (none-some (n, reply) is)
hands_out state tenant n (StartsAgain founds) reply is = absurd (none-some (n, reply) is)
hands_out state tenant n (Hand worker) reply is = by_actor (state.worker_states worker).actor refl is
  where
    by_actor : (found : Option ActorState) → (state.worker_states worker).actor ≡ found → reply_for state tenant worker found ≡ Some (n, reply) → HandsOut state tenant n reply
    by_actor None sits is = absurd (none-some (n, reply) is)
    by_actor (Some actor) sits is =
        let so = handed_so (actor.tenant == tenant) (replied actor) (state.worker_states worker).request n reply is in
        record { worker = worker; actor = actor; sits = sits; its = let test = so.0 in grind (arith, nat_tests, test); says = so.1; number = so.2 }

-- the store has that reply, unless it is WORN
pub said_now : (openings : ℕ → TenantStart) (state : State) (tenant : ℕ) (store : Store) (n : ℕ) (reply : Reply) → IsSimulatedBy openings state tenant store → HandsOut state tenant n reply → is_worn_reply reply ≡ false
    → HasSaid store n reply
said_now openings state tenant store n reply by hands not_worn =
    let number = (state.worker_states hands.worker).request in
    let row = row_of (is_live state.cells) (changes_of_tenant state.history tenant) (told_of state.history) state.worker_states tenant (request store) by.refines.asks hands.worker hands.actor hands.sits hands.its in
    let has = has_reply (request store) number hands.actor.job reply not_worn
    (subst (IsDue (request store) number hands.actor.job) (replied_due hands.actor.point reply hands.says) row.is_due) in
    record { found = has.found; is_asked = ap (request store) (sym hands.number) ∙ has.is_asked; says = has.has_reply }

-- what is in a list with at most one more is in the list, or is that one
pub at_last : {A : Type 0} (all : List A) (more : Option A) (index : ℕ) (one : A) → slice_get (all ++ option_to_list more) index ≡ Some one → (slice_get all index ≡ Some one) ⊎ (more ≡ Some one)
at_last [] None index one is = absurd (none-some one is)
at_last [] (Some it) zero one is = inr is
at_last [] (Some it) (suc index) one is = absurd (none-some one is)
at_last (it ∷ all) more zero one is = inl is
at_last (it ∷ all) more (suc index) one is = at_last all more index one is
