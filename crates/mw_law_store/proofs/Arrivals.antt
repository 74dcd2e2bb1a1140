-- When a request comes, or its reply is handed out, the tenant's part of the world still refines its store alone (the
-- reference model).
-- Used by: mw_law_threads.
use Rattle.std.specs.Prelude.{ℕ, ◌+◌, ◌≡◌, ◌≢◌, ◌<◌, true, false, length, List, Option, Some, None}
use Rattle.std.proofs.Common.{refl, sym, ap, subst, ◌∙◌, inl, inr, arith}
use Rattle.std.proofs.lemmas.Bool.{cases_eq}
use Rattle.std.proofs.lemmas.Option.{same_Some, none-some}
use Rattle.mw_words.specs.declared.jobs.Job.{Job}
use Rattle.mw_words.specs.declared.jobs.Job.TheVariants.{Get, Cas}
use Rattle.mw_words.specs.declared.replies.Reply.{Reply}
use Rattle.mw_words.specs.declared.replies.Reply.TheVariants.{Val, Yes as SaysYes, No as SaysNo, Busy as SaysBusy, Fault as SaysFault, Worn as SaysWorn}
use Rattle.mw_words.specs.Change.{is_well_formed}
use Rattle.mw_lone.specs.Store.{Store, RequestState, request, with_request, asked as new_request}
use Rattle.mw_lone.proofs.SoundStores.{get-insert_same, get-insert_other}
use Rattle.mw_law_store.specs.Late.MarkEffects.{Asks, HandsOut}
use Rattle.mw_law_store.specs.Late.LateMarks.{IsNumbered}
use Rattle.mw_look.specs.declared.points.Point.{Point as ReadPoint}
use Rattle.mw_look.specs.declared.points.Point.TheVariants.{Replied as RepliedOfRead}
use Rattle.mw_look.specs.Program.{Reading, replied as read_replied, reply_at as read_reply_at}
use Rattle.mw_actor.specs.declared.points.Point.{Point}
use Rattle.mw_actor.specs.declared.points.Point.TheVariants.{Read, Replied}
use Rattle.mw_actor.specs.ActorState.{ActorState, first, first_point}
use Rattle.mw_actor.specs.Program.{replied, reply_at}
use Rattle.mw_world.specs.declared.config.Config.{Config}
use Rattle.mw_world.specs.Definition.Requests.{came, gave}
use Rattle.mw_world.specs.Definition.State.{State, WorkerState, TenantState}
use Rattle.mw_law_runs.proofs.Knowledge.Updates.Preservation.{upd_here}
use Rattle.mw_law_runs.specs.Obligations.{own_of}
use Rattle.mw_law_store.proofs.RequestFrames.{puts}
use Rattle.mw_law_store.proofs.Marks.{is_his, own_put, row_of, two_of, spared_handed}
use Rattle.mw_law_store.specs.Due.{Due, Waits, due, due_read, due_reply, Elsewhere, Retiring, lowers}
use Rattle.mw_law_store.specs.RelaxedSteps.{HandsAny}
use Rattle.mw_law_store.specs.Refinement.{Requests, is_live, told_of, changes_of_tenant, IsDue, IsHis, HasReply, AreApart, WorkerRefines, Refines}
use Rattle.mw_law_store.specs.Worn.{is_worn_reply}

-- a request that begins waits, has no change and lowers no door
first_due : (tenant : ℕ) (job : Job) → due (first_point tenant job) ≡ Waits false
first_due tenant (Get address) = refl
first_due tenant (Cas entries) = refl

first_own : (tenant : ℕ) (job : Job) → own_of (first_point tenant job) ≡ None
first_own tenant (Get address) = refl
first_own tenant (Cas entries) = refl

first_lowers : (tenant : ℕ) (job : Job) → lowers (first_point tenant job) ≡ Elsewhere
first_lowers tenant (Get address) = refl
first_lowers tenant (Cas entries) = refl

elsewhere_not : Elsewhere ≡ Retiring → ⊥
elsewhere_not e = cc

-- no request has a number that was not given yet
unnumbered : (store : Store) (n : ℕ) (r : RequestState) → IsNumbered store → n ≡ store.next → request store n ≡ Some r → ⊥
unnumbered store n r numbered is asked = omega (arith, is, numbered n r asked)

-- numbers stay below the next one when the next request comes
numbered_next : (store : Store) (n : ℕ) (r : RequestState) → IsNumbered store → n ≡ store.next → IsNumbered (record (with_request store n r) { next = store.next + 1 })
numbered_next store n r numbered is k x asked = elim (cases_eq k n) [
  | inl same ↦ omega (arith, same, is)
  | inr other ↦ let low = numbered k x (sym (get-insert_other store.requests n k r other) ∙ asked) in omega (arith, low)
]

-- numbers stay below the next one when a request that was asked changes
numbered_still : (store : Store) (n : ℕ) (found r : RequestState) → IsNumbered store → request store n ≡ Some found → IsNumbered (with_request store n r)
numbered_still store n found r numbered is k x asked = elim (cases_eq k n) [
  | inl same ↦ subst (λ (i : ℕ). i < store.next) (sym same) (numbered n found is)
  | inr other ↦ numbered k x (sym (get-insert_other store.requests n k r other) ∙ asked)
]

pub came_refines : (config : Config) (state : State) (worker tenant : ℕ) (job : Job) (store : Store) → is_well_formed (length (state.tenant_states tenant).file.contents) job ≡ true → Refines state tenant store
    → (t : Store) × Asks store (state.tenant_states tenant).asked job t × Refines (came config state worker tenant job) tenant t
came_refines config state worker tenant job store formed refines = (t, asks, refines_then)
  where
    n : ℕ
    n = (state.tenant_states tenant).asked

    t : Store
    t = record (with_request store (state.tenant_states tenant).asked (new_request job)) { next = store.next + 1 }

    asks : Asks store (state.tenant_states tenant).asked job (record (with_request store (state.tenant_states tenant).asked (new_request job)) { next = store.next + 1 })
    asks = record { is_next = refines.holds.next; well_formed = subst (λ (words : List ℕ). is_well_formed (length words) job ≡ true) refines.holds.words formed; after = refl }

    unasked : (k : ℕ) (r : RequestState) → k ≡ (state.tenant_states tenant).asked → request store k ≡ Some r → ⊥
    unasked k r same is = unnumbered store k r refines.holds.numbered (same ∙ refines.holds.next) is

    his_asked : (k : ℕ) (its_job : Job) (is : Due) → k ≡ (state.tenant_states tenant).asked → IsDue (request store) k its_job is → ⊥
    his_asked k its_job is same due_then = let his = is_his (request store) k its_job is due_then in unasked k his.found same his.is_asked

    other_numbers : (other : ℕ) (one : ActorState) → (state.worker_states other).actor ≡ Some one → one.tenant ≡ tenant → (state.worker_states other).request ≢ (state.tenant_states tenant).asked
    other_numbers other one sits of_it same =
        let row = row_of (is_live state.cells) (changes_of_tenant state.history tenant) (told_of state.history) state.worker_states tenant (request store) refines.asks other one sits of_it in
        his_asked (state.worker_states other).request one.job (due one.point) same row.is_due

    worker_state : WorkerState
    worker_state = record (state.worker_states worker) { actor = Some (first worker tenant (state.tenant_states tenant).quota config.pool job); request = (state.tenant_states tenant).asked; retiring = (state.tenant_states tenant).asked }

    apart : (other : WorkerState) (two : Option ActorState) → ((one : ActorState) → two ≡ Some one → one.tenant ≡ tenant → other.request ≢ (state.tenant_states tenant).asked)
        → AreApart tenant (record (state.worker_states worker) { actor = Some (first worker tenant (state.tenant_states tenant).quota config.pool job); request = (state.tenant_states tenant).asked; retiring = (state.tenant_states tenant).asked })
        other (Some (first worker tenant (state.tenant_states tenant).quota config.pool job)) two
    apart other None differ = tt
    apart other (Some one) differ = λ of_it of_one. record {
      numbers = λ same. differ one refl of_one (sym same);
      freed_two = λ lowered falls. absurd (elsewhere_not (sym (first_lowers tenant job) ∙ lowered));
    }

    refines_then : Refines (came config state worker tenant job) tenant (record (with_request store (state.tenant_states tenant).asked (new_request job)) { next = store.next + 1 })
    refines_then = record {
      holds =
          let tenant_state : (came config state worker tenant job).tenant_states tenant ≡ _ = upd_here state.tenant_states tenant _ in
          record {
            words = ap (λ (a : TenantState). a.file.contents) tenant_state ∙ refines.holds.words;
            quota = ap (λ (a : TenantState). a.quota) tenant_state ∙ refines.holds.quota;
            used = refines.holds.used;
            faulted = ap (λ (a : TenantState). a.file.has_failed) tenant_state ∙ refines.holds.faulted;
            in_doubt = ap (λ (a : TenantState). a.file.doubt) tenant_state ∙ refines.holds.in_doubt;
            next = ap (λ (a : TenantState). a.asked) tenant_state ∙ ap (λ (k : ℕ). k + 1) refines.holds.next;
            numbered = numbered_next store (state.tenant_states tenant).asked (new_request job) refines.holds.numbered refines.holds.next;
          };
      asks = own_put (is_live state.cells) (changes_of_tenant state.history tenant) (told_of state.history) state.worker_states tenant (request store) refines.asks
          (request (record (with_request store n (new_request job)) { next = store.next + 1 })) worker n (new_request job) worker_state
          (puts store (record (with_request store n (new_request job)) { next = store.next + 1 }) n (new_request job) refl)
          (record {
            changes = λ change placed of_change. absurd (unasked n of_change.found refl of_change.is_asked);
            retiring = λ retires. absurd (unasked n retires.found refl retires.is_asked);
            kept = λ r is not. absurd (unasked n r refl is);
          })
          (λ other differs one. other_numbers other one)
          (λ of_it. record {
            is_due = subst (IsDue (request (record (with_request store n (new_request job)) { next = store.next + 1 })) n job) (sym (first_due tenant job)) (get-insert_same store.requests n n (new_request job) refl);
            unclaimed = λ waiting slot seq is same. let of_change = refines.asks.changes.asked slot seq is in unasked (state.history.request slot seq) of_change.found same of_change.is_asked;
            fresh = λ waiting change. refl;
            its_own = λ mine owns. absurd (none-some mine (sym (first_own tenant job) ∙ owns));
            retires = λ lowered. absurd (elsewhere_not (sym (first_lowers tenant job) ∙ lowered));
            retires_else = λ lowered. absurd (elsewhere_not (sym (first_lowers tenant job) ∙ lowered));
          })
          (λ other differs. apart (state.worker_states other) (state.worker_states other).actor (other_numbers other));
    }

-- the reply that a request has at a point is due there
read_due : (look : Reading) (reply : Reply) → read_replied look ≡ Some reply → due (Read look) ≡ due_reply reply
read_due look reply is = by_point look.point is
  where
    by_point : (point : ReadPoint) → read_reply_at point ≡ Some reply → due_read point ≡ due_reply reply
    by_point (RepliedOfRead said) stands = ap due_reply (same_Some said reply stands)
    by_point point stands = absurd (none-some reply stands)

pub replied_due : (point : Point) (reply : Reply) → reply_at point ≡ Some reply → due point ≡ due_reply reply
replied_due (Read look) reply is = read_due look reply is
replied_due (Replied said) reply is = ap due_reply (same_Some said reply is)
replied_due point reply is = absurd (none-some reply is)

-- a request that has a reply other than WORN has it in the store
pub has_reply : (at : Requests) (n : ℕ) (job : Job) (reply : Reply) → is_worn_reply reply ≡ false → IsDue at n job (due_reply reply) → HasReply at n job reply
has_reply at n job (Val value) not_worn is = is
has_reply at n job SaysYes not_worn is = is
has_reply at n job (SaysNo address value) not_worn is = is
has_reply at n job SaysBusy not_worn is = is
has_reply at n job SaysFault not_worn is = is
has_reply at n job SaysWorn not_worn is = absurd (cc)

nobody_apart : (tenant : ℕ) (worker_state other : WorkerState) (two : Option ActorState) → AreApart tenant worker_state other None two
nobody_apart tenant worker_state other None = tt
nobody_apart tenant worker_state other (Some two) = tt

gave_found : (state : State) (worker : ℕ) (actor : ActorState) (reply : Reply) (store : Store) → (state.worker_states worker).actor ≡ Some actor → replied actor ≡ Some reply → Refines state actor.tenant store
    → IsHis (request store) (state.worker_states worker).request actor.job → (t : Store) × HandsAny store (state.worker_states worker).request t × (is_worn_reply reply ≡ false → HandsOut store (state.worker_states worker).request t) × Refines (gave state worker actor.tenant) actor.tenant t
gave_found state worker actor reply store sits stands refines his = (with_request store n (record his.found { handed = true }), hands_any, hands_out, refines_then)
  where
    n : ℕ
    n = (state.worker_states worker).request

    row : WorkerRefines (is_live state.cells) (changes_of_tenant state.history actor.tenant) (request store) (state.worker_states worker).request (state.worker_states worker).retiring actor.job (due actor.point) (lowers actor.point) (own_of actor.point)
    row = row_of (is_live state.cells) (changes_of_tenant state.history actor.tenant) (told_of state.history) state.worker_states actor.tenant (request store) refines.asks worker actor sits refl

    hands_any : HandsAny store (state.worker_states worker).request (with_request store n (record his.found { handed = true }))
    hands_any = record { found = his.found; is_asked = his.is_asked; not_handed = his.not_handed; after = refl }

    hands_out : is_worn_reply reply ≡ false → HandsOut store (state.worker_states worker).request (with_request store n (record his.found { handed = true }))
    hands_out not_worn =
        let has = has_reply (request store) (state.worker_states worker).request actor.job reply not_worn
        (subst (IsDue (request store) (state.worker_states worker).request actor.job) (replied_due actor.point reply stands) row.is_due) in
        record {
          found = his.found;
          is_asked = his.is_asked;
          reply = reply;
          has_reply = ap (λ (r : RequestState). r.placed) (same_Some his.found has.found (sym his.is_asked ∙ has.is_asked)) ∙ has.has_reply;
          not_handed = his.not_handed;
          after = refl;
        }

    refines_then : Refines (gave state worker actor.tenant) actor.tenant (with_request store n (record his.found { handed = true }))
    refines_then = record {
      holds =
          let tenant_state : (gave state worker actor.tenant).tenant_states actor.tenant ≡ _ = upd_here state.tenant_states actor.tenant _ in
          record {
            words = ap (λ (a : TenantState). a.file.contents) tenant_state ∙ refines.holds.words;
            quota = ap (λ (a : TenantState). a.quota) tenant_state ∙ refines.holds.quota;
            used = refines.holds.used;
            faulted = ap (λ (a : TenantState). a.file.has_failed) tenant_state ∙ refines.holds.faulted;
            in_doubt = ap (λ (a : TenantState). a.file.doubt) tenant_state ∙ refines.holds.in_doubt;
            next = ap (λ (a : TenantState). a.asked) tenant_state ∙ refines.holds.next;
            numbered = numbered_still store n his.found (record his.found { handed = true }) refines.holds.numbered his.is_asked;
          };
      asks = own_put (is_live state.cells) (changes_of_tenant state.history actor.tenant) (told_of state.history) state.worker_states actor.tenant (request store) refines.asks
          (request (with_request store n (record his.found { handed = true }))) worker n (record his.found { handed = true }) (record (state.worker_states worker) { actor = None })
          (puts store (with_request store n (record his.found { handed = true })) n (record his.found { handed = true }) refl)
          (spared_handed (request store) n his.found his.is_asked)
          (λ other differs one sits_there of_it same.
          (two_of (is_live state.cells) (changes_of_tenant state.history actor.tenant) (told_of state.history) state.worker_states actor.tenant (request store) refines.asks worker other actor one (λ e. differs (sym e)) sits sits_there refl of_it).numbers
          (sym same))
          tt
          (λ other differs. nobody_apart actor.tenant (record (state.worker_states worker) { actor = None }) (state.worker_states other) (state.worker_states other).actor);
    }

pub gave_refines : (state : State) (worker : ℕ) (actor : ActorState) (reply : Reply) (store : Store) → (state.worker_states worker).actor ≡ Some actor → replied actor ≡ Some reply → Refines state actor.tenant store
    → (t : Store) × HandsAny store (state.worker_states worker).request t × (is_worn_reply reply ≡ false → HandsOut store (state.worker_states worker).request t) × Refines (gave state worker actor.tenant) actor.tenant t
gave_refines state worker actor reply store sits stands refines =
    let row = row_of (is_live state.cells) (changes_of_tenant state.history actor.tenant) (told_of state.history) state.worker_states actor.tenant (request store) refines.asks worker actor sits refl in
    gave_found state worker actor reply store sits stands refines (is_his (request store) (state.worker_states worker).request actor.job (due actor.point) row.is_due)
