-- In each case in which a call may end, its marks are legal for the store alone, hand out its reply, and lead to the case's
-- store.
-- Used by: marks_of_a_call.
use Rattle.std.proofs.Common.{◌≡◌, ◌≢◌, ℕ, ◌+◌, ◌-◌, ◌<◌, Bool, true, false, ◌&&◌, ◌==◌, not, List, [], ◌∷◌, ◌++◌, length, refl, sym, ap, subst, ◌∙◌, arith, Option, Some, None, inl, inr, IsSomeAnd, IsTrue, is_some, is_none}
use Rattle.std.specs.Prelude.{if◌then◌else◌, nat_lt}
use Rattle.std.proofs.lemmas.Bool.{cases_eq}
use Rattle.std.proofs.lemmas.Bool.Decides.{nat_tests}
use Rattle.std.proofs.lemmas.Option.{same_Some}
use Rattle.std.proofs.lemmas.Cmp.{nat_cmp_total}
use Rattle.std.specs.List.{slice_get}
use Rattle.std.specs.Option.{option_and_then, option_map, option_map_or, option_to_list, unwrap_or}
use Rattle.std.specs.FinMap as map
use Rattle.std.specs.FinMap.{nat_cmp-IsAntisymmetric}
use Rattle.mw_words.specs.declared.jobs.Entry.{Entry}
use Rattle.mw_words.specs.declared.jobs.Job.{Job}
use Rattle.mw_words.specs.declared.jobs.Job.TheVariants.{Get, Cas}
use Rattle.mw_words.specs.declared.replies.Reply.{Reply}
use Rattle.mw_words.specs.declared.replies.Reply.TheVariants.{Val, Yes, No, Busy as SaysBusy, Fault}
use Rattle.mw_words.specs.Change.{word_at, fits, put, is_well_formed}
use Rattle.mw_lone.proofs.SoundStores.{Requests, get-insert_same, get-insert_other}
use Rattle.mw_lone.specs.Store.{Store, RequestState, step, run, outgoing, replies_from, request, with_request, asked, admit, refuse_busy, look_at, miss_at, seal, fail_seal, give_up, retire, hand_out, due_reply, may_seal, may_be_interrupted, entries_in_doubt, store_after_start, is_quota, entries_of, is_cas}
use Rattle.mw_lone.specs.declared.marks.Mark.{Mark}
use Rattle.mw_lone.specs.declared.marks.Mark.TheVariants.{Ask, Admit, Busy, Look, Miss, Seal, SealFail, FileFail, GiveUp, Retire, Reply as HandOut}
use Rattle.mw_plain.specs.Cases.{StartCase, FinishCase, AskCase, Faulted, Looked, Full, Unprepared, Prepared, GaveUp, Missed, Unsealed, Unsettled, Changed, AtStart, AtFinish, CanChange, StartFits, FinishFits, start_marks, finish_marks, ask_marks, start_reply, finish_reply, after_start, after_finish, after_ask, request_after_start, under_way, ended, gives_back, refusal, after_served, after_all, marks_of_all, replies_to_all}
use Rattle.mw_plain.specs.Marks.{Goes, Alone, StartGoes, FinishGoes, AskGoes, AllGo, MayStop, reply_to}
use Rattle.mw_plain.proofs.Joined.{goes-nowhere, goes-then}

-- Requests under their numbers.

-- of two under one number the last stays
insert-again : (m : Requests) (n : ℕ) (a b : RequestState) → map.insert (map.insert m n a) n b ≡ map.insert m n b
insert-again m n a b =
    map.same_map nat_cmp_total nat_cmp-IsAntisymmetric (map.insert (map.insert m n a) n b) (map.insert m n b) (λ q. elim (cases_eq q n) [
      | inl e ↦ get-insert_same (map.insert m n a) n q b e ∙ sym (get-insert_same m n q b e)
      | inr other ↦ get-insert_other (map.insert m n a) n q b other ∙ get-insert_other m n q a other ∙ sym (get-insert_other m n q b other)
    ])

-- what is there already changes nothing
insert-present : (m : Requests) (n : ℕ) (r : RequestState) → map.get m n ≡ Some r → map.insert m n r ≡ m
insert-present m n r at =
    map.same_map nat_cmp_total nat_cmp-IsAntisymmetric (map.insert m n r) m (λ q. elim (cases_eq q n) [
      | inl e ↦ get-insert_same m n q r e ∙ sym at ∙ ap (map.get m) (sym e)
      | inr other ↦ get-insert_other m n q r other
    ])

again : (s : Store) (n : ℕ) (a b : RequestState) → with_request (with_request s n a) n b ≡ with_request s n b
again s n a b = let base = s in ap (λ (m : Requests). record base { requests = m }) (insert-again s.requests n a b)

present : (s : Store) (n : ℕ) (r : RequestState) → request s n ≡ Some r → with_request s n r ≡ s
present s n r at = let base = s in ap (λ (m : Requests). record base { requests = m }) (insert-present s.requests n r at)

-- a mark finds the request that is there
meets : {A : Type 0} (s : Store) (n : ℕ) (r : RequestState) (f : RequestState → Option A) → option_and_then f (request (with_request s n r) n) ≡ f r
meets s n r f = ap (option_and_then f) (get-insert_same s.requests n n r refl)

-- the request has this reply
abbrev placed : RequestState → Reply → RequestState
placed r reply = record r { placed = Some reply }

pub both : (a b : Bool) → a ≡ true → b ≡ true → a && b ≡ true
both true b e f = f
both false b e f = absurd (cc)

unless : (b : Bool) (o : Option Store) → b ≡ false → (if b then None else o) ≡ o
unless true o e = absurd (cc)
unless false o e = refl

pub when : (b : Bool) (o : Option Store) → b ≡ true → (if b then o else None) ≡ o
when true o e = refl
when false o e = absurd (cc)

-- Each mark, for a store that has the request.

step-ask : (s : Store) (job : Job) → IsTrue (is_well_formed (length s.words) job) → step s (Ask s.next job) ≡ Some (with_request (record s { next = s.next + 1 }) s.next (asked job))
step-ask s job h = when ((s.next == s.next) && is_well_formed (length s.words) job) _ (grind (arith, nat_tests))

step-admit : (s : Store) (n : ℕ) (job : Job) → is_cas job ≡ true → s.faulted ≡ false → s.used < s.quota → step (with_request s n (asked job)) (Admit n) ≡ Some (with_request (record s { used = s.used + 1 }) n (under_way job))
step-admit s n job change running below =
    meets s n (asked job) (admit (with_request s n (asked job)) n)
    ∙ when ((is_cas job && true && true) && not s.faulted && nat_lt s.used s.quota) _ (grind (arith, nat_tests))
    ∙ ap Some (again (record s { used = s.used + 1 }) n (asked job) (under_way job))

step-busy : (s : Store) (n : ℕ) (job : Job) → is_cas job ≡ true → s.faulted ≡ false → s.used ≡ s.quota → step (with_request s n (asked job)) (Busy n) ≡ Some (with_request s n (placed (asked job) SaysBusy))
step-busy s n job change running full =
    meets s n (asked job) (refuse_busy (with_request s n (asked job)) n)
    ∙ when ((is_cas job && true && true) && not s.faulted && (s.used == s.quota)) _ (grind (arith, nat_tests))
    ∙ ap Some (again s n (asked job) (placed (asked job) SaysBusy))

step-look : (s : Store) (n addr : ℕ) → step (with_request s n (asked (Get addr))) (Look n) ≡ Some (with_request s n (placed (asked (Get addr)) (Val (word_at s.words addr))))
step-look s n addr =
    meets s n (asked (Get addr)) (λ r. look_at (with_request s n (asked (Get addr))) n r r.job)
    ∙ ap Some (again s n (asked (Get addr)) (placed (asked (Get addr)) (Val (word_at s.words addr))))

step-give-up : (s : Store) (n : ℕ) (r : RequestState) → s.faulted ≡ true → r.placed ≡ None → step (with_request s n r) (GiveUp n) ≡ Some (with_request s n (placed r Fault))
step-give-up s n r faulted waits =
    meets s n r (give_up (with_request s n r) n)
    ∙ when (s.faulted && is_none r.placed) _ (both s.faulted (is_none r.placed) faulted (ap is_none waits))
    ∙ ap Some (again s n r (placed r Fault))

step-fail-file : (s : Store) → s.faulted ≡ false → step s FileFail ≡ Some (record s { faulted = true })
step-fail-file s running = unless s.faulted _ running

-- the entry at which a change is refused
step-miss-at : (s : Store) (n : ℕ) (job : Job) (entry : Option Entry) (reply : Reply) → IsSomeAnd entry (λ e. word_at s.words e.addr ≢ e.expected) → refusal s.words entry ≡ Some reply → miss_at (with_request s n (under_way job)) n (under_way job) entry ≡ Some (with_request s n (placed (under_way job) reply))
step-miss-at s n job None reply differs said = absurd differs
step-miss-at s n job (Some e) reply differs said =
    when ((true && true) && not (word_at s.words e.addr == e.expected)) _ (grind (arith, nat_tests))
    ∙ ap Some (again s n (under_way job) (placed (under_way job) (No e.addr (word_at s.words e.addr))))
    ∙ ap (λ (x : Reply). Some (with_request s n (placed (under_way job) x))) (same_Some _ _ said)

step-miss : (s : Store) (n index : ℕ) (job : Job) (reply : Reply) → IsSomeAnd (slice_get (entries_of job) index) (λ e. word_at s.words e.addr ≢ e.expected) → refusal s.words (slice_get (entries_of job) index) ≡ Some reply → step (with_request s n (under_way job)) (Miss n index) ≡ Some (with_request s n (placed (under_way job) reply))
step-miss s n index job reply differs said =
    meets s n (under_way job) (λ r. miss_at (with_request s n (under_way job)) n r (slice_get (entries_of r.job) index))
    ∙ step-miss-at s n job (slice_get (entries_of job) index) reply differs said

can_seal : (s : Store) (job : Job) → CanChange s job → may_seal s (under_way job) ≡ true
can_seal s job can = both (not s.faulted) (fits s.words (entries_of job)) (ap not can.running) can.as_expected

step-seal : (s : Store) (n : ℕ) (job : Job) → CanChange s job → step (with_request s n (under_way job)) (Seal n) ≡ Some (with_request (record s { words = put s.words (entries_of job) }) n (placed (under_way job) Yes))
step-seal s n job can =
    meets s n (under_way job) (seal (with_request s n (under_way job)) n)
    ∙ when (may_seal s (under_way job)) _ (can_seal s job can)
    ∙ ap Some (again (record s { words = put s.words (entries_of job) }) n (under_way job) (placed (under_way job) Yes))

step-fail-seal : (s : Store) (n : ℕ) (job : Job) → CanChange s job → step (with_request s n (under_way job)) (SealFail n) ≡ Some (with_request (record s { faulted = true; in_doubt = entries_of job }) n (placed (under_way job) Fault))
step-fail-seal s n job can =
    meets s n (under_way job) (fail_seal (with_request s n (under_way job)) n)
    ∙ when (may_seal s (under_way job)) _ (can_seal s job can)
    ∙ ap Some (again (record s { faulted = true; in_doubt = entries_of job }) n (under_way job) (placed (under_way job) Fault))

step-retire : (s : Store) (n : ℕ) (job : Job) (reply : Reply) → step (with_request s n (placed (under_way job) reply)) (Retire n) ≡ Some (with_request (record s { used = s.used - 1 }) n (record (placed (under_way job) reply) { retired = true }))
step-retire s n job reply =
    let before = placed (under_way job) reply in
    meets s n before (retire (with_request s n before) n)
    ∙ ap Some (again (record s { used = s.used - 1 }) n before (record before { retired = true }))

-- A list of marks, one by one.

-- a mark that hands out no reply
goes-on : (s t u : Store) (mark : Mark) (marks : List Mark) (replies : List (ℕ × Reply)) → outgoing s mark ≡ None → step s mark ≡ Some t → Goes t marks replies u → Goes s (mark ∷ marks) replies u
goes-on s t u mark marks replies quiet at g = record {
  ran = ap (option_and_then (λ t. run t marks)) at ∙ g.ran;
  said = ap (λ (o : Option (ℕ × Reply)). option_to_list o ++ unwrap_or (option_map (λ t. replies_from t marks) (step s mark)) []) quiet
      ∙ ap (λ (o : Option Store). unwrap_or (option_map (λ t. replies_from t marks) o) []) at
      ∙ g.said;
}

-- at last the reply is handed out
goes-out : (s : Store) (n : ℕ) (r : RequestState) (reply : Reply) → r.placed ≡ Some reply → r.handed ≡ false → Goes (with_request s n r) (HandOut n ∷ []) ((n, reply) ∷ []) (with_request s n (record r { handed = true }))
goes-out s n r reply has waits =
    let here = with_request s n r in
    let on : step here (HandOut n) ≡ Some (with_request s n (record r { handed = true })) =
    meets s n r (hand_out here n)
    ∙ when (is_some r.placed && not r.handed) _ (both (is_some r.placed) (not r.handed) (ap is_some has) (ap not waits))
    ∙ ap Some (again s n r (record r { handed = true })) in
    let due : due_reply r ≡ Some reply = ap (λ (b : Bool). if b then None else r.placed) waits ∙ has in
    let out : outgoing here (HandOut n) ≡ Some (n, reply) = ap (option_map (λ x. (n, x))) (meets s n r due_reply ∙ due) in
    record {
      ran = ap (option_and_then (λ t. run t [])) on;
      said = ap (λ (o : Option (ℕ × Reply)). option_to_list o ++ unwrap_or (option_map (λ t. replies_from t []) (step here (HandOut n))) []) out
          ∙ ap (λ (o : Option Store). (n, reply) ∷ unwrap_or (option_map (λ t. replies_from t []) o) []) on;
    }

-- only the request that was written changed
alone : (s t : Store) (n : ℕ) (r : RequestState) → t.requests ≡ map.insert s.requests n r → Alone s t n r
alone s t n r e = record {
  own = ap (λ (m : Requests). map.get m n) e ∙ get-insert_same s.requests n n r refl;
  others = λ m other. ap (λ (q : Requests). map.get q m) e ∙ get-insert_other s.requests n m r other;
}

-- The cases of a start.

-- the next request has come
abbrev came : Store → Store
came s = record s { next = s.next + 1 }

starts : (s : Store) (job : Job) (case : StartCase) → IsTrue (is_well_formed (length s.words) job) → StartFits s job case → Goes s (start_marks s.next job case) (reply_to s.next (start_reply s.words job case)) (after_start s job case)
starts s job Faulted fine faulted =
    goes-on s (with_request (came s) s.next (asked job)) _ (Ask s.next job) _ _ refl (step-ask s job fine)
    (goes-on (with_request (came s) s.next (asked job)) (with_request (came s) s.next (placed (asked job) Fault)) _ (GiveUp s.next) _ _ refl (step-give-up (came s) s.next (asked job) faulted refl)
    (goes-out (came s) s.next (placed (asked job) Fault) Fault refl refl))
starts s (Cas entries) Looked fine premise = absurd (cc premise.1)
starts s (Get addr) Looked fine premise =
    goes-on s (with_request (came s) s.next (asked (Get addr))) _ (Ask s.next (Get addr)) _ _ refl (step-ask s (Get addr) fine)
    (goes-on (with_request (came s) s.next (asked (Get addr))) (with_request (came s) s.next (placed (asked (Get addr)) (Val (word_at s.words addr)))) _ (Look s.next) _ _ refl (step-look (came s) s.next addr)
    (goes-out (came s) s.next (placed (asked (Get addr)) (Val (word_at s.words addr))) (Val (word_at s.words addr)) refl refl))
starts s job Full fine premise =
    goes-on s (with_request (came s) s.next (asked job)) _ (Ask s.next job) _ _ refl (step-ask s job fine)
    (goes-on (with_request (came s) s.next (asked job)) (with_request (came s) s.next (placed (asked job) SaysBusy)) _ (Busy s.next) _ _ refl (step-busy (came s) s.next job premise.1 premise.0 premise.2)
    (goes-out (came s) s.next (placed (asked job) SaysBusy) SaysBusy refl refl))
starts s job Unprepared fine room =
    let admitted = record (came s) { used = s.used + 1 } in
    let failed = record admitted { faulted = true } in
    goes-on s (with_request (came s) s.next (asked job)) _ (Ask s.next job) _ _ refl (step-ask s job fine)
    (goes-on (with_request (came s) s.next (asked job)) (with_request admitted s.next (under_way job)) _ (Admit s.next) _ _ refl (step-admit (came s) s.next job room.change room.running room.below)
    (goes-on (with_request admitted s.next (under_way job)) (with_request failed s.next (under_way job)) _ FileFail _ _ refl (step-fail-file (with_request admitted s.next (under_way job)) room.running)
    (goes-on (with_request failed s.next (under_way job)) (with_request failed s.next (placed (under_way job) Fault)) _ (GiveUp s.next) _ _ refl (step-give-up failed s.next (under_way job) refl refl)
    (goes-out failed s.next (placed (under_way job) Fault) Fault refl refl))))
starts s job Prepared fine room =
    let admitted = record (came s) { used = s.used + 1 } in
    let there = with_request admitted s.next (under_way job) in
    goes-on s (with_request (came s) s.next (asked job)) _ (Ask s.next job) _ _ refl (step-ask s job fine)
    (goes-on (with_request (came s) s.next (asked job)) there _ (Admit s.next) _ _ refl (step-admit (came s) s.next job room.change room.running room.below)
    (goes-nowhere there))

pub started : StartGoes
started s job case fine premise = record {
  goes = starts s job case fine premise;
  requests = alone s (after_start s job case) s.next (request_after_start s.words job case) refl;
}

-- The cases of a finish.

-- an entry that is there gives a refusal
refuses : (words : List ℕ) (entry : Option Entry) → IsSomeAnd entry (λ e. word_at words e.addr ≢ e.expected) → (reply : Reply) × (refusal words entry ≡ Some reply)
refuses words None differs = absurd differs
refuses words (Some e) differs = (No e.addr (word_at words e.addr), refl)

-- a change that has its reply gives its slot back, and the reply is handed out
closes : (s : Store) (n : ℕ) (job : Job) (reply : Reply) → Goes (with_request s n (placed (under_way job) reply)) (Retire n ∷ HandOut n ∷ []) ((n, reply) ∷ []) (with_request (record s { used = s.used - 1 }) n (ended job (Some reply) true))
closes s n job reply =
    let back = record s { used = s.used - 1 } in
    let retired = record (placed (under_way job) reply) { retired = true } in
    goes-on (with_request s n (placed (under_way job) reply)) (with_request back n retired) _ (Retire n) _ _ refl (step-retire s n job reply)
    (goes-out back n retired reply refl refl)

misses : (s : Store) (n index : ℕ) (job : Job) → IsSomeAnd (slice_get (entries_of job) index) (λ e. word_at s.words e.addr ≢ e.expected) → Goes (with_request s n (under_way job)) (finish_marks n (Missed index)) (reply_to n (finish_reply s.words job (Missed index))) (after_finish s n job (Missed index))
misses s n index job differs =
    let found = refuses s.words (slice_get (entries_of job) index) differs in
    let reply = found.0 in
    let gone : Goes (with_request s n (under_way job)) (finish_marks n (Missed index)) ((n, reply) ∷ []) (with_request (record s { used = s.used - 1 }) n (ended job (Some reply) true)) =
    goes-on (with_request s n (under_way job)) (with_request s n (placed (under_way job) reply)) _ (Miss n index) _ _ refl (step-miss s n index job reply differs found.1) (closes s n job reply) in
    subst (λ (o : Option Reply). Goes (with_request s n (under_way job)) (finish_marks n (Missed index)) (reply_to n o) (with_request (record s { used = s.used - 1 }) n (ended job o true))) (sym found.1) gone

finishes : (s : Store) (n : ℕ) (job : Job) (case : FinishCase) → FinishFits s job case → Goes (with_request s n (under_way job)) (finish_marks n case) (reply_to n (finish_reply s.words job case)) (after_finish s n job case)
finishes s n job GaveUp faulted =
    goes-on (with_request s n (under_way job)) (with_request s n (placed (under_way job) Fault)) _ (GiveUp n) _ _ refl (step-give-up s n (under_way job) faulted refl)
    (goes-out s n (placed (under_way job) Fault) Fault refl refl)
finishes s n job (Missed index) premise = misses s n index job premise.differs
finishes s n job Unsealed can =
    let failed = record s { faulted = true; in_doubt = entries_of job } in
    goes-on (with_request s n (under_way job)) (with_request failed n (placed (under_way job) Fault)) _ (SealFail n) _ _ refl (step-fail-seal s n job can)
    (goes-out failed n (placed (under_way job) Fault) Fault refl refl)
finishes s n job Unsettled can =
    let sealed = record s { words = put s.words (entries_of job) } in
    let failed = record sealed { faulted = true } in
    goes-on (with_request s n (under_way job)) (with_request sealed n (placed (under_way job) Yes)) _ (Seal n) _ _ refl (step-seal s n job can)
    (goes-on (with_request sealed n (placed (under_way job) Yes)) (with_request failed n (placed (under_way job) Yes)) _ FileFail _ _ refl (step-fail-file (with_request sealed n (placed (under_way job) Yes)) can.running)
    (goes-out failed n (placed (under_way job) Yes) Yes refl refl))
finishes s n job Changed can =
    let sealed = record s { words = put s.words (entries_of job) } in
    goes-on (with_request s n (under_way job)) (with_request sealed n (placed (under_way job) Yes)) _ (Seal n) _ _ refl (step-seal s n job can)
    (closes sealed n job Yes)

pub finished : FinishGoes
finished s n job case at premise = record {
  goes = subst (λ (u : Store). Goes u (finish_marks n case) (reply_to n (finish_reply s.words job case)) (after_finish s n job case)) (present s n (under_way job) at) (finishes s n job case premise);
  requests = alone s (after_finish s n job case) n (ended job (finish_reply s.words job case) (gives_back case)) refl;
}

-- Both together.
pub answered : AskGoes
answered s job (AtStart case) fine premise =
    let start = started s job case fine premise.0 in
    record { goes = start.goes; others = start.requests.others }
answered s job (AtFinish case) fine premise =
    let start = started s job Prepared fine premise.0 in
    let between = after_start s job Prepared in
    let finish = finished between s.next job case start.requests.own premise.1 in
    record {
      goes = goes-then s between (after_finish between s.next job case) (start_marks s.next job Prepared) (finish_marks s.next case) [] (reply_to s.next (finish_reply s.words job case)) start.goes finish.goes;
      others = λ m other. finish.requests.others m other ∙ start.requests.others m other;
    }

next-after-ask : (s : Store) (job : Job) (case : AskCase) → (after_ask s job case).next ≡ s.next + 1
next-after-ask s job (AtStart case) = refl
next-after-ask s job (AtFinish case) = refl

-- One after another.
pub all-go : AllGo
all-go s [] fit = goes-nowhere s
all-go s (served ∷ more) fit =
    let between = after_served s served in
    let after = after_all between more in
    let answer = answered s served.job served.case fit.0.well_formed fit.0.met in
    let first : Goes s (ask_marks s.next served.job served.case) ((s.next, served.reply) ∷ []) between =
    subst (λ (o : Option Reply). Goes s (ask_marks s.next served.job served.case) (reply_to s.next o) between) fit.0.replied answer.goes in
    let rest : Goes between (marks_of_all (s.next + 1) more) (replies_to_all (s.next + 1) more) after =
    subst (λ n. Goes between (marks_of_all n more) (replies_to_all n more) after) (next-after-ask s served.job served.case) (all-go between more fit.1) in
    goes-then s between after (ask_marks s.next served.job served.case) (marks_of_all (s.next + 1) more) ((s.next, served.reply) ∷ []) (replies_to_all (s.next + 1) more) first rest

may_be : (s : Store) (n : ℕ) (job : Job) → request s n ≡ Some (under_way job) → CanChange s job → may_be_interrupted s (Some n) ≡ true
may_be s n job at can = ap (λ (o : Option RequestState). option_map_or (may_seal s) o false) at ∙ can_seal s job can

in_doubt : (s : Store) (n : ℕ) (job : Job) → request s n ≡ Some (under_way job) → entries_in_doubt s (Some n) ≡ entries_of job
in_doubt s n job at = ap (λ (o : Option RequestState). option_map_or (λ r. entries_of r.job) o []) at

pub may-stop : MayStop
may-stop s n job true opened quota at can may =
    when (may_be_interrupted s (Some n) && true && is_quota quota) _ (both _ _ (both (may_be_interrupted s (Some n)) true (may_be s n job at can) refl) may)
    ∙ ap (λ (es : List Entry). Some (store_after_start s (put s.words es) opened quota)) (in_doubt s n job at)
may-stop s n job false opened quota at can may =
    when (may_be_interrupted s (Some n) && true && is_quota quota) _ (both _ _ (both (may_be_interrupted s (Some n)) true (may_be s n job at can) refl) may)
