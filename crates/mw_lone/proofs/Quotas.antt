-- A store's quota is the one that the last start gave: no other mark (event) changes it. Used by: quotas_are_of_starts.
use Rattle.std.specs.Prelude.{ℕ, ◌≡◌, ◌&&◌, Bool, true, false, List, [], ◌∷◌, Option, Some, None, if◌then◌else◌}
use Rattle.std.specs.Option.{option_and_then}
use Rattle.std.specs.List.{slice_get}
use Rattle.std.proofs.Common.{refl, sym, ap, subst, ◌∙◌, arith}
use Rattle.std.proofs.lemmas.Option.{option_and_then_some, none-some, same_Some}
use Rattle.mw_words.specs.declared.jobs.Entry.{Entry}
use Rattle.mw_words.specs.declared.jobs.Job.{Job}
use Rattle.mw_words.specs.declared.jobs.Job.TheVariants.{Get, Cas}
use Rattle.mw_lone.specs.declared.marks.Mark.{Mark}
use Rattle.mw_lone.specs.declared.marks.Mark.TheVariants.{Ask, Admit, Busy, Look, Miss, Seal, SealFail, FileFail, GiveUp, Retire, Reply as HandOut, Restart}
use Rattle.mw_lone.specs.Store.{Store, RequestState, first_store, is_quota, step, run, request, entries_of, admit, refuse_busy, look_at, miss_at, seal, fail_seal, give_up, retire, hand_out}
use Rattle.mw_lone.specs.Laws.{QuotasAreOfStarts, quota_by, quota_after}

quota_if : (b : Bool) (s t : Store) (quota : ℕ) → (if b then Some s else None) ≡ Some t → s.quota ≡ quota → t.quota ≡ quota
quota_if true s t quota e same = subst (λ u. u.quota ≡ quota) (same_Some s t e) same
quota_if false s t quota e same = absurd (none-some t e)

quota_look : (s t : Store) (n : ℕ) (r : RequestState) (job : Job) → look_at s n r job ≡ Some t → t.quota ≡ s.quota
quota_look s t n r (Get addr) e = quota_if _ _ t s.quota e refl
quota_look s t n r (Cas entries) e = absurd (none-some t e)

quota_miss : (s t : Store) (n : ℕ) (r : RequestState) (o : Option Entry) → miss_at s n r o ≡ Some t → t.quota ≡ s.quota
quota_miss s t n r None e = absurd (none-some t e)
quota_miss s t n r (Some entry) e = quota_if _ _ t s.quota e refl

quota_fail_file : (s t : Store) (b : Bool) → (if b then None else Some (record s { faulted = true })) ≡ Some t → t.quota ≡ s.quota
quota_fail_file s t true e = absurd (none-some t e)
quota_fail_file s t false e = ap (λ u. u.quota) (sym (same_Some _ t e))

of_request : (s t : Store) (n : ℕ) (f : RequestState → Option Store) → option_and_then f (request s n) ≡ Some t → ((r : RequestState) → f r ≡ Some t → t.quota ≡ s.quota) → t.quota ≡ s.quota
of_request s t n f e h = option_and_then_some f (request s n) t e (λ r at made. h r made)

-- the quota after a legal mark
pub quota_step : (s t : Store) (mark : Mark) → step s mark ≡ Some t → t.quota ≡ quota_by s.quota mark
quota_step s t (Ask n job) e = quota_if _ _ t s.quota e refl
quota_step s t (Admit n) e = of_request s t n (admit s n) e (λ r f. quota_if _ _ t s.quota f refl)
quota_step s t (Busy n) e = of_request s t n (refuse_busy s n) e (λ r f. quota_if _ _ t s.quota f refl)
quota_step s t (Look n) e = of_request s t n (λ r. look_at s n r r.job) e (λ r f. quota_look s t n r r.job f)
quota_step s t (Miss n i) e = of_request s t n (λ r. miss_at s n r (slice_get (entries_of r.job) i)) e (λ r f. quota_miss s t n r (slice_get (entries_of r.job) i) f)
quota_step s t (Seal n) e = of_request s t n (seal s n) e (λ r f. quota_if _ _ t s.quota f refl)
quota_step s t (SealFail n) e = of_request s t n (fail_seal s n) e (λ r f. quota_if _ _ t s.quota f refl)
quota_step s t FileFail e = quota_fail_file s t s.faulted e
quota_step s t (GiveUp n) e = of_request s t n (give_up s n) e (λ r f. quota_if _ _ t s.quota f refl)
quota_step s t (Retire n) e = of_request s t n (retire s n) e (λ r f. quota_if _ _ t s.quota f refl)
quota_step s t (HandOut n) e = of_request s t n (hand_out s n) e (λ r f. quota_if _ _ t s.quota f refl)
quota_step s t (Restart interrupted take opened quota) e = quota_if _ _ t quota e refl

and_last : (a b : Bool) → a && b ≡ true → b ≡ true
and_last true b h = h
and_last false b h = absurd (cc)

if_holds : (b : Bool) (s t : Store) → (if b then Some s else None) ≡ Some t → b ≡ true
if_holds true s t e = refl
if_holds false s t e = absurd (none-some t e)

-- it is one that a tenant may have, if the one before is
pub quota_fits : (s t : Store) (mark : Mark) → step s mark ≡ Some t → is_quota s.quota ≡ true → is_quota (quota_by s.quota mark) ≡ true
quota_fits s t (Restart interrupted take opened quota) e fits = and_last _ (is_quota quota) (if_holds _ _ t e)
quota_fits s t (Ask n job) e fits = fits
quota_fits s t (Admit n) e fits = fits
quota_fits s t (Busy n) e fits = fits
quota_fits s t (Look n) e fits = fits
quota_fits s t (Miss n i) e fits = fits
quota_fits s t (Seal n) e fits = fits
quota_fits s t (SealFail n) e fits = fits
quota_fits s t FileFail e fits = fits
quota_fits s t (GiveUp n) e fits = fits
quota_fits s t (Retire n) e fits = fits
quota_fits s t (HandOut n) e fits = fits

-- the quota after a list of legal marks
pub quota_run : (s t : Store) (marks : List Mark) → run s marks ≡ Some t → (t.quota ≡ quota_after s.quota marks) × (is_quota s.quota ≡ true → is_quota t.quota ≡ true)
quota_run s t [] e =
    let same : t.quota ≡ s.quota = ap (λ u. u.quota) (sym (same_Some s t e)) in
    (same, λ fits. subst (λ q. is_quota q ≡ true) (sym same) fits)
quota_run s t (mark ∷ marks) e =
    option_and_then_some (λ u. run u marks) (step s mark) t e (λ u at f.
    let rest = quota_run u t marks f in
    let next = quota_step s u mark at in
    (rest.0 ∙ ap (λ q. quota_after q marks) next, λ fits. rest.1 (subst (λ q. is_quota q ≡ true) (sym next) (quota_fits s u mark at fits))))

pub quotas-are-of-starts : QuotasAreOfStarts
quotas-are-of-starts words quota faulted marks t e = quota_run (first_store words quota faulted) t marks e
