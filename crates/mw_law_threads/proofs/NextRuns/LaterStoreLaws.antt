-- A store alone goes on over a start: what a new store takes from there on, the old one takes too, with later numbers of
-- requests.
-- Used by: stores_go_on.
use Rattle.std.specs.Prelude.{ℕ, ◌+◌, ◌≡◌, ◌==◌, ◌&&◌, ◌||◌, not, Bool, true, false, is_none, length, if◌then◌else◌, List, [], ◌∷◌, ◌++◌, map, slice_get, Option, Some, None}
use Rattle.std.specs.Option.{option_and_then, option_map, option_map_or, option_to_list, unwrap_or}
use Rattle.std.specs.FinMap as maps
use Rattle.std.specs.Ordering.{nat_cmp}
use Rattle.std.proofs.Common.{refl, sym, ap, subst, ◌∙◌, inl, inr, arith}
use Rattle.std.proofs.lemmas.Bool.Decides.{nat_tests}
use Rattle.std.proofs.lemmas.Option.{none-some, option_and_then_some, same_Some}
use Rattle.mw_words.specs.declared.jobs.Entry.{Entry}
use Rattle.mw_words.specs.declared.jobs.Job.{Job}
use Rattle.mw_words.specs.declared.jobs.Job.TheVariants.{Get, Cas}
use Rattle.mw_words.specs.declared.replies.Reply.{Reply}
use Rattle.mw_words.specs.Change.{is_well_formed, put}
use Rattle.mw_lone.specs.declared.marks.Mark.{Mark}
use Rattle.mw_lone.specs.declared.marks.Mark.TheVariants.{Ask, Admit, Busy, Look, Miss, Seal, SealFail, FileFail, GiveUp, Retire, Reply as HandOut, Restart}
use Rattle.mw_lone.specs.Store.{RequestState, Store, admit, asked, due_reply, entries_of, fail_seal, first_store, give_up, hand_out, has_in_doubt, is_quota, look_at, may_seal, miss_at, outgoing, refuse_busy, replies_from, retire, run, seal, step, store_after_start}
use Rattle.mw_lone.proofs.SoundStores.{Requests, get-insert_other, get-insert_same}
use Rattle.mw_law_runs.proofs.Numbers.{same_or_other}
use Rattle.mw_law_store.proofs.Late.Lines.{run-append}
use Rattle.mw_law_store.proofs.Replies.{replies_append}
use Rattle.mw_law_threads.specs.NextRuns.LaterStores.{IsLater, StoresGoOn, later_mark, later_reply}

-- each request of the second map is in the first under a number that is greater by this many
abbrev AreLater : ℕ → Requests → Requests → Type 0
AreLater many later requests = (n : ℕ) → maps.get later (n + many) ≡ maps.get requests n

abbrev none : Requests
none = maps.empty

-- no request is among none
none_left : (n k : ℕ) → maps.get none n ≡ maps.get none k
none_left n k = maps.get-empty nat_cmp n ∙ sym (maps.get-empty nat_cmp k)

set_later : (many : ℕ) (later requests : Requests) → AreLater many later requests → (n : ℕ) (r : RequestState) → AreLater many (maps.insert later (n + many) r) (maps.insert requests n r)
set_later many later requests are n r k = elim (same_or_other k n) [
  | inl same ↦ get-insert_same later (n + many) (k + many) r (ap (λ (x : ℕ). x + many) same) ∙ sym (get-insert_same requests n k r same)
  | inr apart ↦ get-insert_other later (n + many) (k + many) r (λ e. apart (omega (arith, e))) ∙ (are k ∙ sym (get-insert_other requests n k r apart))
]

-- both stores take a mark, and are the same but for the numbers, or neither takes it
abbrev TakeBoth : ℕ → Option Store → Option Store → Type 0
TakeBoth many (Some later) (Some store) = IsLater many later store
TakeBoth many None None = Unit {0}
TakeBoth many later store = ⊥

by_test : (many : ℕ) (test : Bool) (later store : Store) → IsLater many later store → TakeBoth many (if test then Some later else None) (if test then Some store else None)
by_test many true later store is = is
by_test many false later store is = tt

-- A store with these requests and this next number, and else as the other.
module _ (many : ℕ) (store : Store) (next : ℕ) (requests : Requests) (on : next ≡ store.next + many) (are : AreLater many requests store.requests) where
  abbrev later : Store
  later = record store { next = next; requests = requests }

  abbrev Both : Option Store → Option Store → Type 0
  Both one other = TakeBoth many one other

  by_request : (one other : RequestState → Option Store) → ((r : RequestState) → Both (one r) (other r)) → (found its : Option RequestState) → found ≡ its → Both (option_and_then one found) (option_and_then other its)
  by_request one other both found its same = subst (λ (x : Option RequestState). Both (option_and_then one found) (option_and_then other x)) same (by found)
    where
      by : (x : Option RequestState) → Both (option_and_then one x) (option_and_then other x)
      by None = tt
      by (Some r) = both r

  -- with this request, these words, so many slots in use, this fault and this change in doubt
  changed : (n : ℕ) (r : RequestState) (words : List ℕ) (used : ℕ) (faulted : Bool) (doubt : List Entry)
      → IsLater many (record later { words = words; used = used; requests = maps.insert requests (n + many) r; faulted = faulted; in_doubt = doubt })
      (record store { words = words; used = used; requests = maps.insert store.requests n r; faulted = faulted; in_doubt = doubt })
  changed n r words used faulted doubt = record { words = refl; quota = refl; used = refl; next = on; requests = set_later many requests store.requests are n r; faulted = refl; in_doubt = refl }

  looks : (n : ℕ) (r : RequestState) (job : Job) → Both (look_at later (n + many) r job) (look_at store n r job)
  looks n r (Get address) = by_test many (is_none r.placed) _ _ (changed n _ store.words store.used store.faulted store.in_doubt)
  looks n r (Cas entries) = tt

  misses : (n : ℕ) (r : RequestState) (entry : Option Entry) → Both (miss_at later (n + many) r entry) (miss_at store n r entry)
  misses n r None = tt
  misses n r (Some entry) = by_test many _ _ _ (changed n _ store.words store.used store.faulted store.in_doubt)

  asks : (n : ℕ) (job : Job) (same : Bool) (other : Bool) → same ≡ other → Both (if same && is_well_formed (length store.words) job then Some (record later { next = next + 1; requests = maps.insert requests (n + many) (asked job) }) else None)
      (if other && is_well_formed (length store.words) job then Some (record store { next = store.next + 1; requests = maps.insert store.requests n (asked job) }) else None)
  asks n job same other is =
      subst (λ (test : Bool). Both (if same && is_well_formed (length store.words) job then Some (record later { next = next + 1; requests = maps.insert requests (n + many) (asked job) }) else None)
      (if test && is_well_formed (length store.words) job then Some (record store { next = store.next + 1; requests = maps.insert store.requests n (asked job) }) else None)) is
      (by_test many (same && is_well_formed (length store.words) job) _ _
      (record { words = refl; quota = refl; used = refl; next = (omega (arith, on)); requests = set_later many requests store.requests are n (asked job); faulted = refl; in_doubt = refl }))

  same_number : (n : ℕ) → (n + many == next) ≡ (n == store.next)
  same_number n = grind (arith, nat_tests, on)

  -- a start leaves no request
  starts : (words : List ℕ) (opened : Bool) (quota : ℕ) → IsLater many (store_after_start later words opened quota) (store_after_start store words opened quota)
  starts words opened quota = record { words = refl; quota = refl; used = refl; next = on; requests = λ n. none_left (n + many) n; faulted = refl; in_doubt = refl }

  cut : (n : ℕ) (take opened : Bool) (quota : ℕ) (found its : Option RequestState) → found ≡ its
      → Both (if option_map_or (may_seal store) found false && (not take || true) && is_quota quota
      then Some (store_after_start later (if take then put store.words (option_map_or (λ r. entries_of r.job) found []) else store.words) opened quota) else None)
      (if option_map_or (may_seal store) its false && (not take || true) && is_quota quota
      then Some (store_after_start store (if take then put store.words (option_map_or (λ r. entries_of r.job) its []) else store.words) opened quota) else None)
  cut n take opened quota found its same =
      subst (λ (x : Option RequestState). Both (if option_map_or (may_seal store) found false && (not take || true) && is_quota quota
      then Some (store_after_start later (if take then put store.words (option_map_or (λ r. entries_of r.job) found []) else store.words) opened quota) else None)
      (if option_map_or (may_seal store) x false && (not take || true) && is_quota quota
      then Some (store_after_start store (if take then put store.words (option_map_or (λ r. entries_of r.job) x []) else store.words) opened quota) else None)) same
      (by_test many (option_map_or (may_seal store) found false && (not take || true) && is_quota quota) _ _ (starts _ opened quota))

  step_form : (mark : Mark) → Both (step later (later_mark many mark)) (step store mark)
  step_form (Ask n job) = asks n job (n + many == next) (n == store.next) (same_number n)
  step_form (Admit n) = by_request (admit later (n + many)) (admit store n) (λ r. by_test many _ _ _ (changed n _ store.words (store.used + 1) store.faulted store.in_doubt)) _ _ (are n)
  step_form (Busy n) = by_request (refuse_busy later (n + many)) (refuse_busy store n) (λ r. by_test many _ _ _ (changed n _ store.words store.used store.faulted store.in_doubt)) _ _ (are n)
  step_form (Look n) = by_request (λ r. look_at later (n + many) r r.job) (λ r. look_at store n r r.job) (λ r. looks n r r.job) _ _ (are n)
  step_form (Miss n index) =
      by_request (λ r. miss_at later (n + many) r (slice_get (entries_of r.job) index)) (λ r. miss_at store n r (slice_get (entries_of r.job) index)) (λ r. misses n r (slice_get (entries_of r.job) index)) _ _ (are n)
  step_form (Seal n) = by_request (seal later (n + many)) (seal store n) (λ r. by_test many _ _ _ (changed n _ (put store.words (entries_of r.job)) store.used store.faulted store.in_doubt)) _ _ (are n)
  step_form (SealFail n) = by_request (fail_seal later (n + many)) (fail_seal store n) (λ r. by_test many _ _ _ (changed n _ store.words store.used true (entries_of r.job))) _ _ (are n)
  step_form FileFail = fails store.faulted
    where
      fails : (test : Bool) → Both (if test then None else Some (record later { faulted = true })) (if test then None else Some (record store { faulted = true }))
      fails true = tt
      fails false = record { words = refl; quota = refl; used = refl; next = on; requests = are; faulted = refl; in_doubt = refl }
  step_form (GiveUp n) = by_request (give_up later (n + many)) (give_up store n) (λ r. by_test many _ _ _ (changed n _ store.words store.used store.faulted store.in_doubt)) _ _ (are n)
  step_form (Retire n) = by_request (retire later (n + many)) (retire store n) (λ r. by_test many _ _ _ (changed n _ store.words _ store.faulted store.in_doubt)) _ _ (are n)
  step_form (HandOut n) = by_request (hand_out later (n + many)) (hand_out store n) (λ r. by_test many _ _ _ (changed n _ store.words store.used store.faulted store.in_doubt)) _ _ (are n)
  step_form (Restart None take opened quota) = by_test many ((not take || has_in_doubt store None) && is_quota quota) _ _ (starts _ opened quota)
  step_form (Restart (Some n) take opened quota) = cut n take opened quota _ _ (are n)

  hands : (n : ℕ) (found its : Option RequestState) → found ≡ its → option_map (λ reply. (n + many, reply)) (option_and_then due_reply found) ≡ option_map (later_reply many) (option_map (λ reply. (n, reply)) (option_and_then due_reply its))
  hands n found its same =
      ap (λ (x : Option RequestState). option_map (λ reply. (n + many, reply)) (option_and_then due_reply x)) same ∙ by (option_and_then due_reply its)
    where
      by : (x : Option Reply) → option_map (λ reply. (n + many, reply)) x ≡ option_map (later_reply many) (option_map (λ reply. (n, reply)) x)
      by None = refl
      by (Some reply) = refl

  outgoing_form : (mark : Mark) → outgoing later (later_mark many mark) ≡ option_map (later_reply many) (outgoing store mark)
  outgoing_form (HandOut n) = hands n _ _ (are n)
  outgoing_form mark = refl

-- The same of any two such stores.
module _ (many : ℕ) where
  form_of : (later store : Store) → IsLater many later store → later ≡ record store { next = later.next; requests = later.requests }
  form_of later store is = λ i. record { words = is.words i; quota = is.quota i; used = is.used i; next = later.next; requests = later.requests; faulted = is.faulted i; in_doubt = is.in_doubt i }

  step_later : (later store : Store) (mark : Mark) → IsLater many later store → TakeBoth many (step later (later_mark many mark)) (step store mark)
  step_later later store mark is =
      subst (λ (one : Store). TakeBoth many (step one (later_mark many mark)) (step store mark)) (sym (form_of later store is)) (step_form many store later.next later.requests is.next is.requests mark)

  outgoing_later : (later store : Store) (mark : Mark) → IsLater many later store → outgoing later (later_mark many mark) ≡ option_map (later_reply many) (outgoing store mark)
  outgoing_later later store mark is =
      subst (λ (one : Store). outgoing one (later_mark many mark) ≡ option_map (later_reply many) (outgoing store mark)) (sym (form_of later store is)) (outgoing_form many store later.next later.requests is.next is.requests mark)

  -- a mark that the second store takes
  record Takes (later : Store) (mark : Mark) (next : Store) : Type 0 where
    after : Store
    taken : step later (later_mark many mark) ≡ Some after
    same : IsLater many after next

  takes : (later store next : Store) (mark : Mark) → IsLater many later store → step store mark ≡ Some next → Takes later mark next
  takes later store next mark is at = by (step later (later_mark many mark)) refl (subst (TakeBoth many (step later (later_mark many mark))) at (step_later later store mark is))
    where
      by : (found : Option Store) → step later (later_mark many mark) ≡ found → TakeBoth many found (Some next) → Takes later mark next
      by None none both = absurd both
      by (Some after) so both = record { after = after; taken = so; same = both }

  -- and a list of marks
  record TakesAll (later : Store) (marks : List Mark) (store last : Store) : Type 0 where
    end : Store
    taken : run later (map (later_mark many) marks) ≡ Some end
    same : IsLater many end last
    replies : replies_from later (map (later_mark many) marks) ≡ map (later_reply many) (replies_from store marks)

  list_later : (one : Option (ℕ × Reply)) (rest : List (ℕ × Reply)) → option_to_list (option_map (later_reply many) one) ++ map (later_reply many) rest ≡ map (later_reply many) (option_to_list one ++ rest)
  list_later None rest = refl
  list_later (Some one) rest = refl

  takes_all : (marks : List Mark) (later store last : Store) → IsLater many later store → run store marks ≡ Some last → TakesAll later marks store last
  takes_all [] later store last is ran = record { end = later; taken = refl; same = subst (IsLater many later) (same_Some store last ran) is; replies = refl }
  takes_all (mark ∷ marks) later store last is ran =
      option_and_then_some (λ t. run t marks) (step store mark) last ran (λ next at on.
      let one = takes later store next mark is at in
      let rest = takes_all marks one.after next last one.same on in
      record {
        end = rest.end;
        taken = ap (option_and_then (λ t. run t (map (later_mark many) marks))) one.taken ∙ rest.taken;
        same = rest.same;
        replies =
            ap (λ o. option_to_list (outgoing later (later_mark many mark)) ++ unwrap_or (option_map (λ t. replies_from t (map (later_mark many) marks)) o) []) one.taken
            ∙ ap (λ (given : Option (ℕ × Reply)). option_to_list given ++ replies_from one.after (map (later_mark many) marks)) (outgoing_later later store mark is)
            ∙ ap (λ (given : List (ℕ × Reply)). option_to_list (option_map (later_reply many) (outgoing store mark)) ++ given) rest.replies
            ∙ list_later (outgoing store mark) (replies_from next marks)
            ∙ ap (map (later_reply many)) (sym (ap (λ o. option_to_list (outgoing store mark) ++ unwrap_or (option_map (λ t. replies_from t marks) o) []) at));
      })

-- What a start leaves is the new store with later numbers.
record Leaves (store base : Store) (quota : ℕ) (opened : Bool) : Type 0 where
  words : List ℕ
  is : base ≡ store_after_start store words opened quota

leaves : (store base : Store) (interrupted : Option ℕ) (take opened : Bool) (quota : ℕ) → step store (Restart interrupted take opened quota) ≡ Some base → Leaves store base quota opened
leaves store base interrupted take opened quota goes = by _ _ goes
  where
    by : (test : Bool) (words : List ℕ) → (if test then Some (store_after_start store words opened quota) else None) ≡ Some base → Leaves store base quota opened
    by true words is = record { words = words; is = sym (same_Some _ base is) }
    by false words is = absurd (none-some base is)

begins_later : (store base : Store) (quota : ℕ) (opened : Bool) → Leaves store base quota opened → IsLater store.next base (first_store base.words quota (not opened))
begins_later store base quota opened left =
    subst (λ (one : Store). IsLater store.next one (first_store one.words quota (not opened))) (sym left.is)
    (record { words = refl; quota = refl; used = refl; next = (omega arith); requests = λ n. none_left (n + store.next) n; faulted = refl; in_doubt = refl })

-- one store takes the marks, the start, and the others' marks
pub stores_go_on : StoresGoOn
stores_go_on first store base last marks others interrupted take opened quota ran starts goes =
    let start = Restart interrupted take opened quota in
    let many = store.next in
    let new = first_store base.words quota (not opened) in
    let rest = takes_all many others base new last (begins_later store base quota opened (leaves store base interrupted take opened quota starts)) goes in
    record {
      whole = rest.end;
      legal = run-append first marks (start ∷ map (later_mark many) others) ∙ ap (option_and_then (λ u. run u (start ∷ map (later_mark many) others))) ran
          ∙ ap (option_and_then (λ t. run t (map (later_mark many) others))) starts ∙ rest.taken;
      same = rest.same;
      replies = replies_append first store marks (start ∷ map (later_mark many) others) ran
          ∙ ap (λ o. replies_from first marks ++ unwrap_or (option_map (λ t. replies_from t (map (later_mark many) others)) o) []) starts
          ∙ ap (λ (given : List (ℕ × Reply)). replies_from first marks ++ given) rest.replies;
    }
