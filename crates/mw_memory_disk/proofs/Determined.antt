-- From one disk in memory the same calls, none of them refused memory, lead to one disk; and a crash with the same torn bytes
-- leaves one image.
-- Used by: src/laws.rt, mw_world_file.
use Rattle.std.proofs.Common.{◌≡◌, ◌≤◌, ◌-◌, ℕ, ◌+◌, Bool, true, false, List, [], ◌∷◌, length, min, get_or, refl, sym, ap, ◌∙◌, subst, inl, inr, arith}
use Rattle.std.proofs.lemmas.List.{ext_get_or}
use Rattle.std.proofs.lemmas.Bool.{cases_lt, cases_Bool, false≢true}
use Rattle.mw_disk.specs.Facts.{most_counted}
use Rattle.mw_disk.specs.DeviceCalls.{DeviceCall, ReadAt, WriteAt, Sync, Length, Makes}
use Rattle.mw_memory_disk.specs.Memory.{Memory, begun, ended, Ends, IsRefused, next_turn, read_turn, memory_made, NoneRefused}
use Rattle.mw_memory_disk.specs.Crash.{is_within, count_within, IsTorn, Tears}
use Rattle.mw_memory_disk.specs.declared.spans.Span.{Span}
use Rattle.mw_memory_disk.specs.declared.event.Call.{Call}
use Rattle.mw_memory_disk.specs.declared.event.Call.TheVariants.{Quiet, Wrote, Tore, Synced}
use Rattle.mw_memory_disk.specs.declared.event.Turn.{Turn}
use Rattle.mw_memory_disk.specs.declared.event.Turn.TheVariants.{Goes, Fails, Stopped}

-- ---- the count of calls that were refused memory

ended_refused : (turn : Turn) (well failed : Call) (m : Memory) → (ended turn well failed m).refused ≡ m.refused
ended_refused Goes well failed m = refl
ended_refused Fails well failed m = refl
ended_refused Stopped well failed m = refl

ends_refused : (ok : Bool) (turn : Turn) (well failed : Call) (old new : Memory) → Ends ok turn well failed old new → new.refused ≡ old.refused
ends_refused ok turn well failed old new ends = ap (λ (m : Memory). m.refused) ends.leaves ∙ ended_refused turn well failed (begun old)

was_refused : (ok : Bool) (turn : Turn) (old new : Memory) → IsRefused ok turn old new → new.refused ≡ min (old.refused + 1) most_counted
was_refused ok turn old new is = ap (λ (m : Memory). m.refused) is.leaves

-- the count rises, up to its last value
abbrev Rises : Memory → Memory → Type 0
Rises old new = (old.refused ≤ new.refused) × (new.refused ≤ most_counted)

stays : (old new : Memory) → old.refused ≤ most_counted → new.refused ≡ old.refused → Rises old new
stays old new most is = (omega arith, omega arith)

rises : (call : DeviceCall) (ok : Bool) (old new : Memory) → memory_made call ok old new → old.refused ≤ most_counted → Rises old new
rises (ReadAt at n) ok old new made most = stays old new most (ends_refused ok (read_turn old at n) (Quiet true) (Quiet false) old new made)
rises (WriteAt at bytes) ok old new made most = elim made [
  | inl ends ↦ stays old new most (ends_refused ok (next_turn old) (Wrote at bytes) (Tore at (length bytes)) old new ends)
  | inr is ↦ let e = was_refused ok (next_turn old) old new is in (omega arith, omega arith)
]
rises Sync ok old new made most = stays old new most (ends_refused ok (next_turn old) Synced (Quiet false) old new made)
rises Length ok old new made most = stays old new most (ends_refused ok (next_turn old) (Quiet true) (Quiet false) old new made)

-- it rises over any number of calls
pub all_rise : (calls : List DeviceCall) (ok : Bool) (old new : Memory) → Makes memory_made calls ok old new → old.refused ≤ most_counted → Rises old new
all_rise [] ok old new made most = stays old new most (ap (λ (m : Memory). m.refused) made.1)
all_rise (call ∷ rest) ok old new made most = elim made [
  | inl failed ↦ rises call false old new failed.1 most
  | inr went ↦
      let first = rises call true old went.0 went.1 most in
      let others = all_rise rest ok went.0 new went.2 first.1 in
      (let a = first.0 in let b = others.0 in omega arith, others.1)
]

-- ---- one call

ends_same : (ok also : Bool) (turn : Turn) (well failed : Call) (old one other : Memory) → Ends ok turn well failed old one → Ends also turn well failed old other
    → (ok ≡ also) × (one ≡ other)
ends_same ok also turn well failed old one other this that = (this.outcome ∙ sym that.outcome, this.leaves ∙ sym that.leaves)

ends_write : (ok : Bool) (at : ℕ) (bytes : List ℕ) (old new : Memory) → memory_made (WriteAt at bytes) ok old new → NoneRefused old new
    → Ends ok (next_turn old) (Wrote at bytes) (Tore at (length bytes)) old new
ends_write ok at bytes old new made none = elim made [
  | inl ends ↦ ends
  | inr is ↦ absurd (let e = was_refused ok (next_turn old) old new is in let room = none.room in let same = none.none in let f : ⊥ = omega arith in f)
]

-- one call that is not refused memory leads to one disk and one answer
pub one_call : (call : DeviceCall) (ok also : Bool) (old one other : Memory) → memory_made call ok old one → memory_made call also old other
    → NoneRefused old one → NoneRefused old other → (ok ≡ also) × (one ≡ other)
one_call (ReadAt at n) ok also old one other this that none neither = ends_same ok also (read_turn old at n) (Quiet true) (Quiet false) old one other this that
one_call (WriteAt at bytes) ok also old one other this that none neither =
    ends_same ok also (next_turn old) (Wrote at bytes) (Tore at (length bytes)) old one other
    (ends_write ok at bytes old one this none) (ends_write also at bytes old other that neither)
one_call Sync ok also old one other this that none neither = ends_same ok also (next_turn old) Synced (Quiet false) old one other this that
one_call Length ok also old one other this that none neither = ends_same ok also (next_turn old) (Quiet true) (Quiet false) old one other this that

-- ---- a list of calls

-- a disk between the two: none was refused memory before it, and none after it
before_it : (call : DeviceCall) (rest : List DeviceCall) (ok : Bool) (old mid new : Memory) → memory_made call true old mid → Makes memory_made rest ok mid new
    → NoneRefused old new → NoneRefused old mid × NoneRefused mid new
before_it call rest ok old mid new first made none =
    let room = none.room in
    let same = none.none in
    let a = rises call true old mid first (omega arith) in
    let b = all_rise rest ok mid new made a.1 in
    let low = a.0 in
    let high = b.0 in
    let e : mid.refused ≡ old.refused = omega arith in
    (record { room = room; none = e }, record { room = omega arith; none = omega arith })

pub same_disk : (calls : List DeviceCall) (old one other : Memory) (well also : Bool) → Makes memory_made calls well old one → Makes memory_made calls also old other
    → NoneRefused old one → NoneRefused old other → (well ≡ also) × (one ≡ other)
same_disk [] old one other well also this that none neither = (this.0 ∙ sym that.0, this.1 ∙ sym that.1)
same_disk (call ∷ rest) old one other well also this that none neither = elim this [
  | inl failed ↦ elim that [
    | inl fell ↦ (failed.0 ∙ sym fell.0, (one_call call false false old one other failed.1 fell.1 none neither).1)
    | inr went ↦
        let n = before_it call rest also old went.0 other went.1 went.2 neither in
        absurd (false≢true (one_call call false true old one went.0 failed.1 went.1 none n.0).0)
  ]
  | inr gone ↦
      let m = before_it call rest well old gone.0 one gone.1 gone.2 none in
      elim that [
        | inl fell ↦ absurd (false≢true (one_call call false true old other gone.0 fell.1 gone.1 neither m.0).0)
        | inr went ↦
            let n = before_it call rest also old went.0 other went.1 went.2 neither in
            let is = (one_call call true true old gone.0 went.0 gone.1 went.1 m.0 n.0).1 in
            same_disk rest gone.0 one other well also gone.2
            (subst (λ (d : Memory). Makes memory_made rest also d other) (sym is) went.2) m.1
            (subst (λ (d : Memory). NoneRefused d other) (sym is) n.1)
      ]
]

-- ---- the image of a crash

not_longer : (spans : List Span) (torn : List ℕ) (n : ℕ) (old one other : List ℕ) → Tears spans torn n old one → Tears spans torn n old other → length one ≤ length other
not_longer spans torn n old one other this that = elim (cases_lt (length other) (length one)) [
  | inl longer ↦ absurd (
      let low = that.no_shorter in
      let is = this.ends (length one - 1) (omega arith) (omega arith) in
      let there = (that.taken (length one - 1) is).0 in
      let e : ⊥ = omega arith in e
      )
  | inr isnt ↦ isnt
]

-- an offset is torn or not
torn_or_not : (P : Type 0) (spans : List Span) (n k : ℕ) → (IsTorn spans n k → P) → ((IsTorn spans n k → ⊥) → P) → P
torn_or_not P spans n k torn whole = elim (cases_Bool (is_within spans k)) [
  | inl within ↦ elim (cases_lt (count_within spans k) n) [
    | inl early ↦ torn (record { within = within; early = early })
    | inr late ↦ whole (λ is. let early = is.early in let e : ⊥ = omega arith in e)
  ]
  | inr outside ↦ whole (λ is. false≢true (sym outside ∙ is.within))
]

same_byte : (spans : List Span) (torn : List ℕ) (n : ℕ) (old one other : List ℕ) → Tears spans torn n old one → Tears spans torn n old other
    → (k : ℕ) → get_or one k 0 ≡ get_or other k 0
same_byte spans torn n old one other this that k = torn_or_not (get_or one k 0 ≡ get_or other k 0) spans n k
    (λ is. (this.taken k is).1 ∙ sym (that.taken k is).1) (λ isnt. this.stays k isnt ∙ sym (that.stays k isnt))

pub same_image : (spans : List Span) (torn : List ℕ) (n : ℕ) (old one other : List ℕ) → Tears spans torn n old one → Tears spans torn n old other → one ≡ other
same_image spans torn n old one other this that =
    let a = not_longer spans torn n old one other this that in
    let b = not_longer spans torn n old other one that this in
    ext_get_or 0 one other (omega arith) (λ k there. same_byte spans torn n old one other this that k)
