-- A disk in memory that puts torn bytes into its unsynced ranges, one after the other, gets bytes that a crash may leave.
-- Used by: tear, MemDisk::crash.
use Rattle.std.proofs.Common.{◌≡◌, ◌≢◌, ◌<◌, ◌≤◌, ◌-◌, ℕ, ◌+◌, suc, zero, Bool, cond, IsTrue, List, [], ◌∷◌, ◌++◌, length, set, get_or, replicate, refl, sym, ap, ◌∙◌, subst, inl, inr, arith, add-one, Some, None}
use Rattle.std.proofs.lemmas.List.{get_or_past, get_or_append_left, get_or-append_right, get_or-replicate, get_or-set_same, get_or-set_other, length-set, length-replicate}
use Rattle.std.proofs.lemmas.Bool.{cases_lt, cases_eq, cases_Bool, false≢true}
use Rattle.mw_disk.specs.Facts.{MayLeave}
use Rattle.mw_memory_disk.specs.Memory.{padded, Memory, memory_facts}
use Rattle.mw_memory_disk.specs.Crash.{spans_after, spans_from, unsynced, is_within, count_within, IsNext, IsTorn, Tears}
use Rattle.mw_memory_disk.proofs.Remembered.{length-padded}
use Rattle.mw_memory_disk.proofs.Images.{reach, reach_least, within_reach, differs_left}
use Rattle.mw_memory_disk.specs.declared.spans.Span.{Span}
use Rattle.mw_memory_disk.specs.declared.event.Event.{Event}

-- ---- the ranges of a log

pub spans_push : (spans : List Span) (es : List Event) (e : Event) → spans_from spans (es ++ e ∷ []) ≡ spans_after (spans_from spans es) e.call
spans_push spans [] e = refl
spans_push spans (d ∷ es) e = spans_push (spans_after spans d.call) es e

-- ---- how many offsets are in the ranges

count_one : (spans : List Span) (k : ℕ) → IsTrue (is_within spans k) → count_within spans (suc k) ≡ count_within spans k + 1
count_one spans k is = ap (λ (b : Bool). count_within spans k + cond b 1 0) is

count_none : (spans : List Span) (k : ℕ) → (IsTrue (is_within spans k) → ⊥) → count_within spans (suc k) ≡ count_within spans k
count_none spans k out = elim (cases_Bool (is_within spans k)) [
  | inl is ↦ absurd (out is)
  | inr isnt ↦ ap (λ (b : Bool). count_within spans k + cond b 1 0) isnt ∙ (let e : count_within spans k + 0 ≡ count_within spans k = omega arith in e)
]

count_step : (spans : List Span) (k : ℕ) → count_within spans k ≤ count_within spans (suc k)
count_step spans k = elim (cases_Bool (is_within spans k)) [
  | inl is ↦ let e = count_one spans k is in omega arith
  | inr isnt ↦ let e = count_none spans k (λ is. false≢true (sym isnt ∙ is)) in omega arith
]

count_by : (spans : List Span) (j n : ℕ) → count_within spans j ≤ count_within spans (n + j)
count_by spans j zero = let e : 0 + j ≡ j = omega arith in subst (λ (i : ℕ). count_within spans j ≤ count_within spans i) (sym e) (omega arith)
count_by spans j (suc n) =
    let e : suc n + j ≡ suc (n + j) = omega arith in
    let h = count_by spans j n in
    let s = count_step spans (n + j) in
    subst (λ (i : ℕ). count_within spans j ≤ count_within spans i) (sym e) (omega arith)

count_mono : (spans : List Span) (j k : ℕ) → j ≤ k → count_within spans j ≤ count_within spans k
count_mono spans j k le =
    let e : k - j + j ≡ k = omega arith in
    subst (λ (i : ℕ). count_within spans j ≤ count_within spans i) e (count_by spans j (k - j))

-- an offset in the ranges has fewer offsets before it than a later one has
count_lt : (spans : List Span) (j k : ℕ) → IsTrue (is_within spans j) → j < k → count_within spans j < count_within spans k
count_lt spans j k is lt =
    let e = count_one spans j is in
    let h = count_mono spans (suc j) k (omega arith) in
    omega arith

count_gap_by : (spans : List Span) (from n : ℕ) → ((j : ℕ) → from ≤ j → j < n + from → IsTrue (is_within spans j) → ⊥) → count_within spans (n + from) ≡ count_within spans from
count_gap_by spans from zero none = ap (λ (i : ℕ). count_within spans i) (let e : 0 + from ≡ from = omega arith in e)
count_gap_by spans from (suc n) none =
    let e : suc n + from ≡ suc (n + from) = omega arith in
    ap (λ (i : ℕ). count_within spans i) e
    ∙ (count_none spans (n + from) (none (n + from) (omega arith) (omega arith))
    ∙ count_gap_by spans from n (λ j low high. none j low (omega arith)))

-- no offset is counted between `from` and the next offset in the ranges
count_gap : (spans : List Span) (from k : ℕ) → from ≤ k → ((j : ℕ) → from ≤ j → j < k → IsTrue (is_within spans j) → ⊥) → count_within spans k ≡ count_within spans from
count_gap spans from k le none =
    let e : k - from + from ≡ k = omega arith in
    subst (λ (i : ℕ). count_within spans i ≡ count_within spans from) e
    (count_gap_by spans from (k - from) (λ j low high. none j low (omega arith)))

-- ---- one more torn byte

-- the bytes that are there, and zeros after them
pub get_or-padded : (bytes : List ℕ) (n k : ℕ) → get_or (padded bytes n) k 0 ≡ get_or bytes k 0
get_or-padded bytes n k = elim (cases_lt k (length bytes)) [
  | inl there ↦ get_or_append_left bytes (replicate (n - length bytes) 0) 0 k there
  | inr past ↦ get_or-append_right bytes (replicate (n - length bytes) 0) (length bytes) k 0 refl past
      ∙ (elim (cases_lt (k - length bytes) (n - length bytes)) [
        | inl within ↦ get_or-replicate (n - length bytes) (k - length bytes) 0 0 within
        | inr above ↦ get_or_past (replicate (n - length bytes) 0) (k - length bytes) 0 (let r = length-replicate {A = ℕ} (n - length bytes) 0 in omega arith)
      ]
      ∙ sym (get_or_past bytes k 0 past))
]

torn_before : (spans : List Span) (n k : ℕ) → IsTorn spans n k → IsTorn spans (n + 1) k
torn_before spans n k is = record { within = is.within; early = let e = is.early in omega arith }

-- an offset that is torn after one more byte, and is not that byte's, was torn before
torn_others : (spans : List Span) (offset n k : ℕ) → count_within spans offset ≡ n → IsTrue (is_within spans offset) → k ≢ offset → IsTorn spans (n + 1) k → IsTorn spans n k
torn_others spans offset n k count within other is = record {
  within = is.within;
  early = elim (cases_lt k offset) [
    | inl below ↦ let h = count_lt spans k offset is.within below in omega arith
    | inr from ↦ absurd (let above : offset < k = omega arith in let h = count_lt spans offset k within above in let early = is.early in let e : ⊥ = omega arith in e)
  ];
}

pub tears_more : (spans : List Span) (torn : List ℕ) (n from offset byte : ℕ) (old now new : List ℕ) → Tears spans torn n old now → count_within spans from ≡ n
    → IsNext spans from (Some offset) → byte ≡ get_or torn n 0 → new ≡ set (padded now (offset + 1)) offset byte
    → Tears spans torn (n + 1) old new × (count_within spans (offset + 1) ≡ n + 1)
tears_more spans torn n from offset byte old now new tears count next is becomes =
    let there : count_within spans offset ≡ n = count_gap spans from offset next.0 next.2 ∙ count in
    let size : length (padded now (offset + 1)) ≡ length new = sym (ap length becomes ∙ length-set (padded now (offset + 1)) offset byte) in
    let pad = length-padded now (offset + 1) in
    let one : count_within spans (suc offset) ≡ count_within spans offset + 1 = count_one spans offset next.1 in (
      record {
        taken = λ k is_torn. elim (cases_eq k offset) [
          | inl same ↦ (
            omega arith,
            ap (λ (l : List ℕ). get_or l k 0) becomes
                ∙ (ap (λ (j : ℕ). get_or (set (padded now (offset + 1)) offset byte) j 0) same
                ∙ (get_or-set_same (padded now (offset + 1)) offset byte 0 (omega arith)
                ∙ (is ∙ ap (λ (j : ℕ). get_or torn j 0) (sym (ap (λ (j : ℕ). count_within spans j) same ∙ there))))),
          )
          | inr other ↦
              let t = tears.taken k (torn_others spans offset n k there next.1 other is_torn) in (
                let l = t.0 in omega arith,
                ap (λ (l : List ℕ). get_or l k 0) becomes
                    ∙ (get_or-set_other (padded now (offset + 1)) offset k byte 0 other
                    ∙ (get_or-padded now (offset + 1) k ∙ t.1)),
              )
        ];
        stays = λ k out. elim (cases_eq k offset) [
          | inl same ↦ absurd (out (record {
            within = subst (λ (j : ℕ). IsTrue (is_within spans j)) (sym same) next.1;
            early = let e = ap (λ (j : ℕ). count_within spans j) same in omega arith;
          }))
          | inr other ↦ ap (λ (l : List ℕ). get_or l k 0) becomes
              ∙ (get_or-set_other (padded now (offset + 1)) offset k byte 0 other
              ∙ (get_or-padded now (offset + 1) k ∙ tears.stays k (λ is_torn. out (torn_before spans n k is_torn))))
        ];
        no_shorter = let l = tears.no_shorter in omega arith;
        ends = λ k last past. elim (cases_lt offset (length now)) [
          | inl inside ↦ torn_before spans n k (tears.ends k (omega arith) past)
          | inr outside ↦ record {
            within = let e : offset ≡ k = omega arith in subst (λ (j : ℕ). IsTrue (is_within spans j)) e next.1;
            early = let e : offset ≡ k = omega arith in let f = ap (λ (j : ℕ). count_within spans j) e in omega arith;
          }
        ];
      },
      ap (λ (j : ℕ). count_within spans j) (add-one offset) ∙ (one ∙ ap (λ (j : ℕ). j + 1) there),
    )

-- after no byte was taken
pub tears_none : (spans : List Span) (torn bytes : List ℕ) → Tears spans torn 0 bytes bytes
tears_none spans torn bytes = record {
  taken = λ k is. absurd (let e = is.early in let f : ⊥ = omega arith in f);
  stays = λ k out. refl;
  no_shorter = omega arith;
  ends = λ k last past. absurd (let f : ⊥ = omega arith in f);
}

-- after all offsets have their bytes, more torn bytes change nothing
pub tears_all : (spans : List Span) (torn : List ℕ) (n m from : ℕ) (old new : List ℕ) → Tears spans torn n old new → count_within spans from ≡ n → n ≤ m
    → IsNext spans from None → Tears spans torn m old new
tears_all spans torn n m from old new tears count le none =
    let fewer : (k : ℕ) → IsTorn spans m k → IsTorn spans n k = λ k is. record {
      within = is.within;
      early = elim (cases_lt k from) [
        | inl below ↦ let h = count_lt spans k from is.within below in omega arith
        | inr past ↦ absurd (none k past is.within)
      ];
    } in
    let more : (k : ℕ) → IsTorn spans n k → IsTorn spans m k = λ k is. record { within = is.within; early = let e = is.early in omega arith } in
    record {
      taken = λ k is. tears.taken k (fewer k is);
      stays = λ k out. tears.stays k (λ is. out (more k is));
      no_shorter = tears.no_shorter;
      ends = λ k last past. more k (tears.ends k last past);
    }

-- ---- such bytes are an image

tears_reach : (spans : List Span) (torn : List ℕ) (n : ℕ) (old new : List ℕ) → Tears spans torn n old new → length new ≤ reach spans (length old)
tears_reach spans torn n old new tears = elim (cases_lt (length old) (length new)) [
  | inl longer ↦
      let is = tears.ends (length new - 1) (omega arith) (omega arith) in
      let h = within_reach spans (length old) (length new - 1) is.within in
      omega arith
  | inr same ↦ let h = reach_least spans (length old) in omega arith
]

pub tears_left : (m : Memory) (torn bytes : List ℕ) → Tears (unsynced m.log) torn (length torn) (memory_facts m).reads bytes → MayLeave (memory_facts m) bytes
tears_left m torn bytes tears = differs_left m bytes (record {
  no_shorter = tears.no_shorter;
  no_longer = tears_reach (unsynced m.log) torn (length torn) (memory_facts m).reads bytes tears;
  outside = λ k there out. tears.stays k (λ is. out is.within);
})
