-- A crash of a disk in memory may leave any bytes that differ from what a read gives only in ranges written since the last
-- sync. (`Differs` also bounds their number.) Used by: TornBytes.
use Rattle.std.proofs.Common.{◌≡◌, ◌<◌, ◌≤◌, ℕ, ◌+◌, true, false, cond, List, [], ◌∷◌, ◌++◌, length, min, max, map, get_or, sym, ◌∙◌, inl, inr, ◌⊎◌, arith, ltb, leb}
use Rattle.std.specs.List.{range_with_len}
use Rattle.std.proofs.lemmas.List.{ext_get_or}
use Rattle.std.proofs.lemmas.List.Folds.{list_any-append}
use Rattle.std.proofs.lemmas.List.FromFn.{length-map-range_with_len, get_or-map-range_with_len}
use Rattle.std.proofs.lemmas.Bool.{cases_lt, cases_Bool, cond-true, cond-false, ltb-true, leb-true, lt-ltb, le-leb, and_parts, and_from, or_cases, false≢true}
use Rattle.mw_disk.specs.Facts.{MayLeave, Torn, patched}
use Rattle.mw_memory_disk.specs.Memory.{State, only, after, run, padded, Memory, memory_facts}
use Rattle.mw_memory_disk.specs.Crash.{spans_after, spans_from, unsynced, covers, is_within}
use Rattle.mw_memory_disk.proofs.Remembered.{torn_none, torn_patched, to_now}
use Rattle.mw_memory_disk.specs.declared.spans.Span.{Span}
use Rattle.mw_memory_disk.specs.declared.event.Event.{Event}
use Rattle.mw_memory_disk.specs.declared.event.Call.{Call}
use Rattle.mw_memory_disk.specs.declared.event.Call.TheVariants.{Quiet, Wrote, Tore, Synced}

-- where a file of n bytes ends at most after writes to the ranges
abbrev pub reach : List Span → ℕ → ℕ
reach [] n = n
reach (s ∷ spans) n = max (s.at + s.len) (reach spans n)

reach_push : (spans : List Span) (s : Span) (n : ℕ) → reach (spans ++ s ∷ []) n ≡ max (reach spans n) (s.at + s.len)
reach_push [] s n = omega arith
reach_push (t ∷ spans) s n = let e = reach_push spans s n in omega arith

reach_more : (spans : List Span) (m n x : ℕ) → m ≤ max n x → reach spans m ≤ max (reach spans n) x
reach_more [] m n x le = le
reach_more (s ∷ spans) m n x le = let h = reach_more spans m n x le in omega arith

pub reach_least : (spans : List Span) (n : ℕ) → n ≤ reach spans n
reach_least [] n = omega arith
reach_least (s ∷ spans) n = let h = reach_least spans n in omega arith

covers_parts : (k : ℕ) (s : Span) → covers k s ≡ true → (s.at ≤ k) × (k < s.at + s.len)
covers_parts k s is = let p = and_parts (leb s.at k) (ltb k (s.at + s.len)) is in (leb-true s.at k p.0, ltb-true k (s.at + s.len) p.1)

covers_from : (k : ℕ) (s : Span) → s.at ≤ k → k < s.at + s.len → covers k s ≡ true
covers_from k s low high = and_from (leb s.at k) (ltb k (s.at + s.len)) (le-leb s.at k low) (lt-ltb k (s.at + s.len) high)

pub within_reach : (spans : List Span) (n k : ℕ) → is_within spans k ≡ true → k < reach spans n
within_reach [] n k is = cc
within_reach (s ∷ spans) n k is = elim (or_cases (covers k s) (is_within spans k) is) [
  | inl here ↦ let p = covers_parts k s here in omega arith
  | inr there ↦ let h = within_reach spans n k there in omega arith
]

within_push : (spans : List Span) (s : Span) (k : ℕ) → is_within (spans ++ s ∷ []) k ≡ true → (is_within spans k ≡ true) ⊎ (covers k s ≡ true)
within_push spans s k is = elim (or_cases (is_within spans k) (is_within (s ∷ []) k) (sym (list_any-append (covers k) spans (s ∷ [])) ∙ is)) [
  | inl before ↦ inl before
  | inr last ↦ elim (or_cases (covers k s) false last) [ inl here ↦ inr here | inr never ↦ cc ]
]

-- The bytes are the same outside the ranges, and no fewer than they are and no more than the ranges allow.
pub record Differs (spans : List Span) (now c : List ℕ) : Type 0 where
  pub no_shorter : length now ≤ length c
  pub no_longer : length c ≤ reach spans (length now)
  pub outside : (k : ℕ) → k < length now → (is_within spans k ≡ true → ⊥) → get_or c k 0 ≡ get_or now k 0

-- a crash may leave all such bytes
pub record Roams (spans : List Span) (s : State) : Type 0 where
  pub each : (c : List ℕ) → Differs spans s.bytes c → s.left c

-- ---- a write: bytes before it, from which it makes these

-- one of those bytes: in the range the one that was there, else the one that is there now
abbrev before_byte : Span → List ℕ → List ℕ → ℕ → ℕ
before_byte span was c k = cond (covers k span) (get_or was k 0) (get_or c k 0)

abbrev bytes_before : Span → List ℕ → List ℕ → ℕ → List ℕ
bytes_before span was c n = map (before_byte span was c) (range_with_len 0 n)

not_covered : (k : ℕ) (s : Span) → (covers k s ≡ true → ⊥) → (k < s.at) ⊎ (s.at + s.len ≤ k)
not_covered k s out = elim (cases_lt k s.at) [
  | inl below ↦ inl below
  | inr from ↦ elim (cases_lt k (s.at + s.len)) [
    | inl within ↦ absurd (out (covers_from k s from within))
    | inr above ↦ inr above
  ]
]

-- outside the range a torn write leaves the bytes
torn_outside : (s : Span) (old new : List ℕ) (k : ℕ) → Torn s.at s.len old new → k < length old → (covers k s ≡ true → ⊥) → get_or new k 0 ≡ get_or old k 0
torn_outside s old new k torn there out = elim (not_covered k s out) [
  | inl below ↦ torn.before k below there
  | inr above ↦ torn.after k above there
]

at_byte : (s : Span) (was c : List ℕ) (n k : ℕ) → k < n → get_or (bytes_before s was c n) k 0 ≡ before_byte s was c k
at_byte s was c n k lt = get_or-map-range_with_len (before_byte s was c) 0 n k k 0 lt (omega arith)

uncovered_byte : (s : Span) (was c : List ℕ) (n k : ℕ) → k < n → (covers k s ≡ true → ⊥) → get_or (bytes_before s was c n) k 0 ≡ get_or c k 0
uncovered_byte s was c n k lt out = at_byte s was c n k lt ∙ elim (cases_Bool (covers k s)) [
  | inl is ↦ absurd (out is)
  | inr isnt ↦ cond-false (covers k s) (get_or was k 0) (get_or c k 0) isnt
]

-- outside the ranges, those bytes are the ones that were there before the write
old_byte : (spans : List Span) (s : Span) (was now c : List ℕ) (n k : ℕ) → Torn s.at s.len was now → Differs (spans ++ s ∷ []) now c
    → k < n → k < length was → (is_within spans k ≡ true → ⊥) → get_or (bytes_before s was c n) k 0 ≡ get_or was k 0
old_byte spans s was now c n k torn differs lt there out = elim (cases_Bool (covers k s)) [
  | inl is ↦ at_byte s was c n k lt ∙ cond-true (covers k s) (get_or was k 0) (get_or c k 0) is
  | inr isnt ↦
      let uncovered : covers k s ≡ true → ⊥ = λ is. false≢true (sym isnt ∙ is) in
      let l = torn.no_shorter in
      uncovered_byte s was c n k lt uncovered
      ∙ (differs.outside k (omega arith) (λ is. elim (within_push spans s k is) [ inl a ↦ out a | inr b ↦ uncovered b ])
      ∙ torn_outside s was now k torn there uncovered)
]

-- bytes that differ after a write are a torn write over bytes that differed before it
one_write : (spans : List Span) (s : Span) (was now c : List ℕ) → Torn s.at s.len was now → Differs (spans ++ s ∷ []) now c
    → (d : List ℕ) × Differs spans was d × Torn s.at s.len d c
one_write spans s was now c torn differs =
    let n : ℕ = min (length c) (reach spans (length was)) in
    let d : List ℕ = bytes_before s was c n in
    let size = length-map-range_with_len (before_byte s was c) 0 n in
    let l = torn.no_shorter in
    let m = torn.no_longer in
    let dl = differs.no_shorter in
    let dm = differs.no_longer in
    let least = reach_least spans (length was) in
    let pushed = reach_push spans s (length now) in
    let more = reach_more spans (length now) (length was) (s.at + s.len) m in (
      d,
      record {
        no_shorter = omega arith;
        no_longer = omega arith;
        outside = λ k there out. old_byte spans s was now c n k torn differs (omega arith) there out;
      },
      record {
        before = λ k below there. sym (uncovered_byte s was c n k (omega arith) (λ is. let p = covers_parts k s is in let e : ⊥ = omega arith in e));
        after = λ k above there. sym (uncovered_byte s was c n k (omega arith) (λ is. let p = covers_parts k s is in let e : ⊥ = omega arith in e));
        no_shorter = omega arith;
        no_longer = omega arith;
      },
    )

roams_only : (bytes : List ℕ) → Roams [] (only bytes)
roams_only bytes = record {
  each = λ c differs. ext_get_or 0 c bytes
      (let l = differs.no_shorter in let m = differs.no_longer in omega arith)
      (λ k lt. differs.outside k (let m = differs.no_longer in omega arith) (λ is. cc));
}

roams_after : (spans : List Span) (s : State) (call : Call) → Roams spans s → Roams (spans_after spans call) (after s call)
roams_after spans s (Quiet well) roams = roams
roams_after spans s (Wrote at block) roams = record {
  each = λ c differs.
      let span : Span = record { at = at; len = length block } in
      let t = one_write spans span s.bytes (patched (padded s.bytes at) at block) c (torn_patched s.bytes at block) differs in
      (t.0, roams.each t.0 t.1, t.2);
}
roams_after spans s (Tore at len) roams = record {
  each = λ c differs.
      let span : Span = record { at = at; len = len } in
      let t = one_write spans span s.bytes s.bytes c (torn_none at len s.bytes) differs in
      (t.0, roams.each t.0 t.1, t.2);
}
roams_after spans s Synced roams = roams_only s.bytes

roams_run : (spans : List Span) (s : State) (es : List Event) → Roams spans s → Roams (spans_from spans es) (run s es)
roams_run spans s [] roams = roams
roams_run spans s (e ∷ es) roams = roams_run (spans_after spans e.call) (after s e.call) es (roams_after spans s e.call roams)

pub differs_left : (m : Memory) (c : List ℕ) → Differs (unsynced m.log) (memory_facts m).reads c → MayLeave (memory_facts m) c
differs_left m c differs = to_now m c ((roams_run [] (only m.first) m.log (roams_only m.first)).each c differs)
