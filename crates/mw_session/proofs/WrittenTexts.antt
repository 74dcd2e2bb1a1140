-- Two writes (or two reads), one after the other, are recorded as the joined bytes. Used by: write_counted, mw_http.
use Rattle.std.proofs.Common.{◌≡◌, ℕ, ◌+◌, ◌-◌, ◌^◌, ◌≤◌, ◌<◌, ◌++◌, ◌==◌, min, true, false, cond, List, [], length, take, drop, Result, Ok, Err, refl, sym, ap, ◌∙◌, arith, append_assoc, append-nil, length-append, subst}
use Rattle.std.proofs.lemmas.List.{length-take-le, nil_from_length, take-append-drop, take_rest}
use Rattle.std.specs.Result.{result_unwrap_or}
use Rattle.std.specs.Io.{WritesAtMost}
use Rattle.mw_session.specs.StreamRecords.{ReadRecord, WriteRecord, with_read, with_write_fault, with_written, writes_after}
use Rattle.mw_session.specs.SessionParts.{Sent, Sending, Writes, counted}
use Rattle.mw_session.specs.declared.session.Ended.TheVariants.{WriteFault}

pub written_nothing : (w : WriteRecord) → w ≡ with_written w []
written_nothing w = ap (λ l. record { bytes = l; faults = w.faults }) (sym (append-nil w.bytes))

pub written_then : (a b c : WriteRecord) (s t : List ℕ) → b ≡ with_written a s → c ≡ with_written b t → c ≡ with_written a (s ++ t)
written_then a b c s t h k =
    k ∙ ap (λ (w : WriteRecord). with_written w t) h ∙ ap (λ l. record { bytes = l; faults = a.faults }) (append_assoc a.bytes s t)

pub read_nothing : (r : ReadRecord) → r ≡ with_read r []
read_nothing r = ap (λ l. record { bytes = l; ends = r.ends; faults = r.faults }) (sym (append-nil r.bytes))

pub read_then : (a b c : ReadRecord) (s t : List ℕ) → b ≡ with_read a s → c ≡ with_read b t → c ≡ with_read a (s ++ t)
read_then a b c s t h k =
    k ∙ ap (λ (r : ReadRecord). with_read r t) h ∙ ap (λ l. record { bytes = l; ends = a.ends; faults = a.faults }) (append_assoc a.bytes s t)

-- a write that took bytes appends them
pub write_takes : {E : Type 0} (a b : WriteRecord) (r : Result ℕ E) (text : List ℕ) → b ≡ writes_after a r text → (result_unwrap_or r 0 == 0) ≡ false → b ≡ with_written a (take (result_unwrap_or r 0) text)
write_takes a b (Ok n) text h some = h ∙ ap (λ test. cond test (with_write_fault a) (with_written a (take n text))) some
write_takes a b (Err e) text h some = absurd (cc some)

-- a write that took none is a fault
pub write_took_nothing : {E : Type 0} (a b : WriteRecord) (r : Result ℕ E) (text : List ℕ) → b ≡ writes_after a r text → (result_unwrap_or r 0 == 0) ≡ true → b ≡ with_write_fault a
write_took_nothing a b (Ok n) text h none = h ∙ ap (λ test. cond test (with_write_fault a) (with_written a (take n text))) none
write_took_nothing a b (Err e) text h none = h

pub write_fits : {E : Type 0} (r : Result ℕ E) (bytes : List ℕ) → WritesAtMost r bytes → result_unwrap_or r 0 ≤ length bytes
write_fits (Ok n) bytes h = h
write_fits (Err e) bytes h = omega arith

counted_then : (n : ℕ) (s t : List ℕ) → counted (counted n s) t ≡ counted n (s ++ t)
counted_then n s t = omega (arith, length-append s t)

pub sent_nothing : (a : WriteRecord) (n : ℕ) → Sent a a n n []
sent_nothing a n = record { wrote = written_nothing a; count = λ h. omega arith }

pub sent_then : (a b c : WriteRecord) (n m k : ℕ) (s t : List ℕ) → Sent a b n m s → Sent b c m k t → Sent a c n k (s ++ t)
sent_then a b c n m k s t h g = record {
  wrote = written_then a b c s t h.wrote g.wrote;
  count = λ small. let e = h.count small in g.count (omega arith) ∙ ap (λ x. counted x t) e ∙ counted_then n s t;
}

pub sending_starts : (a : WriteRecord) (n : ℕ) (text : List ℕ) → Sending a a n n text text
sending_starts a n text = record { sent = []; whole = refl; is_sent = sent_nothing a n }

-- one more write
pub sending_more : (a b c : WriteRecord) (n m k : ℕ) (text rest : List ℕ) (taken : ℕ) → Sending a b n m text rest → taken ≤ length rest
    → c ≡ with_written b (take taken rest) → k ≡ min (m + taken) (2 ^ 64 - 1) → Sending a c n k text (take (length rest - taken) (drop taken rest))
sending_more a b c n m k text rest taken h fits wrote count = record {
  sent = h.sent ++ take taken rest;
  whole = h.whole ∙ ap (λ l. h.sent ++ l) (sym (take-append-drop taken rest)) ∙ sym (append_assoc h.sent (take taken rest) (drop taken rest))
      ∙ ap (λ l. (h.sent ++ take taken rest) ++ l) (sym (take_rest rest taken));
  is_sent = sent_then a b c n m k h.sent (take taken rest) h.is_sent (record { wrote = wrote; count = λ small. omega (arith, length-take-le taken rest fits) });
}

-- nothing is left
pub sending_ends : (a b : WriteRecord) (n m : ℕ) (text : List ℕ) → Sending a b n m text [] → Sent a b n m text
sending_ends a b n m text h = subst (λ l. Sent a b n m l) (sym (h.whole ∙ append-nil h.sent)) h.is_sent

pub sending_done : (a b : WriteRecord) (n m : ℕ) (text rest : List ℕ) → Sending a b n m text rest → length rest ≡ 0 → Sent a b n m text
sending_done a b n m text rest h none = sending_ends a b n m text (subst (λ (l : List ℕ). Sending a b n m text l) (nil_from_length rest none) h)

-- the last write took nothing of what is left
pub sending_fails : (a b c : WriteRecord) (n m : ℕ) (text rest : List ℕ) → Sending a b n m text rest → 0 < length rest → c ≡ with_write_fault b → Writes a c n m text (Err (WriteFault m))
sending_fails a b c n m text rest h some fault = (b, fault, h.sent, rest, h.whole, some, refl, h.is_sent)
