-- The bytes and unsynced ranges that a disk in memory keeps at run time match the calls that its contracts remember.
-- Used by: put, note_torn, note_sync, note_quiet.
use Rattle.std.proofs.Common.{◌≡◌, ℕ, List, [], ◌∷◌, ◌++◌, refl, sym, ap, ◌∙◌, subst}
use Rattle.mw_disk.specs.Facts.{patched}
use Rattle.mw_memory_disk.specs.Memory.{State, only, padded, after, run}
use Rattle.mw_memory_disk.specs.Crash.{spans_after, IsLeftBy}
use Rattle.mw_memory_disk.specs.declared.spans.Span.{Span}
use Rattle.mw_memory_disk.specs.declared.event.Event.{Event}
use Rattle.mw_memory_disk.specs.declared.event.Call.{Call}
use Rattle.mw_memory_disk.specs.declared.event.Call.TheVariants.{Quiet, Wrote, Tore, Synced}
use Rattle.mw_memory_disk.specs.declared.history.History.{History}
use Rattle.mw_memory_disk.proofs.Remembered.{run_push}
use Rattle.mw_memory_disk.proofs.TornBytes.{spans_push}

-- the bytes that a read gives after this call
abbrev pub bytes_after : List ℕ → Call → List ℕ
bytes_after bytes (Quiet well) = bytes
bytes_after bytes (Wrote at block) = patched (padded bytes at) at block
bytes_after bytes (Tore at len) = bytes
bytes_after bytes Synced = bytes

after_bytes : (s : State) (call : Call) → (after s call).bytes ≡ bytes_after s.bytes call
after_bytes s (Quiet well) = refl
after_bytes s (Wrote at block) = refl
after_bytes s (Tore at len) = refl
after_bytes s Synced = refl

left_after : (first : List ℕ) (log : List Event) (e : Event) (bytes : List ℕ) (spans : List Span) → IsLeftBy first log bytes spans
    → IsLeftBy first (log ++ e ∷ []) (bytes_after bytes e.call) (spans_after spans e.call)
left_after first log e bytes spans left = record {
  seen = ap (λ (l : List ℕ). bytes_after l e.call) left.seen
      ∙ sym (ap (λ (s : State). s.bytes) (run_push (only first) log e) ∙ after_bytes (run (only first) log) e.call);
  written = ap (λ (l : List Span). spans_after l e.call) left.written ∙ sym (spans_push [] log e);
}

-- after this call the bytes and the ranges match the calls with it
pub goes_on : (old new : History) (missed : ℕ) (call : Call) (bytes next : List ℕ) (spans ranges : List Span)
    → new ≡ record { first = old.first; log = old.log ++ record { missed = missed; call = call } ∷ [] }
    → IsLeftBy old.first old.log bytes spans → next ≡ bytes_after bytes call → ranges ≡ spans_after spans call → IsLeftBy new.first new.log next ranges
goes_on old new missed call bytes next spans ranges is left seen written =
    subst (λ (h : History). IsLeftBy h.first h.log next ranges) (sym is)
    (subst (λ (l : List ℕ). IsLeftBy old.first (old.log ++ record { missed = missed; call = call } ∷ []) l ranges) (sym seen)
    (subst (λ (l : List Span). IsLeftBy old.first (old.log ++ record { missed = missed; call = call } ∷ []) (bytes_after bytes call) l) (sym written)
    (left_after old.first old.log (record { missed = missed; call = call }) bytes spans left)))
