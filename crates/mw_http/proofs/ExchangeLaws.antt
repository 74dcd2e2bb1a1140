-- What is written or read in several calls is recorded as the joined bytes. Used by: write_all.
use Rattle.std.proofs.Common.{◌≡◌, ℕ, ◌-◌, ◌<◌, ◌++◌, true, false, Bool, List, [], ◌∷◌, length, take, drop, refl, sym, ap, ◌∙◌, arith, append_assoc, append-nil, length-append}
use Rattle.std.proofs.lemmas.List.{take-append-drop, take_rest}
use Rattle.mw_session.proofs.WrittenTexts.{written_nothing, written_then}
use Rattle.mw_session.specs.StreamRecords.{WriteRecord, with_write_fault, with_written}
use Rattle.mw_http.specs.declared.exchanges.Exchanged.{Exchanged}
use Rattle.mw_http.specs.declared.exchanges.Exchanged.TheVariants as exchange
use Rattle.mw_http.specs.Exchanges.{Sends, Writes}

-- a first part of the text was written, and this rest was not yet
pub record Sending (before now : WriteRecord) (text rest : List ℕ) : Type 0 where
  pub sent : List ℕ
  pub whole : text ≡ sent ++ rest
  pub written : now ≡ with_written before sent

pub sending_starts : (w : WriteRecord) (text : List ℕ) → Sending w w text text
sending_starts w text = record { sent = []; whole = refl; written = written_nothing w }

-- one more write
pub sending_more : (a b c : WriteRecord) (text rest : List ℕ) (taken : ℕ) → Sending a b text rest
    → c ≡ with_written b (take taken rest) → Sending a c text (take (length rest - taken) (drop taken rest))
sending_more a b c text rest taken h wrote = record {
  sent = h.sent ++ take taken rest;
  whole = h.whole ∙ ap (λ l. h.sent ++ l) (sym (take-append-drop taken rest)) ∙ sym (append_assoc h.sent (take taken rest) (drop taken rest))
      ∙ ap (λ l. (h.sent ++ take taken rest) ++ l) (sym (take_rest rest taken));
  written = written_then a b c h.sent (take taken rest) h.written wrote;
}

-- nothing is left
pub sending_ends : (a b : WriteRecord) (text rest : List ℕ) → Sending a b text rest → length rest ≡ 0 → Writes a b text true
sending_ends a b text [] h none = h.written ∙ ap (λ l. with_written a l) (sym (append-nil h.sent) ∙ sym h.whole)
sending_ends a b text (x ∷ rest) h none = absurd (cc none)

-- a write failed
pub sending_breaks : (a b c : WriteRecord) (text rest : List ℕ) → Sending a b text rest → 0 < length rest → c ≡ with_write_fault b → Writes a c text false
sending_breaks a b c text rest h some fault = record {
  sent = h.sent;
  unsent = rest;
  whole = h.whole;
  some = some;
  written = fault ∙ ap (λ (w : WriteRecord). with_write_fault w) h.written;
}

-- one text was written, and then another one, or a part of it
pub writes_then : (a b c : WriteRecord) (s t : List ℕ) (whole : Bool) → Writes a b s true → Writes b c t whole → Writes a c (s ++ t) whole
writes_then a b c s t true h k = written_then a b c s t h k
writes_then a b c s t false h k = record {
  sent = s ++ k.sent;
  unsent = k.unsent;
  whole = ap (λ l. s ++ l) k.whole ∙ sym (append_assoc s k.sent k.unsent);
  some = k.some;
  written = k.written ∙ ap (λ (w : WriteRecord). with_write_fault w) (written_then a b (with_written b k.sent) s k.sent h refl);
}

-- a part of a text was written, and so a part of any that begins with it
pub breaks_early : (a b : WriteRecord) (s t : List ℕ) → Writes a b s false → Writes a b (s ++ t) false
breaks_early a b s t h = record {
  sent = h.sent;
  unsent = h.unsent ++ t;
  whole = ap (λ l. l ++ t) h.whole ∙ append_assoc h.sent h.unsent t;
  some = omega (arith, length-append h.unsent t, h.some);
  written = h.written;
}

-- the head was written, and then the body, or a part of it
pub sends_then : (a b c : WriteRecord) (s t : List ℕ) (ended : Exchanged) → Writes a b s true → Sends b c t ended → Sends a c (s ++ t) ended
sends_then a b c s t exchange.Answered h k = writes_then a b c s t true h k
sends_then a b c s t exchange.WriteFault h k = writes_then a b c s t false h k
sends_then a b c s t exchange.Unanswered h k = k
