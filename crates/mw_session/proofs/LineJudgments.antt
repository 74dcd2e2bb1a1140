-- What the reader, the feed and `read_line` answer gives the facts that a session's contracts need.
-- Used by: step_at, next_step, Session::answer, Session::answer_all, Session::run.
use Rattle.std.proofs.Common.{◌≡◌, ◌==◌, ℕ, zero, suc, true, false, ◌<◌, length, cond, List, [], ◌∷◌, take, Option, None, Result, Ok, Err, OnOk, slice_get, refl, sym, ap, ◌∙◌, arith, subst}
use Rattle.std.specs.Result.{is_err}
use Rattle.mw_session.specs.StreamRecords.{ReadRecord, WriteRecord, reads_after, with_end, with_read, with_read_fault}
use Rattle.arrayvec.specs.ArrayVec.{ArrayVec}
use Rattle.mw_line.specs.declared.requests.LineFault.{LineFault}
use Rattle.mw_line.specs.declared.requests.Request.{Request}
use Rattle.mw_frame.specs.declared.lines.Line.{Line}
use Rattle.mw_frame.specs.declared.lines.Line.TheVariants.{Text}
use Rattle.mw_frame.specs.Stream.{Stream, behind, lines_of}
use Rattle.mw_session.specs.declared.steps.Bound.{Bound}
use Rattle.mw_session.specs.declared.steps.Step.{Step}
use Rattle.mw_session.specs.declared.session.Ended.{Ended}
use Rattle.mw_session.specs.declared.session.Ended.TheVariants.{PeerEnd, ReadFault, Memory}
use Rattle.mw_session.specs.Talk.{Call, Said, step_at}
use Rattle.mw_session.specs.Lines.{Hears, Says}
use Rattle.mw_session.specs.StepOfLine.{Judges}
use Rattle.mw_session.specs.SessionParts.{On, Sent, Talked, Turned, Writes}

pub judged : (bound : Bound) (line : Line) (text : ArrayVec ℕ) (bytes : List ℕ) (said : Result Request LineFault) (step : Step) → line ≡ Text text → bytes ≡ text.items → Says bytes said
    → step ≡ step_at bound (Said said) → Judges bound line step
judged bound line text bytes said step is same says e = record {
  heard = Said said;
  hears = subst (λ l. Hears l (Said said)) (sym is) (subst (λ b. Says b said) same says);
  step = e;
}

module _ (a b : WriteRecord) (n m : ℕ) where
  pub wrote_all : (text : List ℕ) (r : Result (Unit {0}) Ended) → is_err r ≡ false → Writes a b n m text r → Sent a b n m text
  wrote_all text (Ok x) h w = w
  wrote_all text (Err e) h w = absurd (cc h)

  pub turned_ok : (Asked : List Call → Type 0) (ls : List Line) (bound new : Bound) (r : Result (Unit {0}) Ended) → is_err r ≡ false → Turned a b Asked n m ls bound new r
      → Talked a b Asked n m ls bound (On new) []
  turned_ok Asked ls bound new (Ok x) h t = t
  turned_ok Asked ls bound new (Err e) h t = absurd (cc h)

-- an error owes nothing of what is promised of Ok
pub not_ok : {T E : Type 0} (r : Result T E) (P : Type 0) → is_err r ≡ true → OnOk r P
not_ok (Ok x) P failed = absurd (cc failed)
not_ok (Err e) P failed = tt

-- a session that ends for memory or a read that failed found no end of the stream
pub no_end_of_memory : {P : Type 0} → Memory ≡ PeerEnd → P
no_end_of_memory is = absurd (cc is)

pub no_end_of_fault : {P : Type 0} → ReadFault ≡ PeerEnd → P
no_end_of_fault is = absurd (cc is)

-- the end of the stream is found by a read, and not in the lines
pub no_peer_end : (a b : WriteRecord) (n m : ℕ) (Asked : List Call → Type 0) (ls : List Line) (bound new : Bound) (ended : Ended) → ended ≡ PeerEnd → Turned a b Asked n m ls bound new (Err ended) → ⊥
no_peer_end a b n m Asked ls bound new ended is t = subst (λ e. Turned a b Asked n m ls bound new (Err e)) is t

no_first : (ls : List Line) → None ≡ slice_get ls 0 → ls ≡ []
no_first [] h = refl
no_first (l ∷ ls) h = absurd (cc h)

pub none_left : (old new : Stream) (r : Option Line) → r ≡ None → r ≡ slice_get (lines_of old) 0 → new ≡ behind r old → lines_of new ≡ []
none_left old new r is first left =
    ap lines_of (left ∙ ap (λ x. behind x old) is) ∙ no_first (lines_of old) (sym is ∙ first)

pub read_some : {E : Type 0} (a b : ReadRecord) (r : Result ℕ E) (n : ℕ) (buf : List ℕ) → r ≡ Ok n → (n == 0) ≡ false → b ≡ reads_after a r buf → b ≡ with_read a (take n buf)
read_some {E} a b r n buf is some h =
    h ∙ ap (λ (x : Result ℕ E). reads_after a x buf) is ∙ ap (λ test. cond test (with_end a) (with_read a (take n buf))) some

pub some_read : (n : ℕ) (buf : List ℕ) → n ≡ length (take n buf) → (n == 0) ≡ false → 0 < length (take n buf)
some_read zero buf whole some = absurd (cc some)
some_read (suc n) buf whole some = omega (arith, whole)

pub read_end : {E : Type 0} (a b : ReadRecord) (r : Result ℕ E) (n : ℕ) (buf : List ℕ) → r ≡ Ok n → n ≡ 0 → b ≡ reads_after a r buf → b ≡ with_end a
read_end {E} a b r n buf is none h =
    h ∙ ap (λ (x : Result ℕ E). reads_after a x buf) is ∙ ap (λ i. cond (i == 0) (with_end a) (with_read a (take i buf))) none

pub read_failed : {E : Type 0} (a b : ReadRecord) (r : Result ℕ E) (e : E) (buf : List ℕ) → r ≡ Err e → b ≡ reads_after a r buf → b ≡ with_read_fault a
read_failed {E} a b r e buf is h = h ∙ ap (λ (x : Result ℕ E). reads_after a x buf) is

pub on_ok : {E : Type 0} (r : Result (Unit {0}) E) (s t : Stream) → is_err r ≡ false → OnOk r (s ≡ t) → s ≡ t
on_ok (Ok x) s t h k = k
on_ok (Err e) s t h k = absurd (cc h)
