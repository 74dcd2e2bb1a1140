-- A fresh server of http1 reads a head: what it takes is the one head at the front of the bytes, and what it refuses is none.
-- Used by: hear.
use Rattle.std.proofs.Common.{◌≡◌, ℕ, ◌<◌, ◌≤◌, List, [], length, map, take, ap, subst, sym, ◌∙◌, arith, append-nil}
use Rattle.httparse.specs.Grammar.{RequestHead}
use Rattle.httparse.specs.Spans.{header_bytes, span_bytes}
use Rattle.httparse.specs.declared.spans.HeaderSpan.{HeaderSpan}
use Rattle.httparse.specs.declared.spans.RequestSpans.{RequestSpans}
use Rattle.httparse.proofs.GrammarLemmas.{request_unique}
use Rattle.http1.specs.declared.conn.Event.{Event}
use Rattle.http1.specs.declared.conn.Event.TheVariants.{Head}
use Rattle.http1.specs.declared.conn.Progress.{Progress}
use Rattle.http1.specs.declared.error.ReadError.{ReadError}
use Rattle.http1.specs.declared.framing.Framing.{Framing}
use Rattle.http1.specs.declared.server.Server.{Server}
use Rattle.http1.specs.Fields.{Header}
use Rattle.http1.specs.Message.{AcceptsRequest}
use Rattle.http1.specs.ReadError.{RequestError}
use Rattle.http1.specs.Server.{new_server, ServerReads, ServerRefuses, ReadsHead, TakesHead, HasNoHead}
use Rattle.mw_http.specs.declared.hearing.TheConstants.{MAX_HEAD, MAX_FIELDS}
use Rattle.mw_http.specs.Hearing.{limits, answer_from, answer_to}

-- the answer to the parts of the head that was read is that to any head that http1 accepts at the front of the bytes
pub whole_head : (names : List (List ℕ)) (server : Server) (bytes : List ℕ) (spans : List HeaderSpan) (next : Server) (read : Progress RequestSpans) (r : RequestSpans) →
    server ≡ new_server limits → ServerReads server bytes spans next read → read.event ≡ Head r →
    (h : RequestHead) (framing : Framing) (rest : List ℕ) → AcceptsRequest limits bytes h framing rest →
    answer_from names (span_bytes bytes r.method) (span_bytes bytes r.path) (map (header_bytes bytes) (take r.headers spans)) ≡ answer_to names h
whole_head names server bytes spans next read r is reads e h framing rest accepted =
    let fresh : ServerReads (new_server limits) bytes spans next read = subst (λ (s : Server). ServerReads s bytes spans next read) is reads in
    let taken : TakesHead (new_server limits) bytes spans next read.consumed r
    = subst (λ (ev : Event RequestSpans). ReadsHead (new_server limits) bytes spans next read.consumed ev) e fresh in
    let same : taken.head ≡ h = (request_unique bytes taken.head h _ _ taken.accepts.reads accepted.reads).0 in
    let fields = map (header_bytes bytes) (take r.headers spans) in
    ap (λ (m : List ℕ). answer_from names m (span_bytes bytes r.path) fields) taken.covered.method
    ∙ ap (λ (t : List ℕ). answer_from names taken.head.method t fields) taken.covered.path
    ∙ ap (λ (f : List Header). answer_from names taken.head.method taken.head.target f) taken.covered.fields
    ∙ ap (λ (k : RequestHead). answer_to names k) same

-- why a fresh server refuses some bytes
pub no_head : (server : Server) (bytes : List ℕ) (room : ℕ) (fault : ReadError) → server ≡ new_server limits → ServerRefuses server bytes room fault →
    HasNoHead limits bytes room × RequestError MAX_HEAD bytes room fault
no_head server bytes room fault is refuses = subst (λ (s : Server). ServerRefuses s bytes room fault) is refuses

-- no head with few fields is at the front of bytes that are refused
pub none_at_front : (bytes : List ℕ) → HasNoHead limits bytes MAX_FIELDS →
    (h : RequestHead) (framing : Framing) (rest : List ℕ) → AcceptsRequest limits bytes h framing rest → length h.fields ≤ MAX_FIELDS → ⊥
none_at_front bytes none h framing rest accepted few =
    let more : MAX_FIELDS < length h.fields
    = none [] h framing rest (subst (λ (b : List ℕ). AcceptsRequest limits b h framing rest) (sym (append-nil bytes)) accepted) in
    absurd (omega arith)
