-- What one more read of a head came to. Used by: receive_more.
use Rattle.std.proofs.Common.{◌≡◌, ℕ, ◌+◌, ◌==◌, ◌<◌, cond, false, List, length, Result, Ok, sym, ap, ◌∙◌, subst, arith, rules, tests, length-append}
use Rattle.mw_session.specs.StreamRecords.{ReadRecord, with_end, with_read}
use Rattle.mw_session.proofs.WrittenTexts.{read_then}
use Rattle.mw_http.specs.declared.hearing.Heard.{Heard}
use Rattle.mw_http.specs.declared.hearing.Heard.TheVariants.{More, Asked, Refused}
use Rattle.mw_http.specs.declared.receiving.Came.TheVariants.{Ended}
use Rattle.mw_http.specs.Hearing.{Hears, NeedMore}
use Rattle.mw_http.specs.Exchanges.{ComesTo, IsReceived, TakesBytes, TakesPiece, came_of}

-- the stream was found at its end
pub at_end : {E : Type 0} (names : List (List ℕ)) (reads now new : ReadRecord) (before after : List ℕ) (r : Result ℕ E) (count : ℕ)
    → TakesPiece now new before after r → r ≡ Ok count → count ≡ 0 → now ≡ with_read reads before → NeedMore before → IsReceived names reads new Ended
at_end {E} names reads now new before after r count takes is none so need =
    let took : TakesPiece {E = E} now new before after (Ok 0)
    = subst (λ (k : ℕ). TakesPiece {E = E} now new before after (Ok k)) none (subst (λ (q : Result ℕ E). TakesPiece now new before after q) is takes) in
    record { bytes = before; holds = (took.read ∙ ap with_end so, need) }

heard_more : (names : List (List ℕ)) (reads new : ReadRecord) (before after : List ℕ) (heard : Heard)
    → length before < length after → new ≡ with_read reads after → Hears names after heard → ComesTo names reads new before after (came_of heard)
heard_more names reads new before after More grows read hears = (grows, read, hears)
heard_more names reads new before after (Asked request) grows read hears = record { bytes = after; holds = (read, hears) }
heard_more names reads new before after (Refused status) grows read hears = record { bytes = after; holds = (read, hears) }

is_some : (count : ℕ) → (count ≡ 0 → ⊥) → (count == 0) ≡ false
is_some count some = search (rules, tests)

-- some bytes were read, and this was heard
pub some_read : (names : List (List ℕ)) (reads now new : ReadRecord) (before after : List ℕ) (count : ℕ) (heard : Heard)
    → TakesBytes now new before after count → (count ≡ 0 → ⊥) → now ≡ with_read reads before → Hears names after heard
    → ComesTo names reads new before after (came_of heard)
some_read names reads now new before after count heard took some so hears =
    let read : new ≡ with_read now took.bytes = took.read ∙ ap (λ none. cond none (with_end now) (with_read now took.bytes)) (is_some count some) in
    let long : length after ≡ length before + count = ap length took.put ∙ length-append before took.bytes ∙ ap (λ (k : ℕ). length before + k) took.number in
    heard_more names reads new before after heard (omega (arith, long, some))
    (read_then reads now new before took.bytes so read ∙ ap (λ (all : List ℕ). with_read reads all) (sym took.put)) hears
