-- Pieces of a text that were written one after the other are a beginning of the text. Used by: write_whole.
use Rattle.std.specs.Prelude.{ℕ, ◌≡◌, ◌≤◌, ◌-◌, ◌++◌, List, [], length, take, drop, Option, Some, None, Result, Ok, Err}
use Rattle.std.specs.Result.{result_unwrap_or}
use Rattle.std.specs.Io.{WritesAtMost}
use Rattle.std.specs.Io.KnownBytes.{Appends, Keeps, WriteAppends}
use Rattle.std.proofs.Common.{refl, sym, ap, subst, ◌∙◌, arith, append_assoc, append-nil}
use Rattle.std.proofs.lemmas.List.{take-append-drop, take_rest}
use Rattle.mwreplay.specs.declared.player.PlayFault.{PlayFault}
use Rattle.mwreplay.specs.declared.player.PlayFault.TheVariants.{NotEnabled, LastNumber, DidNotArrive, Memory, Output}
use Rattle.mwreplay.specs.PlayerSteps.{IsRest, Writes}

pub appends_nothing : (a : Option (List ℕ)) → Appends a a []
appends_nothing None = tt
appends_nothing (Some xs) = sym (append-nil xs)

pub appends_then : (a b c : Option (List ℕ)) (s t : List ℕ) → Appends a b s → Appends b c t → Appends a c (s ++ t)
appends_then None b c s t h k = tt
appends_then (Some xs) None c s t h k = absurd h
appends_then (Some xs) (Some ys) None s t h k = absurd k
appends_then (Some xs) (Some ys) (Some zs) s t h k = k ∙ ap (λ l. l ++ t) h ∙ append_assoc xs s t

pub keeps_appends : (a b : Option (List ℕ)) → Keeps a b → Appends a b []
keeps_appends None b h = tt
keeps_appends (Some xs) None h = absurd h
keeps_appends (Some xs) (Some ys) h = h ∙ sym (append-nil xs)

-- a write appends what it took; a write that failed took nothing
pub write_takes : {E : Type 0} (a b : Option (List ℕ)) (r : Result ℕ E) (bytes : List ℕ) → WriteAppends a b r bytes → Appends a b (take (result_unwrap_or r 0) bytes)
write_takes a b (Ok n) bytes h = h
write_takes a b (Err e) bytes h = keeps_appends a b h

pub write_fits : {E : Type 0} (r : Result ℕ E) (bytes : List ℕ) → WritesAtMost r bytes → result_unwrap_or r 0 ≤ length bytes
write_fits (Ok n) bytes h = h
write_fits (Err e) bytes h = omega arith

-- if nothing is left, that holds however the call ends
pub no_rest : (result : Result (Unit {0}) PlayFault) (rest : List ℕ) → rest ≡ [] → IsRest result rest
no_rest (Ok x) rest none = none
no_rest (Err NotEnabled) rest none = none
no_rest (Err LastNumber) rest none = none
no_rest (Err DidNotArrive) rest none = none
no_rest (Err Memory) rest none = none
no_rest (Err Output) rest none = tt

pub writes_nothing : (a : Option (List ℕ)) (result : Result (Unit {0}) PlayFault) → Writes a a [] result
writes_nothing a result = record { sent = []; rest = []; whole = refl; is_rest = no_rest result [] refl; wrote = appends_nothing a }

-- one text that was written to its end, and then another
pub writes_then : (a b c : Option (List ℕ)) (s t : List ℕ) (x : Unit {0}) (result : Result (Unit {0}) PlayFault) → Writes a b s (Ok x) → Writes b c t result → Writes a c (s ++ t) result
writes_then a b c s t x result first second = record {
  sent = first.sent ++ second.sent;
  rest = second.rest;
  whole = ap (λ l. l ++ t) (first.whole ∙ ap (λ l. first.sent ++ l) first.is_rest ∙ append-nil first.sent) ∙ ap (λ l. first.sent ++ l) second.whole
      ∙ sym (append_assoc first.sent second.sent second.rest);
  is_rest = second.is_rest;
  wrote = appends_then a b c first.sent second.sent first.wrote second.wrote;
}

-- so much of a text was sent, and this is left
pub record Sending (before now : Option (List ℕ)) (text rest : List ℕ) : Type 0 where
  pub sent : List ℕ
  pub whole : text ≡ sent ++ rest
  pub wrote : Appends before now sent

pub sending_starts : (a : Option (List ℕ)) (text : List ℕ) → Sending a a text text
sending_starts a text = record { sent = []; whole = refl; wrote = appends_nothing a }

-- one more write
pub sending_more : (a b c : Option (List ℕ)) (text rest : List ℕ) (taken : ℕ) → Sending a b text rest → Appends b c (take taken rest)
    → Sending a c text (take (length rest - taken) (drop taken rest))
sending_more a b c text rest taken so wrote = record {
  sent = so.sent ++ take taken rest;
  whole = so.whole ∙ ap (λ l. so.sent ++ l) (sym (take-append-drop taken rest)) ∙ sym (append_assoc so.sent (take taken rest) (drop taken rest))
      ∙ ap (λ l. (so.sent ++ take taken rest) ++ l) (sym (take_rest rest taken));
  wrote = appends_then a b c so.sent (take taken rest) so.wrote wrote;
}

-- nothing is left
pub sending_ends : (a b : Option (List ℕ)) (text : List ℕ) (x : Unit {0}) → Sending a b text [] → Writes a b text (Ok x)
sending_ends a b text x so = record { sent = so.sent; rest = []; whole = so.whole; is_rest = refl; wrote = so.wrote }

-- the writer takes nothing of what is left
pub sending_fails : (a b c : Option (List ℕ)) (text rest : List ℕ) → Sending a b text rest → Appends b c [] → Writes a c text (Err Output)
sending_fails a b c text rest so wrote = record {
  sent = so.sent;
  rest = rest;
  whole = so.whole;
  is_rest = tt;
  wrote = subst (λ l. Appends a c l) (append-nil so.sent) (appends_then a b c so.sent [] so.wrote wrote);
}
