-- An engine that begins with the files which a start opened keeps what mwserve promises.
-- Used by: engines_keep_the_promise, and the answers of main.rt.
use Rattle.std.specs.Prelude.{ℕ, Bool, List}
use Rattle.std.proofs.Common.{inl, inr}
use Rattle.mw_programs.specs.FromBelow.{DeviceCall, Facts, FileFault}
use Rattle.mw_programs.specs.Promised.{AreShown, PromisesOfStart}
use Rattle.mw_law_threads.proofs.AfterReplyLaws.{served_by_loan, served_by_pass}
use Rattle.mwserve.specs.Promised.{IsServed}

pub engine_keeps : {D : Type 0} (facts : D → Facts) (makes : DeviceCall → Bool → D → D → Type 0) (is_over : List ℕ → D → Type 0) (is_refused : List ℕ → FileFault → Type 0) (is_text : List ℕ → List ℕ → Type 0)
    → (words : List (List ℕ)) → PromisesOfStart facts makes is_over is_refused is_text words (IsServed facts makes is_over is_refused is_text) (AreShown facts makes is_over is_refused is_text)
engine_keeps facts makes is_over is_refused is_text words identity start = record {
  workers = λ calls by. record { words = words; start = start; served = inl (served_by_pass facts identity calls by) };
  borrowers = λ calls by. record { words = words; start = start; served = inr (served_by_loan facts identity calls by) };
  pages = λ old new calls own goes. record { words = words; start = start; old = old; new = new; own = own; answered = goes };
}
