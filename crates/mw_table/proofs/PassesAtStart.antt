-- A new table's passes are made one by one, one for each worker, and what each knows is right. Used by: Shared::deal.
use Rattle.std.specs.Prelude.{ℕ, zero, suc, ◌≡◌, ◌<◌, ◌+◌, ◌-◌, ◌==◌, List, [], ◌∷◌, ◌++◌, All, length, slice_get, Some}
use Rattle.std.proofs.Common.{sym, ap, subst, ◌∙◌, length-append, arith}
use Rattle.std.proofs.lemmas.List.Elements.{All-push}
use Rattle.atomic_table.specs.Table.{Me}
use Rattle.mw_actor.specs.ActorState.{ActorState}
use Rattle.mw_rule.specs.declared.views.View.{View}
use Rattle.mw_rule.specs.Steps.{IsReady, IsReadyFor}
use Rattle.mw_rule.specs.Splits.{dealt, knows, left_over, tokens_from}
use Rattle.mw_rule.specs.Rule.{Each, IsRight, words_given}
use Rattle.mw_rule.proofs.KnowledgeIsRight.{nothing_right}
use Rattle.mw_rule.proofs.Totals.{weight_few}
use Rattle.mw_table.specs.declared.new_table.PassState.{PassState}
use Rattle.mw_table.specs.declared.shared.Pass.{Pass}
use Rattle.mw_table.specs.declared.shared.Shared.{Shared}
use Rattle.mw_table.specs.Basis.{Basis}
use Rattle.mw_table.specs.NewPasses.{AreInOrder, IsPassState, IsDealt, left_of, view_of}
use Rattle.mw_table.specs.Numbers.{numbers}
use Rattle.mw_table.specs.Origins.{basis_of}

-- what is left from a worker on
abbrev pub left_at : Basis → ℕ → Me ActorState View
left_at basis worker = (knows basis.config basis.openings (Some basis.known_run) (tokens_from basis.worker_states worker (basis.config.workers - worker)) basis.files, [])

one_less : (n w : ℕ) → w < n → n - w ≡ suc (n - (w + 1))
one_less n w low = omega arith

-- what is left after one more, and what is given
pub left_next : (basis : Basis) (worker : ℕ) (old new : Me ActorState View) → worker < basis.config.workers → old ≡ left_at basis worker → new ≡ (left_over old.0, old.1) → new ≡ left_at basis (worker + 1)
left_next basis worker old new low left is =
    is ∙ (ap (λ (me : Me ActorState View). (left_over me.0, me.1)) left
    ∙ ap (λ (k : ℕ). (left_over (knows basis.config basis.openings (Some basis.known_run) (tokens_from basis.worker_states worker k) basis.files), [])) (one_less basis.config.workers worker low))

pub dealt_view : (basis : Basis) (worker : ℕ) (old new : Me ActorState View) → worker < basis.config.workers → old ≡ left_at basis worker → new ≡ (dealt old.0, []) → new.0 ≡ view_of basis worker
dealt_view basis worker old new low left is =
    ap (λ (me : Me ActorState View). me.0) is
    ∙ (ap (λ (me : Me ActorState View). dealt me.0) left
    ∙ ap (λ (k : ℕ). dealt (knows basis.config basis.openings (Some basis.known_run) (tokens_from basis.worker_states worker k) basis.files)) (one_less basis.config.workers worker low))

-- what is left after all are given
pub left_last : (basis : Basis) (worker : ℕ) (me : Me ActorState View) → worker ≡ basis.config.workers → me ≡ left_at basis worker → me ≡ (left_of basis, [])
left_last basis worker me last left =
    let none : basis.config.workers - worker ≡ 0 = omega (arith, last) in
    left ∙ ap (λ (k : ℕ). (knows basis.config basis.openings (Some basis.known_run) (tokens_from basis.worker_states worker k) basis.files, [])) none

-- the numbers of a new pass
pub dealt_numbers : (basis : Basis) (worker : ℕ) (view : View) (pass_state : PassState) → view ≡ view_of basis worker → IsPassState (basis.worker_states worker) pass_state → numbers view ≡ (worker, pass_state.attempt) ∷ []
dealt_numbers basis worker view pass_state is tells = ap numbers is ∙ ap (λ (n : ℕ). (worker, n) ∷ []) (sym tells.attempt)

-- what a new pass knows is right
dealt_right : (basis : Basis) (worker : ℕ) (view : View) → view ≡ view_of basis worker → IsRight view
dealt_right basis worker view is =
    subst IsRight (sym is) (record {
      changes = λ tenant among. nothing_right (words_given (view_of basis worker) tenant);
      mine = tt;
      once = λ tenant request. omega arith;
      own = tt;
      alone = λ other. let few = weight_few (worker == other) in omega (arith, few);
    })

-- a new pass
pub pass_dealt : (shared : Shared) (pass : Pass) (pass_state : PassState) → let basis = basis_of shared.table.shared.key in
    pass.seat.table_id ≡ shared.table.shared.table_id → pass.worker < basis.config.workers → pass.seat.me.0 ≡ view_of basis pass.worker → pass.idle ≡ pass_state.idle
    → IsPassState (basis.worker_states pass.worker) pass_state → IsReadyFor basis.config (basis.worker_states pass.worker).actor → IsDealt shared basis pass
pass_dealt shared pass pass_state table low is same tells ready =
    let basis = basis_of shared.table.shared.key in record {
      own = record { table = table; config = ap (λ (view : View). view.config) is; openings = ap (λ (view : View). view.openings) is };
      there = low;
      view = is;
      idle = same ∙ tells.idle;
      right = dealt_right basis pass.worker pass.seat.me.0 is;
      ready = subst (λ (view : View). Each (IsReady basis.config) view.tokens) (sym is) (ready, tt);
    }

-- with one more
pub more_dealt : (shared : Shared) (basis : Basis) (old new : List Pass) (pass : Pass) → new ≡ old ++ pass ∷ [] → All (IsDealt shared basis) old → IsDealt shared basis pass → All (IsDealt shared basis) new
more_dealt shared basis old new pass is all one = subst (λ (passes : List Pass). All (IsDealt shared basis) passes) (sym is) (All-push (IsDealt shared basis) old pass all one)

pub one_more : (old new : List Pass) (pass : Pass) (count : ℕ) → new ≡ old ++ pass ∷ [] → length old ≡ count → length new ≡ count + 1
one_more old new pass count is many = omega (arith, ap length is, length-append old (pass ∷ []), many)

some_pass : (one other : Pass) → Some one ≡ Some other → one ≡ other
some_pass one other is = cc

-- the worker of each pass is its index added to a first one
abbrev AreFrom : (ℕ → ℕ) → List Pass → Type 0
AreFrom worker_of passes = (index : ℕ) (pass : Pass) → slice_get passes index ≡ Some pass → pass.worker ≡ worker_of index

from_more : (worker_of : ℕ → ℕ) (old : List Pass) (pass : Pass) → AreFrom worker_of old → pass.worker ≡ worker_of (length old) → AreFrom worker_of (old ++ pass ∷ [])
from_more worker_of [] pass all own zero found is = ap (λ (one : Pass). one.worker) (sym (some_pass pass found is)) ∙ own
from_more worker_of [] pass all own (suc index) found is = absurd (cc)
from_more worker_of (one ∷ rest) pass all own zero found is = all zero found is
from_more worker_of (one ∷ rest) pass all own (suc index) found is = from_more (λ k. worker_of (suc k)) rest pass (λ k. all (suc k)) own index found is

pub more_in_order : (old new : List Pass) (pass : Pass) (count : ℕ) → new ≡ old ++ pass ∷ [] → length old ≡ count → AreInOrder old → pass.worker ≡ count → AreInOrder new
more_in_order old new pass count is many all own = subst AreInOrder (sym is) (from_more (λ k. k) old pass all (own ∙ sym many))
