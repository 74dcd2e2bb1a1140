-- Goals of `Shared::deal` (src/new_table.rt).
use Rattle.std.proofs.Common.{ℕ, ◌<◌, ◌∙◌, sym, subst, refl, arith, slice_index_or, false}
use Rattle.mw_table.specs.NewPasses.{IsPassState}
use Rattle.mw_table.specs.Origins.{basis_of, begun_of}
use Rattle.mw_rule.proofs.SplitLaws.{deals_keep}
use Rattle.mw_table.proofs.IdlePasses.{rests_first}
use Rattle.mw_table.proofs.PassesAtStart.{dealt_numbers, dealt_view, left_next, more_dealt, more_in_order, one_more, pass_dealt}
use Rattle.mw_table.proofs.shared.Shared.deal.Goals as goal

pub split_seat-own-requires : goal.split_seat-own-requires
split_seat-own-requires c =
    let origin = c.args.self.now.table.shared.key in
    let long = c.args.self.now.long in (c.loop-worker.invariant.same_table, omega (arith, long), deals_keep (basis_of origin).config (begun_of origin) _ _)

pub invariant_of-push : goal.invariant_of-push
invariant_of-push c =
    let basis = basis_of c.args.self.now.table.shared.key in
    let worker = c.loop-worker.worker in
    let low : worker < basis.config.workers = omega (arith, c.loop-worker-test.true, c.requires.workers) in
    let pass_state = slice_index_or c.args.pass_states.now c.from.result (record { attempt = 0; idle = false }) in
    let tells : IsPassState (basis.worker_states worker) pass_state =
    subst (λ (k : ℕ). IsPassState (basis.worker_states worker) (slice_index_or c.args.pass_states.now k (record { attempt = 0; idle = false }))) (sym c.from.ensures)
    (c.requires.pass_states.each worker (record { attempt = 0; idle = false }) c.loop-worker-test.true) in
    let view = dealt_view basis worker c.loop-worker.seat.me c.split_seat-own.result.me low c.loop-worker.invariant.left c.split_seat-own.ensures.4 in
    record { numbered = dealt_numbers basis worker c.split_seat-own.result.me.0 pass_state view tells; rests = λ idle. rests_first basis worker c.split_seat-own.result.me.0 view (sym tells.idle ∙ idle) }

pub loop-worker-preserved : goal.loop-worker-preserved
loop-worker-preserved c =
    let basis = basis_of c.args.self.now.table.shared.key in
    let worker = c.loop-worker.worker in
    let low : worker < basis.config.workers = omega (arith, c.loop-worker-test.true, c.requires.workers) in
    let pass_state = slice_index_or c.args.pass_states.now c.from.result (record { attempt = 0; idle = false }) in
    let tells : IsPassState (basis.worker_states worker) pass_state =
    subst (λ (k : ℕ). IsPassState (basis.worker_states worker) (slice_index_or c.args.pass_states.now k (record { attempt = 0; idle = false }))) (sym c.from.ensures)
    (c.requires.pass_states.each worker (record { attempt = 0; idle = false }) c.loop-worker-test.true) in
    let view = dealt_view basis worker c.loop-worker.seat.me c.split_seat-own.result.me low c.loop-worker.invariant.left c.split_seat-own.ensures.4 in
    record {
      same_table = c.split_seat-own.ensures.0 ∙ c.loop-worker.invariant.same_table;
      left = left_next basis worker c.loop-worker.seat.me c.split_seat-own.new.seat.me low c.loop-worker.invariant.left c.split_seat-own.ensures.2;
      count = one_more c.loop-worker.passes.items c.push.new.self.items _ worker c.in_ok-push.ensures.items c.loop-worker.invariant.count;
      dealt =
          more_dealt c.args.self.now basis c.loop-worker.passes.items c.push.new.self.items _ c.in_ok-push.ensures.items c.loop-worker.invariant.dealt
          (pass_dealt c.args.self.now _ pass_state (c.split_seat-own.ensures.3 ∙ c.loop-worker.invariant.same_table) low view refl tells (c.requires.ready worker c.loop-worker-test.true));
      order = more_in_order c.loop-worker.passes.items c.push.new.self.items _ worker c.in_ok-push.ensures.items c.loop-worker.invariant.count c.loop-worker.invariant.order refl;
    }
