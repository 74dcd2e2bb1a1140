-- Goals of `Shared::give_file` (src/new_table.rt).
use Rattle.std.proofs.Common.{ap, arith, length, map, refl, ◌∙◌}
use Rattle.atomic_table.specs.Table.{Me}
use Rattle.mw_actor.specs.ActorState.{ActorState}
use Rattle.mw_rule.specs.declared.views.View.{View}
use Rattle.mw_rule.proofs.SplitLaws.{giving_files_keeps}
use Rattle.mw_table.specs.HeldFiles.{is_idle, tenants_held}
use Rattle.mw_table.specs.Origins.{basis_of, begun_of}
use Rattle.mw_table.proofs.FilePassesAtStart.{file_given, files_left_live, files_next, more_opened, one_more_file_pass}
use Rattle.mw_table.proofs.shared.Shared.give_file.Goals as goal

pub split_seat-own-requires : goal.split_seat-own-requires
split_seat-own-requires c =
    let origin = c.args.self.now.table.shared.key in
    let long = c.args.self.now.long in
    let live = files_left_live (basis_of origin) c.args.tenants c.loop-tenant.tenant c.loop-tenant.seat.me c.loop-tenant.invariant.left in
    (c.loop-tenant.invariant.same_table, omega (arith, long), giving_files_keeps (basis_of origin).config (begun_of origin) _ _ live)

pub invariant_of-push : goal.invariant_of-push
invariant_of-push c =
    let is = file_given (basis_of c.args.self.now.table.shared.key) c.args.tenants c.loop-tenant.tenant c.loop-tenant.seat.me c.split_seat-own.result.me c.loop-tenant-test.true c.loop-tenant.invariant.left
    c.split_seat-own.ensures.4 in record {
      its = ap (λ (me : Me ActorState View). tenants_held me.0) is;
      idle = ap (λ (me : Me ActorState View). map is_idle me.0.files) is;
      no_token = ap (λ (me : Me ActorState View). length me.0.tokens) is;
      no_slots = ap (λ (me : Me ActorState View). length me.1) is;
      live = ap (λ (me : Me ActorState View). me.0.is_spent) is;
    }

pub loop-tenant-preserved : goal.loop-tenant-preserved
loop-tenant-preserved c =
    let basis = basis_of c.args.self.now.table.shared.key in
    let tenant = c.loop-tenant.tenant in
    let is = file_given basis c.args.tenants tenant c.loop-tenant.seat.me c.split_seat-own.result.me c.loop-tenant-test.true c.loop-tenant.invariant.left c.split_seat-own.ensures.4 in
    record {
      same_table = c.split_seat-own.ensures.0 ∙ c.loop-tenant.invariant.same_table;
      left = files_next basis c.args.tenants tenant c.loop-tenant.seat.me c.split_seat-own.new.seat.me c.loop-tenant-test.true c.loop-tenant.invariant.left c.split_seat-own.ensures.2;
      count = one_more_file_pass c.loop-tenant.file_passes.items c.push.new.self.items _ tenant c.in_ok-push.ensures.items c.loop-tenant.invariant.count;
      each =
          more_opened c.args.self.now basis c.loop-tenant.file_passes.items c.push.new.self.items _ tenant c.in_ok-push.ensures.items c.loop-tenant.invariant.count c.loop-tenant.invariant.each
          (record {
            own = record {
              table = c.split_seat-own.ensures.3 ∙ c.loop-tenant.invariant.same_table;
              config = ap (λ (me : Me ActorState View). me.0.config) is;
              openings = ap (λ (me : Me ActorState View). me.0.openings) is;
            };
            whose = refl;
            view = ap (λ (me : Me ActorState View). me.0) is;
          });
    }
