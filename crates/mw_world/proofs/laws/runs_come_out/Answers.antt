-- Proves the law `runs_come_out`.
use Rattle.std.proofs.Common.{refl}
use Rattle.mw_world.proofs.laws.runs_come_out.Goals as goal

pub returns : goal.returns
returns c = record {
  refused = record { busy_worker = refl; step_of_a_call = refl; third_device_call = refl; no_reply = refl; too_many_made = refl; idle_worker = refl; short_opening = refl; other_words = refl; unsealed_words = refl; lost_seal = refl; no_device_call = refl; no_opening_call = refl; forgotten_tenant = refl; no_quota = refl; above_places = refl; above_pool = refl; above_pool_together = refl; no_such_word = refl; no_such_tenant = refl; no_such_worker = refl };
  taken = record { same_quota = refl; twice = refl; twice_of_old = refl; greatest = refl };
  half_way_words = (refl, refl);
  half_way_values = (refl, refl);
  one_change_word = refl;
  one_change_marks = refl;
  one_change_replies = refl;
  late_finisher_replies = refl;
  late_finisher_marks = refl;
  stale_refusal_replies = refl;
  stale_refusal_marks = refl;
  failed_seal_found = refl;
  failed_seal_gone = refl;
  failed_seal_marks = refl;
  failed_seal_neighbour = refl;
  failed_prepare_replies = refl;
  failed_prepare_marks = refl;
  failed_settle_replies = refl;
  failed_settle_marks = refl;
  worn_replies = refl;
  torn_gate_open = refl;
  torn_gate_shut = refl;
  torn_gate_marks = refl;
  failed_opening_replies = refl;
  used_up_replies = refl;
  used_up_neighbour = refl;
  stale_reference_replies = refl;
  stale_reference_neighbour = refl;
  quota_at_start_replies = refl;
  quota_at_start_marks = refl;
  quota_lowered_replies = refl;
  quota_of_failed_start_marks = refl;
  same_quota_replies = refl;
}
