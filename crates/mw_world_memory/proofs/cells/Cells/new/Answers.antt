-- Goals of `Cells::new` (src/cells/start.rt).
use Rattle.std.proofs.Common.{◌∙◌, ◌*◌, ap, length, map, replicate, subst}
use Rattle.mw_words.specs.declared.limits.TheConstants.{MAX_ENTRIES}
use Rattle.mw_world_memory.specs.Bits.{Bits}
use Rattle.mw_world_memory.specs.Openings.{AreFirstWords}
use Rattle.mw_world_memory.proofs.FirstBits.{StartsAs, start_has_places, start_is_tied}
use Rattle.mw_world_memory.proofs.cells.Cells.new.Goals as goal

-- the bits that were made
abbrev bits_of : goal.In_ok-new_values → Bits
bits_of c = record {
  doors = c.in_ok-doors.doors.items;
  gates = c.in_ok-gates.gates.items;
  rows = c.in_ok-rows.rows.items;
  words = map (λ tenant. tenant.items) c.in_ok-words.words.items;
  statuses = c.in_ok-statuses.statuses.items;
  counts = c.in_ok-counts.counts.items;
  addrs = c.in_ok-addrs.addrs.items;
  expecteds = c.in_ok-expecteds.expecteds.items;
  new_values = c.in_ok-new_values.new_values.items;
}

starts : (c : goal.In_ok-new_values) → StartsAs c.args.config.now c.args.openings.now (bits_of c)
starts c =
    let pool = c.from-pool.ensures in
    let words = map (λ tenant. tenant.items) c.in_ok-words.words.items in
    record {
      doors = c.in_ok-doors.ensures;
      gates = c.in_ok-gates.ensures ∙ (λ d. replicate (pool d) (c.pack.ensures d));
      rows = c.in_ok-rows.ensures ∙ ap (λ n. replicate n 0) c.from.ensures;
      words = subst (λ tenants. AreFirstWords tenants c.args.openings.now words (length tenants)) c.deref.ensures.0 c.in_ok-words.ensures;
      statuses = c.in_ok-statuses.ensures ∙ ap (λ n. replicate n 0) pool;
      counts = c.in_ok-counts.ensures ∙ ap (λ n. replicate n 0) pool;
      addrs = c.in_ok-addrs.ensures ∙ ap (λ n. replicate (n * MAX_ENTRIES) 0) pool;
      expecteds = c.in_ok-expecteds.ensures ∙ ap (λ n. replicate (n * MAX_ENTRIES) 0) pool;
      new_values = c.in_ok-new_values.ensures ∙ ap (λ n. replicate (n * MAX_ENTRIES) 0) pool;
    }

pub returns-clause-places : goal.returns-clause-places
returns-clause-places c = start_has_places c.args.config.now c.args.openings.now (bits_of c) c.requires.openings (starts c)

pub returns-clause-tie : goal.returns-clause-tie
returns-clause-tie c words is_up gave = start_is_tied c.args.config.now c.args.openings.now (bits_of c) words is_up c.requires.openings (starts c) gave
