-- What a request knows while it reads the entries of another request's change, to help it. Used by: ByPoint.
use Rattle.std.specs.Prelude.{ℕ, ◌≡◌, ◌<◌, ◌+◌, ◌&&◌, ◌++◌, Bool, true, false, cond, nat_lt, nat_le, List, [], ◌∷◌, length}
use Rattle.std.proofs.Common.{refl, sym, ap, subst, ◌∙◌, arith, length-append}
use Rattle.std.proofs.lemmas.Bool.Decides.{nat_tests}
use Rattle.mw_words.specs.declared.jobs.Entry.{Entry}
use Rattle.mw_words.specs.declared.limits.TheConstants.{MAX_ENTRIES, MAX_VALUE, MAX_WORDS}
use Rattle.mw_look.proofs.RangeLaws.{either_way}
use Rattle.mw_actor.specs.declared.points.Point.TheVariants.{ReadTargetStatus, ReadCount, ReadAddr, ReadExpected, ReadNew}
use Rattle.mw_actor.specs.declared.points.Task.{Task}
use Rattle.mw_actor.specs.ActorState.{ActorState, own_entries, entry_at, is_alone}
use Rattle.mw_actor.specs.Help.{count_read, addr_read, expected_read, next_read, new_read}
use Rattle.mw_world.specs.declared.config.Config.{Config}
use Rattle.mw_world.specs.Definition.State.{State}
use Rattle.mw_law_runs.specs.Moves.Guards.{IsLive}
use Rattle.mw_law_runs.specs.Moves.Memory.{Memory}
use Rattle.mw_law_runs.specs.Knowledge.Facts.{IsAtWork, WorksOn, AreFirstOf, HasRead, next_of_others}
use Rattle.mw_law_runs.specs.Knowledge.Points.{Knows, without_point}
use Rattle.mw_law_runs.proofs.Knowledge.Reads.Memory.{count_told, entry_told, has_entry}

-- a prefix with the next entry added is a prefix
first_and_next : (ones entries : List Entry) → AreFirstOf ones entries → length ones < length entries → AreFirstOf (ones ++ entry_at entries (length ones) ∷ []) entries
first_and_next [] [] first shorter = absurd (omega (arith, shorter))
first_and_next [] (entry ∷ entries) first shorter = (refl, tt)
first_and_next (one ∷ ones) [] first shorter = absurd first
first_and_next (one ∷ ones) (entry ∷ entries) first shorter = (first.0, first_and_next ones entries first.1 (omega (arith, shorter)))

-- a prefix with as many entries is the whole
all_of_them : (ones entries : List Entry) → AreFirstOf ones entries → length ones ≡ length entries → ones ≡ entries
all_of_them [] [] first as_many = refl
all_of_them [] (entry ∷ entries) first as_many = absurd (omega (arith, as_many))
all_of_them (one ∷ ones) [] first as_many = absurd first
all_of_them (one ∷ ones) (entry ∷ entries) first as_many =
    ap (λ (head : Entry). head ∷ ones) first.0 ∙ ap (λ (tail : List Entry). entry ∷ tail) (all_of_them ones entries first.1 (omega (arith, as_many)))

-- the entry that was read
abbrev read_entry : ℕ → ℕ → ℕ → Entry
read_entry addr expected new = record { addr = addr; expected = expected; new = new }

same_entry : (addr expected new : ℕ) (entry : Entry) → addr ≡ entry.addr → expected ≡ entry.expected → new ≡ entry.new → read_entry addr expected new ≡ entry
same_entry addr expected new entry one two three =
    ap (λ (n : ℕ). read_entry n expected new) one ∙ ap (λ (n : ℕ). read_entry entry.addr n new) two ∙ ap (λ (n : ℕ). read_entry entry.addr entry.expected n) three

module _ (state : State) (actor : ActorState) (others : List Entry) where
  -- what a request works on doesn't depend on what it has read
  pub at_work_still : (task : Task) → IsAtWork state (without_point actor) task → IsAtWork state (without_point (record actor { others = others })) task
  at_work_still task at = record {
    own = record {
      own = record {
        is_claimed = at.own.own.is_claimed;
        same_tenant = at.own.own.same_tenant;
        same_worker = at.own.own.same_worker;
        same_entries = at.own.own.same_entries;
        stays_not = at.own.own.stays_not;
      };
      ready = at.own.ready;
    };
    target = at.target;
  }

  has_read : (task : Task) (count : ℕ) → IsAtWork state (without_point actor) task → is_alone task ≡ false → count ≡ length (state.history.change task.target.slot task.target.seq)
      → length others < count → AreFirstOf others (state.history.change task.target.slot task.target.seq) → HasRead state (without_point (record actor { others = others })) task count
  has_read task count at not_alone all shorter first = record { at_work = at_work_still task at; not_alone = not_alone; all = all; shorter = shorter; first = first }

module _ (config : Config) (state : State) (memory : Memory config state) (actor : ActorState) (task : Task) (live : IsLive state task.target) where
  pub count_knows : (count : ℕ) → IsAtWork state (without_point actor) task → is_alone task ≡ false → state.cells.counts task.target.slot ≡ count
      → Knows state (record actor { others = [] }) (count_read task count)
  count_knows count at not_alone is =
      either_way (Knows state (record actor { others = [] })) (nat_le 1 count && nat_le count MAX_ENTRIES) (ReadAddr task count) (ReadCount task)
      (λ low. has_read state actor [] task count at not_alone all (omega (arith, all, has_entry config state memory actor.tenant task.target at.target)) tt)
      (λ high. (at_work_still state actor [] task at, not_alone))
    where
      all : count ≡ length (state.history.change task.target.slot task.target.seq)
      all = sym is ∙ count_told config state memory actor.tenant task.target live at.target

  module _ (count : ℕ) (has : HasRead state (without_point actor) task count) where
    within : length actor.others < length (state.history.change task.target.slot task.target.seq)
    within = omega (arith, has.shorter, has.all)

    pub addr_knows : (addr : ℕ) → state.cells.addrs task.target.slot (length actor.others) ≡ addr → Knows state actor (addr_read task count addr)
    addr_knows addr is =
        either_way (Knows state actor) (nat_lt addr MAX_WORDS) (ReadExpected task count addr) (ReadAddr task count)
        (λ low. (has, sym is ∙ (entry_told config state memory actor.tenant task.target live has.at_work.target (length actor.others) within).addr)) (λ high. has)

    pub expected_knows : (addr expected : ℕ) → addr ≡ (next_of_others state (without_point actor) task).addr → state.cells.expecteds task.target.slot (length actor.others) ≡ expected
        → Knows state actor (expected_read task count addr expected)
    expected_knows addr expected first is =
        either_way (Knows state actor) (nat_le expected MAX_VALUE) (ReadNew task count addr expected) (ReadExpected task count addr)
        (λ low. (has, first, sym is ∙ (entry_told config state memory actor.tenant task.target live has.at_work.target (length actor.others) within).expected)) (λ high. (has, first))

    pub new_knows : (addr expected new : ℕ) → addr ≡ (next_of_others state (without_point actor) task).addr → expected ≡ (next_of_others state (without_point actor) task).expected
        → state.cells.new_values task.target.slot (length actor.others) ≡ new
        → Knows state (record actor { others = cond (nat_le new MAX_VALUE) (actor.others ++ read_entry addr expected new ∷ []) actor.others }) (new_read actor task count addr expected new)
    new_knows addr expected new first second is = by_test (nat_le new MAX_VALUE)
      where
        more : List Entry
        more = actor.others ++ read_entry addr expected new ∷ []

        third : new ≡ (next_of_others state (without_point actor) task).new
        third = sym is ∙ (entry_told config state memory actor.tenant task.target live has.at_work.target (length actor.others) within).new

        longer : length more ≡ length actor.others + 1
        longer = length-append actor.others (read_entry addr expected new ∷ [])

        first_ones : AreFirstOf more (state.history.change task.target.slot task.target.seq)
        first_ones =
            subst (λ (entry : Entry). AreFirstOf (actor.others ++ entry ∷ []) (state.history.change task.target.slot task.target.seq))
            (sym (same_entry addr expected new (next_of_others state (without_point actor) task) first second third))
            (first_and_next actor.others (state.history.change task.target.slot task.target.seq) has.first within)

        read_all : nat_lt (length actor.others + 1) count ≡ false → WorksOn state (without_point (record actor { others = more })) task
        read_all last = record {
          at_work = at_work_still state actor more task has.at_work;
          entries = ap (λ (b : Bool). cond b (own_entries actor) more) has.not_alone
              ∙ all_of_them more (state.history.change task.target.slot task.target.seq) first_ones (as_many last);
        }
          where
            as_many : nat_lt (length actor.others + 1) count ≡ false → length more ≡ length (state.history.change task.target.slot task.target.seq)
            as_many last = grind (arith, nat_tests, longer, has.shorter, has.all, last)

        next_knows : Knows state (record actor { others = more }) (next_read actor task count)
        next_knows =
            either_way (Knows state (record actor { others = more })) (nat_lt (length actor.others + 1) count) (ReadAddr task count) (ReadTargetStatus task)
            (λ goes_on. has_read state actor more task count has.at_work has.not_alone has.all (shorter goes_on) first_ones) (λ last. read_all last)
          where
            shorter : nat_lt (length actor.others + 1) count ≡ true → length more < count
            shorter goes_on = grind (arith, nat_tests, longer, goes_on)

        stays : HasRead state (without_point (record actor { others = actor.others })) task count
        stays = has_read state actor actor.others task count has.at_work has.not_alone has.all has.shorter has.first

        by_test : (b : Bool) → Knows state (record actor { others = cond b more actor.others }) (cond b (next_read actor task count) (ReadNew task count addr expected))
        by_test true = next_knows
        by_test false = (stays, first, second)
