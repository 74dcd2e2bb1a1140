-- If figures (a report) tell what the loads so far found, they still do after one more load.
-- Used by: TenantWords::free_slots, TenantWords::tenant_figures.
use Rattle.std.specs.Prelude.{ℕ, suc, ◌≡◌, ◌<◌, ◌+◌, Bool, true, false, not, cond, List, [], ◌∷◌, ◌++◌, length, map, take}
use Rattle.std.proofs.Common.{refl, sym, ap, subst, ◌∙◌, get_or, length-append, arith}
use Rattle.std.proofs.lemmas.List.{length-map, map-append}
use Rattle.std.proofs.lemmas.List.Sums.{sum_by_push}
use Rattle.std.proofs.Math.Seq.{take-suc}
use Rattle.mw_words.specs.declared.doors.Door.{Door}
use Rattle.mw_words.specs.declared.gates.Gate.{Gate}
use Rattle.mw_words.specs.declared.places.At.{At}
use Rattle.mw_words.specs.declared.places.At.TheVariants.{Door as AtDoor, Gate as AtGate}
use Rattle.mw_words.specs.Patterns.{unpacked_door, unpacked_gate}
use Rattle.mw_report.specs.declared.figures.TenantFigures.{TenantFigures}
use Rattle.mw_core.specs.FromTable.{Pass, View, index_of}
use Rattle.mw_core.proofs.FromTable.{keeps_all, keeps_on}
use Rattle.mw_engine.specs.declared.tenant_line.Listed.{Listed}
use Rattle.mw_engine.specs.Figures.{FoundDoor, FoundGate, HasLooked, IsLoaded, Loads, TellsFree, TellTenants, door_shown, door_told, each_at, gate_told, is_free, line_shown, places_shown}
use Rattle.mw_engine.specs.Lines.{line_of, places_of}

-- the door that figures tell is the door that was found
not_not : (test : Bool) → not (not test) ≡ test
not_not true = refl
not_not false = refl

pub same_door : (door : Door) → record { fault = not (not door.fault); used = door.used } ≡ door
same_door door = λ i. record { fault = not_not door.fault i; used = door.used }

-- a slot is counted if it is free
pub counted : (test : Bool) (free more : ℕ) → test ≡ true → more ≡ free + 1 → more ≡ free + cond test 1 0
counted test free more is one = one ∙ ap (λ (t : Bool). free + cond t 1 0) (sym is)

nothing_more : (free more : ℕ) → more ≡ free → more ≡ free + 0
nothing_more free more same = omega (arith, same)

pub not_counted : (test : Bool) (free more : ℕ) → test ≡ false → more ≡ free → more ≡ free + cond test 1 0
not_counted test free more is same = nothing_more free more same ∙ ap (λ (t : Bool). free + cond t 1 0) (sym is)

-- no look yet, and one look more
pub not_looked : (pass : Pass) → pass.idle ≡ true → HasLooked pass pass
not_looked pass idle = record { same_worker = refl; idle = idle; keeps = keeps_all pass.seat.me.0; same_mine = refl }

pub looked_on : (old between new : Pass) → HasLooked old between → HasLooked between new → HasLooked old new
looked_on old between new one more = record {
  same_worker = more.same_worker ∙ one.same_worker;
  idle = more.idle;
  keeps = keeps_on old.seat.me.0 between.seat.me.0 new.seat.me.0 one.keeps more.keeps;
  same_mine = more.same_mine ∙ one.same_mine;
}

-- bits at one more place
pub each_more : (place : ℕ → At) (first : ℕ) (bits : List ℕ) (last at : ℕ) → at ≡ first + length bits → each_at place first (bits ++ last ∷ []) ≡ each_at place first bits ++ (place at, last) ∷ []
each_more place first [] last at is = let same : first ≡ at = omega (arith, is) in ap (λ (n : ℕ). (place n, last) ∷ []) same
each_more place first (one ∷ bits) last at is =
    let next : at ≡ suc first + length bits = omega (arith, is) in ap (λ (all : List (At × ℕ)). (place first, one) ∷ all) (each_more place (suc first) bits last at next)

module _ (pool : ℕ) where
  -- one more load
  loads_more : (loads : List (At × ℕ)) (at : At) (bits : ℕ) (old between new : View) → Loads pool loads old between → IsLoaded (index_of pool at) bits between new → Loads pool (loads ++ (at, bits) ∷ []) old new
  loads_more [] at bits old between new same loaded = (new, subst (λ (view : View). IsLoaded (index_of pool at) bits view new) same loaded, refl)
  loads_more (one ∷ loads) at bits old between new before loaded = (before.0, before.1, loads_more loads at bits before.0 between new before.2 loaded)

  loads_at : (place : ℕ → At) (bits : List ℕ) (last at : ℕ) (old between new : View) → length bits ≡ at → Loads pool (each_at place 0 bits) old between → IsLoaded (index_of pool (place at)) last between new
      → Loads pool (each_at place 0 (bits ++ last ∷ [])) old new
  loads_at place bits last at old between new many before loaded =
      let is : at ≡ 0 + length bits = omega (arith, many) in
      subst (λ (loads : List (At × ℕ)). Loads pool loads old new) (sym (each_more place 0 bits last at is)) (loads_more (each_at place 0 bits) (place at) last old between new before loaded)

  -- nothing was looked at yet
  pub no_tenants : (view : View) → TellTenants pool [] [] [] view view
  no_tenants view = record { lines_are = refl; places_are = refl; bits = []; loads = refl; doors = refl }

  pub no_slots : (view : View) → TellsFree pool 0 0 view view
  no_slots view = record { gates = []; count = refl; bits = []; loads = refl; unpacked = refl; free_are = refl }

  as_many : {A B : Type 0} (f : A → B) (g : ℕ → B) (xs : List A) (bits : List ℕ) → map g bits ≡ map f xs → length bits ≡ length xs
  as_many f g xs bits same = sym (length-map bits g) ∙ (ap length same ∙ length-map xs f)

  -- one more slot was looked at
  pub free_more : (old between new : View) (slot free more : ℕ) (gate : Gate) → TellsFree pool slot free old between → FoundGate pool slot gate between new → more ≡ free + cond (is_free gate) 1 0
      → TellsFree pool (slot + 1) more old new
  free_more old between new slot free more gate tells found is = record {
    gates = tells.gates ++ gate ∷ [];
    count = length-append tells.gates (gate ∷ []) ∙ ap (λ (n : ℕ). n + 1) tells.count;
    bits = tells.bits ++ found.bits ∷ [];
    loads = loads_at AtGate tells.bits found.bits slot old between new (as_many gate_told unpacked_gate tells.gates tells.bits tells.unpacked ∙ tells.count) tells.loads found.loaded;
    unpacked = map-append unpacked_gate tells.bits (found.bits ∷ [])
        ∙ ((λ i. tells.unpacked i ++ found.unpacked i ∷ []) ∙ sym (map-append gate_told tells.gates (gate ∷ [])));
    free_are = is ∙ (ap (λ (n : ℕ). n + cond (is_free gate) 1 0) tells.free_are ∙ sym (sum_by_push (λ (one : Gate). cond (is_free one) 1 0) tells.gates gate));
  }

  -- one more tenant was looked at
  pub tenants_more : (old between new : View) (kept : List Listed) (tenant : ℕ) (item : Listed) (shown : List TenantFigures) (one : TenantFigures) → tenant < length kept
      → item ≡ get_or kept tenant item → length shown ≡ tenant → TellTenants pool (map line_of (take tenant kept)) (map places_of (take tenant kept)) shown old between → line_shown one ≡ line_of item
      → places_shown one ≡ places_of item → FoundDoor pool tenant (door_shown one) between new
      → TellTenants pool (map line_of (take (tenant + 1) kept)) (map places_of (take (tenant + 1) kept)) (shown ++ one ∷ []) old new
  tenants_more old between new kept tenant item shown one low here many tells line places found =
      let next : suc tenant ≡ tenant + 1 = omega arith in
      let longer : take (tenant + 1) kept ≡ take tenant kept ++ item ∷ [] =
      ap (λ (n : ℕ). take n kept) (sym next) ∙ (take-suc kept tenant item low ∙ ap (λ (l : Listed). take tenant kept ++ l ∷ []) (sym here)) in
      record {
        lines_are = map-append line_shown shown (one ∷ [])
            ∙ ((λ i. tells.lines_are i ++ line i ∷ []) ∙ (sym (map-append line_of (take tenant kept) (item ∷ [])) ∙ ap (map line_of) (sym longer)));
        places_are = map-append places_shown shown (one ∷ [])
            ∙ ((λ i. tells.places_are i ++ places i ∷ []) ∙ (sym (map-append places_of (take tenant kept) (item ∷ [])) ∙ ap (map places_of) (sym longer)));
        bits = tells.bits ++ found.bits ∷ [];
        loads = loads_at AtDoor tells.bits found.bits tenant old between new (as_many door_told unpacked_door shown tells.bits tells.doors ∙ many) tells.loads found.loaded;
        doors = map-append unpacked_door tells.bits (found.bits ∷ [])
            ∙ ((λ i. tells.doors i ++ found.unpacked i ∷ []) ∙ sym (map-append door_told shown (one ∷ [])));
      }
