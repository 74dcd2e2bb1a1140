-- Goals of `TenantWords::tenant_figures` (src/figures.rt).
use Rattle.std.specs.Prelude.{ℕ, ◌≡◌, ◌<◌, ◌≤◌, ◌+◌, not, All, List, [], ◌∷◌, ◌++◌, length, map, take}
use Rattle.std.proofs.Common.{refl, ap, sym, subst, ◌∙◌, get_or, length-append, arith}
use Rattle.std.proofs.lemmas.List.Elements.{All-push}
use Rattle.mw_words.specs.declared.doors.Door.{Door}
use Rattle.mw_words.specs.declared.limits.TheConstants.{MAX_PLACES, MAX_QUOTA, MAX_WORDS}
use Rattle.mw_report.specs.declared.figures.TenantFigures.{TenantFigures}
use Rattle.mw_report.specs.Table.{IsWithinLimits}
use Rattle.mw_engine.specs.Figures.{FoundDoor, TellTenants, line_shown}
use Rattle.mw_engine.specs.Lines.{line_of, places_of}
use Rattle.mw_engine.specs.declared.tenant_line.Listed.{Listed}
use Rattle.mw_engine.proofs.TenantSearch.{has, quota_is}
use Rattle.mw_engine.proofs.RequestsMayCome.{words_few}
use Rattle.mw_engine.proofs.FiguresSoFar.{looked_on, no_tenants, not_looked, same_door, tenants_more}
use Rattle.mw_engine.proofs.tenant_words.TenantWords.tenant_figures.Goals as goal

pub loop-tenant-init : goal.loop-tenant-init
loop-tenant-init c =
    let pass = c.args.pass.now in
    let pool = c.args.self.now.core.shared.pool in
    let none : c.new-figures.result.items ≡ [] = c.new-figures.ensures in
    record {
      own = c.requires.own;
      looked = not_looked pass c.requires.idle;
      many = ap length none;
      limits = subst (λ (all : List TenantFigures). All IsWithinLimits all) (sym none) (λ index other low. absurd (omega (arith, low)));
      tells = subst (λ (all : List TenantFigures). TellTenants pool [] [] all pass.seat.me.0 pass.seat.me.0) (sym none) (no_tenants pool pass.seat.me.0);
    }

pub loop-tenant-preserved : goal.loop-tenant-preserved
loop-tenant-preserved c =
    let engine = c.args.self.now in
    let kept = engine.lines.items in
    let pool = engine.core.shared.pool in
    let old = c.args.pass.now in
    let between = c.loop-tenant.pass in
    let new = c.door-door.new.pass in
    let tenant = c.loop-tenant.tenant in
    let shown = c.loop-tenant.figures.items in
    let inv = c.loop-tenant.invariant in
    let item = c.line-item.result in
    let door = c.door-door.result in
    let one : TenantFigures = record { name = c.copy_of_name.result; words = item.words; quota = item.quota; places = item.places; used = door.used; up = not door.fault } in
    let value = c.deref-line-items.ensures.0 in
    let low : tenant < length kept = omega (arith, c.loop-tenant-test.true, ap length value) in
    let here : item ≡ get_or kept tenant item = c.line-item.is ∙ ap (λ xs. get_or xs tenant item) value in
    let there = has kept tenant item [] low here in
    let line : line_shown one ≡ line_of item = λ i. record { name = (c.copy_of_name.ensures i).items; words = item.words; quota = item.quota } in
    let within : IsWithinLimits one = record {
      words = subst (λ (n : ℕ). n ≤ MAX_WORDS) there.words_are (words_few engine tenant there.there);
      quota = subst (λ (n : ℕ). n ≤ MAX_QUOTA) (quota_is kept tenant item [] low here) c.door-door.ensures.quota;
      places = subst (λ (one : Listed). one.places ≤ MAX_PLACES) (sym here) (engine.few_places tenant item low);
      used = c.door-door.ensures.few;
    } in
    let items : c.push.new.self.items ≡ shown ++ one ∷ [] = c.push.ensures.items in
    record {
      own = c.door-door.ensures.own;
      looked = looked_on old between new inv.looked c.door-door.ensures.looked;
      many = ap length items ∙ (length-append shown (one ∷ []) ∙ ap (λ (n : ℕ). n + 1) inv.many);
      limits = subst (λ (all : List TenantFigures). All IsWithinLimits all) (sym items) (All-push IsWithinLimits shown one inv.limits within);
      tells = subst (λ (all : List TenantFigures). TellTenants pool (map line_of (take (tenant + 1) kept)) (map places_of (take (tenant + 1) kept)) all old.seat.me.0 new.seat.me.0) (sym items)
          (tenants_more pool old.seat.me.0 between.seat.me.0 new.seat.me.0 kept tenant item shown one low here inv.many inv.tells line refl
          (subst (λ (d : Door). FoundDoor pool tenant d between.seat.me.0 new.seat.me.0) (sym (same_door door)) c.door-door.ensures.found));
    }
