-- A block has no bytes at run time. Contracts see the bytes that were written. The proof of Block::of (src/event.rt).
use Rattle.std.proofs.Common.{◌≡◌, [], ◌∷◌, refl}
use base.Fml.{fsep, ftrue}
use Rattle.std.proofs.raw_atomic.Walks.{proved}
use mir.Syntax.{named}
use types.Kit.{‵, raw, ◌⊛◌, ◌$◌, ◌∵◌, !, qed, move, keep, split, fjoin, fpack, suffices, done}
use types.Part.{agg}
use types.Run.{enter, returns, no_more}
use types.ByLocal.{alloc_all, pass_all, free_all, look_at, sets}
use denote.Exit.{yes}
use denote.RattleType.{owns}
use denote.Builtin.{u8}
use denote.Slice.{shr_slice_vals, shr_slice_Tells}
use denote.Signature.{plain, types_at}
use denote.Steps.{nothing}
use denote.Triple.Entry.{alive}
use denote.Triple.Walked.{says, Stays, stay_none_slice, walk_of, ends_at, Goes-none_slice}
use Rattle.mw_memory_disk.proofs.Fieldless.{none, none_made}
use Rattle.mw_memory_disk.specs.contracts.event.Block.TheInside as In
use Rattle.mw_memory_disk.specs.declared.event.Block.TheView.{invariant}
use Rattle.mw_memory_disk.specs.contracts.event.Block.of as f
use Rattle.mw_memory_disk.proofs.event.Block.of.Statement.{statement}
use Rattle.mw_memory_disk.proofs.event.Block.of.Code as code

abbrev stayed : Stays f.ended.signature.params f.ended.kept
stayed = (stay_none_slice (0 ∷ []) tt (plain (λ _. u8)) yes, tt)

pub of_spec : {M : Type 1} → statement M
of_spec 𝓤 𝓛 𝓜 𝓡 wired =
    let c = f.clauses 𝓛 𝓜.mem 𝓡.returns in let W = walk_of 𝓛 f.ended stayed c in
    proved 𝓛 f.ended stayed c 𝓜 𝓡 (Goes-none_slice 𝓛 1 (0 ∷ []) tt (plain (λ _. u8)) yes, tt)
    f.Key.name code.function (code.unfolded 𝓤 𝓛.H 𝓜 𝓡 wired)
    (λ κs. (shr_slice_vals, tt)) (λ κs. (shr_slice_Tells (named 0) κs.0 u8, tt)) (λ κs qs bounds a g are.
    let y : W.Ghost = ((κs, qs, bounds, a, (shr_slice_vals a.0, tt)), g) in
    qed 𝓛 ((raw (alive 𝓛 f.signature κs qs) ⊛ ‵ (owns (types_at f.signature.params κs) a y.0.4)) ∷ raw ((c κs a).requires g) ∷ []) ∵
    keep ! (0 ∷ []) $ split ! $
    enter ! _ _ _ _ _ $ alloc_all ! (λ l. pass_all ! refl ((tt, (tt, (record { fits = are.0.0.1.0 }, tt))), tt) $
    sets ! (agg ! (no_more !)) refl (tt, tt) $ nothing ! $ nothing ! $ none_made ! $ fjoin ! $ fjoin ! $
    fpack ! ((b : In.the_row.Denot) × ((b.bytes ≡ a.0.now) × invariant b)) (λ b. fsep (In.the_row.own_val b.0 (none ∷ [])) ftrue)
    (record { bytes = a.0.now }, (refl, tt)) $
    returns ! (look_at ! 0 refl) $ free_all ! refl $
    suffices ! _ (ends_at 𝓛 f.ended stayed c y none a.0.now (tt, tt) (tt, tt)) $ says ! refl $
    move ! (1 ∷ 2 ∷ 0 ∷ []) $ done !))
