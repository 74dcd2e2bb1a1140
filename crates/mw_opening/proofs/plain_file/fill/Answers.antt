-- Goals of `fill` (src/plain_file.rt).
use Rattle.std.proofs.Common.{◌≡◌, ℕ, ◌+◌, ◌-◌, ◌≤◌, List, ◌++◌, rules, arith, length, take, slice_range, sym, ap, ◌∙◌, subst, le_refl, drop_at, length-take-le}
use Rattle.std.proofs.lemmas.Slice.{take-put_mid_below}
use Rattle.std.specs.Io.KnownBytes.{Consumes}
use Rattle.std.proofs.KnownBytes.{Consumes-trans, Consumes-kept}
use borrow.Rule.Slice.PartMut.{put_mid, post_of}
use lib.Seq.{take-add, take-append-le}
use Rattle.mw_opening.proofs.plain_file.fill.Goals as goal
use Rattle.mw_opening.proofs.plain_file.fill.Goals.{in-Ok, in-Err+else-ne}

-- the front up to b is the front up to a, which stays, and what is between
take_split : (a b : ℕ) (old new : List ℕ) → a ≤ b → take a new ≡ take a old → take a old ++ slice_range new a b ≡ take b new
take_split a b old new h front =
    let same : a + (b - a) ≡ b = omega arith in
    ap (λ l. l ++ slice_range new a b) (sym front) ∙ sym (take-add a (b - a) new) ∙ ap (λ n. take n new) same

-- what a read put at a is the front of what it gave
slice_range-put_mid : (a k n : ℕ) (xs ys : List ℕ) → a ≤ length xs → n ≤ length ys → slice_range (put_mid a k xs ys) a (a + n) ≡ take n ys
slice_range-put_mid a k n xs ys within fits =
    let same : (a + n) - a ≡ n = omega arith in
    let after = post_of a k xs in
    ap (take ((a + n) - a)) (drop_at (take a xs) (ys ++ after) a (length-take-le a xs within)) ∙ ap (λ m. take m (ys ++ after)) same ∙ take-append-le n ys after fits

-- a read gave bytes, or it was interrupted
pub loop-preserved : goal.loop-preserved
loop-preserved g c =
    let from = c.loop.count in
    let old = c.loop.room in
    let space = length old - from in
    let now = put_mid from space old c.read.new.buf in
    let within = c.loop.invariant.1 in
    let left = g.F.Read.remaining in
    elim c.match-read.branch [
      | in-Ok w ↦ (
        search rules,
        search rules,
        let part = slice_range-put_mid from space w.in-Ok.more old c.read.new.buf within w.in-Ok.ensures.bound.0 in
            let joined = take_split from (from + w.in-Ok.more) old now (omega arith) (take-put_mid_below _ _ _ _ _ (le_refl _) within) in
            subst (λ (n : ℕ). Consumes (left c.args.file.now) (left c.read.new.self) (take n now)) (sym w.count-is)
            (subst (Consumes _ _) (ap (λ l. take from old ++ l) (sym part) ∙ joined) (Consumes-trans _ _ _ _ _ c.loop.invariant.2 w.in-Ok.ensures.bytes.0)),
      )
      | in-Err+else-ne w ↦ (
        search rules,
        search rules,
        subst (λ (n : ℕ). Consumes (left c.args.file.now) (left c.read.new.self) (take n now)) (sym w.count-is)
            (subst (Consumes _ _) (sym (take-put_mid_below _ _ _ _ _ (le_refl _) within)) (Consumes-kept _ _ _ _ c.loop.invariant.2 w.in-Err.ensures.bytes)),
      )
    ]
