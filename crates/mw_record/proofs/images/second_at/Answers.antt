-- Goals of `second_at` (src/images.rt).
use Rattle.std.proofs.Common.{◌≡◌, ℕ, List, true, drop, sym, ap, ◌∙◌}
use Rattle.std.proofs.lemmas.List.{take_rest}
use Rattle.mw_record.specs.declared.layout.Layout.TheVariants.{Second}
use Rattle.mw_record.specs.LayoutBytes.{has_head, has_mark}
use Rattle.mw_record.specs.Damages.{may_begin}
use Rattle.mw_record.proofs.Faults.{may_begin_at, head_at, no_head_at, no_second_head, no_second_mark}
use Rattle.mw_record.proofs.images.second_at.Goals as goal

-- there is no head from there on
pub returns-then-bytes-at : goal.returns-then-bytes-at
returns-then-bytes-at c =
    let bytes : List ℕ = c.args.bytes.now in
    let at : ℕ = c.read_number-at.result in
    let is = sym c.read_number-at.ensures in
    no_second_head bytes (ap may_begin is ∙ may_begin_at at c.if-at.false c.if-at-2.false) (ap (λ n. has_head (drop n bytes)) is ∙ no_head_at bytes at c.if-bytes-at.true)

-- the magic bytes are others
pub returns-then-not-starts_with : goal.returns-then-not-starts_with
returns-then-not-starts_with c =
    let bytes : List ℕ = c.args.bytes.now in
    let at : ℕ = c.read_number-at.result in
    let is = sym c.read_number-at.ensures in
    no_second_mark bytes (ap may_begin is ∙ may_begin_at at c.if-at.false c.if-at-2.false) (ap (λ n. has_head (drop n bytes)) is ∙ head_at bytes at c.if-bytes-at.false)
    (ap (λ n. has_mark Second (drop n bytes)) is ∙ ap (has_mark Second) (sym (take_rest bytes at)) ∙ sym c.starts_with.ensures.value ∙ c.if-not-starts_with.true)

-- a second layout begins there
pub returns : goal.returns
returns c =
    let bytes : List ℕ = c.args.bytes.now in
    let at : ℕ = c.read_number-at.result in (
      c.read_number-at.ensures,
      may_begin_at at c.if-at.false c.if-at-2.false,
      head_at bytes at c.if-bytes-at.false,
      ap (has_mark Second) (sym (take_rest bytes at)) ∙ sym c.starts_with.ensures.value ∙ c.if-not-starts_with.false,
    )
