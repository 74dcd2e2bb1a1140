-- Goals of `decode` (src/images.rt).
use Rattle.std.proofs.Common.{◌≡◌, ℕ, ◌-◌, List, None, true, length, take, drop, sym, ap, ◌∙◌, ◌≤◌, subst, refl}
use Rattle.std.proofs.lemmas.Bool.{le-leb, lt-leb, leb-true, eq-eqb, ne_eqb}
use Rattle.std.proofs.lemmas.List.{take_rest}
use Rattle.mw_record.specs.declared.layout.Layout.TheVariants.{First, Second}
use Rattle.mw_record.specs.declared.layout.TheConstants.{HEAD_SIZE}
use Rattle.mw_record.specs.LayoutBytes.{has_head, has_mark, words_told, places_told}
use Rattle.mw_record.specs.Damages.{damage_of, second_tests, first_fault}
use Rattle.mw_record.proofs.Faults.{part_fault, no_head, no_mark, first_damage, second_damage, within_image}
use Rattle.mw_record.proofs.DecodedFiles.{handed_on, switched_damage, found_first, found_second}
use Rattle.mw_record.proofs.images.decode.Goals as goal
use Rattle.mw_record.proofs.images.decode.Goals.{Else-not-starts_with}

pub returns-then-bytes-lt-HEAD_SIZE : goal.returns-then-bytes-lt-HEAD_SIZE
returns-then-bytes-lt-HEAD_SIZE c = no_head c.args.bytes.now (lt-leb _ _ c.if-bytes-lt-HEAD_SIZE.true)

pub returns-then-not-starts_with : goal.returns-then-not-starts_with
returns-then-not-starts_with c =
    no_mark c.args.bytes.now (le-leb _ _ c.if-bytes-lt-HEAD_SIZE.false) (sym c.starts_with.ensures.value ∙ c.if-not-starts_with.true)

-- what holds of the bytes after the magic bytes
head : (c : Else-not-starts_with) → has_head c.args.bytes.now ≡ true
head c = le-leb _ _ c.if-bytes-lt-HEAD_SIZE.false

mark : (c : Else-not-starts_with) → has_mark First c.args.bytes.now ≡ true
mark c = sym c.starts_with.ensures.value ∙ c.if-not-starts_with.false

pub returns-in_err-file : goal.returns-in_err-file
returns-in_err-file c =
    let bytes : List ℕ = c.args.bytes.now in
    let e = (goal.at.returns-in_err-file c).Else-not-starts_with in
    handed_on (λ image. damage_of bytes ≡ None × image ≡ bytes) (damage_of bytes) (part_fault First bytes) c.in_err-file.field-0.0 c.from_residual.result c.from_residual.ensures.1
    (first_damage bytes (head e) (mark e) (ne_eqb _ _ c.if-bytes.true)) c.in_err-file.ensures

pub invariant_of-result : goal.invariant_of-result
invariant_of-result c =
    let bytes : List ℕ = c.args.bytes.now in
    let e = (goal.at.invariant_of-result c).Else-not-starts_with in
    let f = c.in_ok-file.ensures in
    found_first bytes (head e) (mark e) c.in_ok-file.file.layout c.in_ok-file.file.bytes.now c.in_ok-file.file.words c.in_ok-file.file.places (ne_eqb _ _ c.if-bytes.true) f.0
    (record { same_layout = f.1; same_bytes = f.2; same_words = f.3; same_places = f.4 })

pub returns-then-bytes : goal.returns-then-bytes
returns-then-bytes c =
    let bytes : List ℕ = c.args.bytes.now in
    let e = (goal.at.returns-then-bytes c).Else-not-starts_with in
    (first_damage bytes (head e) (mark e) (ne_eqb _ _ c.if-bytes.true) ∙ c.in_ok-file.ensures.0, refl)

pub returns-in_err-at : goal.returns-in_err-at
returns-in_err-at c =
    let bytes : List ℕ = c.args.bytes.now in
    let e = (goal.at.returns-in_err-at c).Else-not-starts_with in
    handed_on (λ image. damage_of bytes ≡ None × image ≡ bytes) (damage_of bytes) (first_fault (second_tests bytes)) c.in_err-at.field-0.0 c.from_residual-in_err-at.result
    c.from_residual-in_err-at.ensures.1 (second_damage bytes (head e) (mark e) (eq-eqb _ _ c.if-bytes.false)) c.in_err-at.ensures

pub returns-in_err-file-2 : goal.returns-in_err-file-2
returns-in_err-file-2 c =
    let bytes : List ℕ = c.args.bytes.now in
    let at : ℕ = c.in_ok-at.at in
    let e = (goal.at.returns-in_err-file-2 c).Else-not-starts_with in
    let f = c.in_ok-at.ensures in
    let fault = ap (λ xs. part_fault Second xs) (sym (take_rest bytes at)) ∙ c.in_err-file-2.ensures in
    handed_on (λ image. damage_of bytes ≡ None × image ≡ bytes) (damage_of bytes) (part_fault Second (drop at bytes)) c.in_err-file-2.field-0.0 c.from_residual-in_err-file-2.result
    c.from_residual-in_err-file-2.ensures.1 (switched_damage bytes (head e) (mark e) at (eq-eqb _ _ c.if-bytes.false) f.0 f.1 f.2 f.3) fault

pub invariant_of-result-2 : goal.invariant_of-result-2
invariant_of-result-2 c =
    let bytes : List ℕ = c.args.bytes.now in
    let at : ℕ = c.in_ok-at.at in
    let e = (goal.at.invariant_of-result-2 c).Else-not-starts_with in
    let f = c.in_ok-at.ensures in
    let file = c.in_ok-file-2.file in
    let g = c.in_ok-file-2.ensures in
    let rest : take (length bytes - at) (drop at bytes) ≡ drop at bytes = take_rest bytes at in
    found_second bytes (head e) (mark e) at (eq-eqb _ _ c.if-bytes.false) f.0 f.1 f.2 f.3 file.layout file.bytes.now file.words file.places
    (ap (λ xs. part_fault Second xs) (sym rest) ∙ g.0)
    (record { same_layout = g.1; same_bytes = g.2 ∙ rest; same_words = g.3 ∙ ap words_told rest; same_places = g.4 ∙ ap places_told rest })

pub returns : goal.returns
returns c =
    let bytes : List ℕ = c.args.bytes.now in
    let at : ℕ = c.in_ok-at.at in
    let e = (goal.at.returns c).Else-not-starts_with in
    let f = c.in_ok-at.ensures in
    let rest : take (length bytes - at) (drop at bytes) ≡ drop at bytes = take_rest bytes at in
    (switched_damage bytes (head e) (mark e) at (eq-eqb _ _ c.if-bytes.false) f.0 f.1 f.2 f.3 ∙ ap (λ xs. part_fault Second xs) (sym rest) ∙ c.in_ok-file-2.ensures.0, refl)

-- the second layout is within the bytes, and has a head
pub slice_bounds-decode_part-count : goal.slice_bounds-decode_part-count
slice_bounds-decode_part-count c = within_image c.args.bytes.now c.in_ok-at.at c.in_ok-at.ensures.2

pub decode_part-requires-2 : goal.decode_part-requires-2
decode_part-requires-2 c =
    let bytes : List ℕ = c.args.bytes.now in
    let at : ℕ = c.in_ok-at.at in
    subst (λ (xs : List ℕ). HEAD_SIZE ≤ length xs) (sym (take_rest bytes at)) (leb-true _ _ c.in_ok-at.ensures.2)
