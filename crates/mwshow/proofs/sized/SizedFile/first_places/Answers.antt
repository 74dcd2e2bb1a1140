-- Goals of `SizedFile::first_places` (src/sized.rt).
use Rattle.std.proofs.Common.{◌++◌, ◌+◌, ◌-◌, List, ℕ, length, length-drop, take, drop, ap, ◌∙◌, arith, append_assoc}
use Rattle.std.proofs.lemmas.List.{take_all}
use Rattle.mw_record.specs.Layout.{header}
use Rattle.mwshow.proofs.sized.SizedFile.first_places.Goals as goal

-- the bytes before the layout, its head, and the bytes after that
pub returns : goal.returns
returns c =
    let file = c.args.self.now in
    let bytes : List ℕ = file.bytes.now in
    let head : List ℕ = header file.layout file.words c.args.places in
    let behind : ℕ = file.at + 32 in
    let rest : List ℕ = drop behind bytes in
    let before : List ℕ = c.in_ok-first.first.items in
    let first : List ℕ = c.extend_from_slice.new.self.items in
    c.in_ok-extend_from_slice-2.ensures.items
    ∙ ap (λ (xs : List ℕ). first ++ xs) (take_all (length bytes - behind) rest (omega (arith, length-drop behind bytes)))
    ∙ ap (λ (xs : List ℕ). xs ++ rest)
    (c.in_ok-extend_from_slice.ensures.items ∙ ap (λ (xs : List ℕ). before ++ xs) c.head.ensures ∙ ap (λ (xs : List ℕ). xs ++ head) c.in_ok-first.ensures.items)
    ∙ append_assoc (take file.at bytes) head rest
