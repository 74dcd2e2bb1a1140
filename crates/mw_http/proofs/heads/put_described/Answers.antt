-- Goals of `put_described` (src/heads.rt): the two fields are put one after the other.
use Rattle.std.proofs.Common.{List, ℕ, ◌++◌, codes, decimal, ap, ◌∙◌, append_assoc}
use Rattle.mw_http.specs.Heads.{described, field, type_text}
use Rattle.mw_http.proofs.heads.put_described.Goals as goal

pub returns-clause-lines : goal.returns-clause-lines
unfolding described
returns-clause-lines c =
    let old = c.args.head.now.items in
    let last = field (codes "Content-Length") (decimal c.args.content.length) in
    c.put_length.ensures.line
    ∙ ap (λ (t : List ℕ). t ++ last) (c.put_field.ensures.line ∙ ap (λ (v : List ℕ). old ++ field (codes "Content-Type") v) c.text.ensures.text)
    ∙ append_assoc old (field (codes "Content-Type") (type_text c.args.content.kind)) last
