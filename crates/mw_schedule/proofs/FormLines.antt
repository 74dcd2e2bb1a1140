-- Lines of a text that are passed one after the other. Used by: from_line.
use Rattle.std.specs.Prelude.{ℕ, zero, suc, ◌≡◌, ◌+◌, ◌-◌, ◌<◌, List, [], None}
use Rattle.std.proofs.Common.{refl, sym, ap, ◌∙◌, arith}
use Rattle.mw_line.specs.LineReader.{field_at}
use Rattle.mw_schedule.specs.Forms.{after_line, after_lines, behind_end}

-- after its last line a text is empty
nothing_after : (count : ℕ) → after_lines count [] ≡ []
nothing_after zero = refl
nothing_after (suc count) = nothing_after count

-- one line is passed, and one less is left
pub passes : (at number : ℕ) (rest after : List ℕ) → at < number → after_line rest ≡ after → after_lines (number - (at + 1)) after ≡ after_lines (number - at) rest
passes at number rest after less is =
    let next : number - at ≡ suc (number - (at + 1)) = omega (arith, less) in
    sym (ap (λ count. after_lines count rest) next ∙ ap (λ one. after_lines (number - (at + 1)) one) is)

-- without a line feed all further lines are empty
pub ends : (at number : ℕ) (rest : List ℕ) → at < number → field_at 10 rest ≡ None → after_lines (number - at) rest ≡ []
ends at number rest less none =
    let next : number - at ≡ suc (number - (at + 1)) = omega (arith, less) in
    ap (λ count. after_lines count rest) next ∙ ap (λ found. after_lines (number - (at + 1)) (behind_end found)) none ∙ nothing_after (number - (at + 1))
