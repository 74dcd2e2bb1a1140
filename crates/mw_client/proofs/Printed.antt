-- An entry and a `GET` that are printed piece by piece have the text that the protocol's grammar gives them.
-- Used by: put_entry, put_get. Only `entry_from` and `get_from` are used outside.
use Rattle.std.proofs.Common.{◌≡◌, ℕ, ◌^◌, ◌<◌, ◌≤◌, ◌++◌, List, [], ◌∷◌, decimal, sym, ap, ap₂, ◌∙◌, arith, append_assoc}
use Rattle.std.specs.Prelude.{codes}
use Rattle.mw_words.specs.declared.jobs.Entry.{Entry}
use Rattle.mw_line.specs.Number.{numeral}
use Rattle.mw_line.specs.Grammar.{entry_text}
use Rattle.mw_line.proofs.Numerals.{as_printed}

regrouped : (t x y z : List ℕ) → ((((((t ++ (32 ∷ [])) ++ x) ++ (58 ∷ [])) ++ y) ++ (58 ∷ [])) ++ z) ≡ t ++ (32 ∷ ((((x ++ codes ":") ++ y) ++ codes ":") ++ z))
regrouped t x y z = simp append_assoc

pub printed_entry : (e : Entry) (t : List ℕ) → e.addr < 2 ^ 16 → e.expected ≤ 281474976710655 → e.new ≤ 281474976710655 → ((((((t ++ (32 ∷ [])) ++ decimal e.addr) ++ (58 ∷ [])) ++ decimal e.expected) ++ (58 ∷ [])) ++ decimal e.new) ≡ t ++ (32 ∷ entry_text e)
printed_entry e t low first second =
    rw (as_printed e.addr (omega arith), as_printed e.expected (omega arith), as_printed e.new (omega arith)) (regrouped t (decimal e.addr) (decimal e.expected) (decimal e.new))

pub entry_from : (e : Entry) (n : ℕ) (t a b c d f g : List ℕ) → n ≡ e.addr → e.addr < 2 ^ 16 → e.expected ≤ 281474976710655 → e.new ≤ 281474976710655 → a ≡ t ++ 32 ∷ [] → b ≡ a ++ decimal n → c ≡ b ++ 58 ∷ [] → d ≡ c ++ decimal e.expected → f ≡ d ++ 58 ∷ [] → g ≡ f ++ decimal e.new → g ≡ t ++ 32 ∷ entry_text e
entry_from e n t a b c d f g same low first second e1 e2 e3 e4 e5 e6 =
    let whole : g ≡ ((((((t ++ (32 ∷ [])) ++ decimal e.addr) ++ (58 ∷ [])) ++ decimal e.expected) ++ (58 ∷ [])) ++ decimal e.new) = cc in
    whole ∙ printed_entry e t low first second

pub get_from : (a n : ℕ) (t p g : List ℕ) → n ≡ a → a < 2 ^ 16 → t ≡ [] → p ≡ t ++ codes "GET " → g ≡ p ++ decimal n → g ≡ codes "GET " ++ numeral a
get_from a n t p g same small none front whole =
    whole ∙ ap₂ (λ (x : List ℕ) (y : ℕ). x ++ decimal y) (front ∙ ap (λ (x : List ℕ). x ++ codes "GET ") none) same ∙ ap (λ (x : List ℕ). codes "GET " ++ x) (sym (as_printed a (omega arith)))
