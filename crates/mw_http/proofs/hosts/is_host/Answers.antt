-- Goals of `is_host` (src/hosts.rt): what begins with a bracket is an address, and what begins with none a name, and maybe a port.
use Rattle.std.proofs.Common.{◌≡◌, ℕ, ◌-◌, ◌==◌, ◌||◌, not, true, false, List, length, slice_index, take, drop, ◌∙◌, rules, refl, sym}
use Rattle.std.proofs.lemmas.List.{take_rest}
use Rattle.std.specs.List.{prefix_len}
use Rattle.mw_http.specs.Hosts.{is_host, is_literal, is_name_byte, is_port}
use Rattle.mw_http.proofs.hosts.is_host.Goals as goal
use Rattle.mw_http.proofs.hosts.is_host.Goals.{then-is_empty-via-then-is_empty, then-is_empty-via-else-is_empty+then-value-ne91}

-- what begins with no bracket is a name and maybe a port
name_first : (value : List ℕ) (len : ℕ) → ((length value == 0) || not (slice_index value 0 == 91)) ≡ true → len ≡ prefix_len is_name_byte value
    → is_port (take (length value - len) (drop len value)) ≡ is_host value
unfolding is_host
name_first value len no_bracket is = rw (take_rest value len, is, no_bracket) refl

pub returns-then-is_empty : goal.returns-then-is_empty
returns-then-is_empty c =
    let value = c.args.value.now in
    c.is_port.ensures
    ∙ name_first value c.name_len.result
    (elim c.then-is_empty.branch [
      | then-is_empty-via-then-is_empty w ↦ search rules
      | then-is_empty-via-else-is_empty+then-value-ne91 w ↦ search rules
    ])
    c.name_len.ensures.name

-- what begins with a bracket is an address and maybe a port
address_first : (value : List ℕ) → (length value == 0) ≡ false → slice_index value 0 ≡ 91 → is_literal (take (length value - 1) (drop 1 value)) ≡ is_host value
unfolding is_host
address_first value some bracket = rw (take_rest value 1, some, bracket) refl

pub returns : goal.returns
returns c = c.is_literal.ensures ∙ address_first c.args.value.now (sym c.is_empty.ensures ∙ c.if-is_empty.false) c.if-value-ne91.false
