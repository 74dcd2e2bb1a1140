-- Defines which rule the first wrong line of a schedule breaks.
-- Used by: src/forms.rt, src/first_words.rt. A new LineForm or LineRule needs a case here.
use Rattle.std.specs.Prelude.{ℕ, zero, suc, ◌-◌, ◌==◌, Bool, true, false, if◌then◌else◌, List, [], ◌∷◌, bytes_eq, codes, Option, Some, None}
use Rattle.mw_line.specs.LineReader.{field_at}
use Rattle.mw_schedule.specs.declared.forms.LineForm.{LineForm}
use Rattle.mw_schedule.specs.declared.forms.LineForm.TheVariants as form
use Rattle.mw_schedule.specs.declared.forms.LineRule.{LineRule}
use Rattle.mw_schedule.specs.declared.forms.LineRule.TheVariants as rule

-- what follows the end byte, if there is one
abbrev pub behind_end : Option (List ℕ × List ℕ) → List ℕ
behind_end None = []
behind_end (Some read) = read.1

-- the bytes after the first line feed; none without one
abbrev pub after_line : List ℕ → List ℕ
after_line text = behind_end (field_at 10 text)

-- the bytes after so many line feeds
abbrev pub after_lines : ℕ → List ℕ → List ℕ
after_lines zero text = text
after_lines (suc count) text = after_lines count (after_line text)

-- the bytes from the line of this number on; lines are numbered from 1
abbrev pub from_line : ℕ → List ℕ → List ℕ
from_line number text = after_lines (number - 1) text

-- what comes before the end byte, if there is one, else all
abbrev pub before_end : List ℕ → Option (List ℕ × List ℕ) → List ℕ
before_end line None = line
before_end line (Some read) = read.0

-- the bytes before the first space, or all
abbrev pub first_word : List ℕ → List ℕ
first_word line = before_end line (field_at 32 line)

-- the forms of the lines before the commands, by their first words
abbrev pub first_form : List ℕ → Option LineForm
first_form word =
    if bytes_eq word (codes "seq") then Some form.Seq
    else (if bytes_eq word (codes "tenant") then Some form.Tenant
    else (if bytes_eq word (codes "old") then Some form.Old
    else None))

-- the forms of the commands by which a worker goes further, and of a restart
abbrev pub going_form : List ℕ → Option LineForm
going_form word =
    if bytes_eq word (codes "before") then Some form.Before
    else (if bytes_eq word (codes "to") then Some form.To
    else (if bytes_eq word (codes "end") then Some form.End
    else (if bytes_eq word (codes "restart") then Some form.Restart
    else None)))

-- the forms of all commands
abbrev pub command_form : List ℕ → Option LineForm
command_form word =
    if bytes_eq word (codes "come") then Some form.Come
    else (if bytes_eq word (codes "step") then Some form.Step
    else (if bytes_eq word (codes "file") then Some form.File
    else going_form word))

-- the first of these forms, if there is one, else the second
abbrev pub or_form : Option LineForm → Option LineForm → Option LineForm
or_form (Some found) other = Some found
or_form None other = other

-- the form of the lines that begin with this word
abbrev pub form_of : List ℕ → Option LineForm
form_of word = or_form (first_form word) (command_form word)

-- the form is that of the line of the first numbers
abbrev pub is_seq : Option LineForm → Bool
is_seq (Some form.Seq) = true
is_seq (Some form.Pool) = false
is_seq (Some form.Workers) = false
is_seq (Some form.Tenant) = false
is_seq (Some form.Old) = false
is_seq (Some form.Come) = false
is_seq (Some form.Step) = false
is_seq (Some form.File) = false
is_seq (Some form.Before) = false
is_seq (Some form.To) = false
is_seq (Some form.End) = false
is_seq (Some form.Restart) = false
is_seq None = false

-- No line before the one of this number is a tenant's, if all of these are right: it is the third line, or the fourth, after a
-- line of the first numbers.
abbrev pub is_before_tenants : List ℕ → ℕ → Bool
is_before_tenants text number = if number == 3 then true else (if number == 4 then is_seq (form_of (first_word (from_line 3 text))) else false)

-- the rule for a line with or without a form that its word names; `early`: no tenant comes before it
abbrev pub rule_of : Bool → Option LineForm → LineRule
rule_of early None = rule.Word
rule_of early (Some form.Seq) = rule.Form form.Seq
rule_of early (Some form.Tenant) = rule.Form form.Tenant
rule_of early (Some form.Pool) = if early then rule.TenantFirst else rule.Form form.Pool
rule_of early (Some form.Workers) = if early then rule.TenantFirst else rule.Form form.Workers
rule_of early (Some form.Old) = if early then rule.TenantFirst else rule.Form form.Old
rule_of early (Some form.Come) = if early then rule.TenantFirst else rule.Form form.Come
rule_of early (Some form.Step) = if early then rule.TenantFirst else rule.Form form.Step
rule_of early (Some form.File) = if early then rule.TenantFirst else rule.Form form.File
rule_of early (Some form.Before) = if early then rule.TenantFirst else rule.Form form.Before
rule_of early (Some form.To) = if early then rule.TenantFirst else rule.Form form.To
rule_of early (Some form.End) = if early then rule.TenantFirst else rule.Form form.End
rule_of early (Some form.Restart) = if early then rule.TenantFirst else rule.Form form.Restart

-- the rule for a text that ends before the line of this number
abbrev pub missing_at : ℕ → LineRule
missing_at number = if number == 1 then rule.HasPool else (if number == 2 then rule.HasWorkers else rule.HasTenant)

-- the rule for a line at this place, before which no tenant comes if it is early
abbrev pub rule_at : ℕ → Bool → List ℕ → LineRule
rule_at number early line =
    if number == 1 then rule.Form form.Pool
    else (if number == 2 then rule.Form form.Workers
    else rule_of early (form_of (first_word line)))

-- the rule for the rest of a text, which begins with a line if it has a line feed
abbrev pub rule_from : ℕ → Bool → List ℕ → Option (List ℕ × List ℕ) → LineRule
rule_from number early rest (Some read) = rule_at number early read.0
rule_from number early [] None = missing_at number
rule_from number early (b ∷ rest) None = rule.LineFeed

-- The rule that the line of this number breaks, if it is the first wrong one of the text.
abbrev pub broken_rule : List ℕ → ℕ → LineRule
broken_rule text number = rule_from number (is_before_tenants text number) (from_line number text) (field_at 10 (from_line number text))
