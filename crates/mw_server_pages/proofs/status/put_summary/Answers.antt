-- Goals of `put_summary` (src/status.rt): its parts are put one after the other.
use Rattle.std.proofs.Common.{◌≡◌, ◌++◌, ◌∙◌, List, ℕ, ap, sym, codes, flat_map}
use Rattle.std.proofs.lemmas.Bool.{cond-false}
use Rattle.std.specs.List.{list_all}
use Rattle.mw_server_pages.specs.Health.{is_well}
use Rattle.mw_server_pages.specs.StatusPage.{summary, unwell, unwell_name}
use Rattle.mw_server_pages.proofs.Parts.{before}
use Rattle.mw_server_pages.proofs.status.put_summary.Goals as goal

pub returns-else-are_well-clause-summary : goal.returns-else-are_well-clause-summary
unfolding summary unwell
returns-else-are_well-clause-summary c =
    let named : c.put-else-are_well-2.new.self.bytes.items ≡ c.args.text.now.bytes.items ++ (codes "<p class=\"down\">Not well:" ++ flat_map unwell_name c.args.tenants.now ++ codes ".</p>\n") =
    before c.args.text.now.bytes.items (codes "<p class=\"down\">Not well:" ++ flat_map unwell_name c.args.tenants.now) (codes ".</p>\n")
    (before c.args.text.now.bytes.items (codes "<p class=\"down\">Not well:") (flat_map unwell_name c.args.tenants.now) c.put-else-are_well.ensures.bytes c.put_unwell_names.ensures.names)
    c.put-else-are_well-2.ensures.bytes in
    named ∙ ap (λ (text : List ℕ). c.args.text.now.bytes.items ++ text)
    (sym (cond-false (list_all is_well c.args.tenants.now) (codes "<p class=\"up\">All tenants are up.</p>\n") (codes "<p class=\"down\">Not well:" ++ flat_map unwell_name c.args.tenants.now ++ codes ".</p>\n") (sym c.are_well.ensures ∙ c.if-are_well.false)))
