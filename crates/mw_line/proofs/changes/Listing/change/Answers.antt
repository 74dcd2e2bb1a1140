-- Goals of `Listing::change` (src/changes.rt).
use Rattle.std.proofs.Common.{◌≡◌, Bool, true, false, List, refl}
use Rattle.std.specs.List.{list_all}
use Rattle.mw_words.specs.declared.jobs.Entry.{Entry}
use Rattle.mw_words.specs.Change.{rises}
use Rattle.mw_line.specs.Limits.{addr_fits, values_fit}
use Rattle.mw_line.proofs.ChangeReader.{all_kept}
use Rattle.mw_line.proofs.changes.Listing.change.Goals as goal

-- if the kept entries are all entries, a test says the same of both
told : (test : List Entry → Bool) (slice kept all : List Entry) (result answer : Bool) → slice ≡ kept → kept ≡ all → result ≡ test slice → result ≡ answer → test all ≡ answer
told test slice kept all result answer s k t a = cc

pub returns-then-not-values_fit : goal.returns-then-not-values_fit
returns-then-not-values_fit c = λ es some lists.
    let k = all_kept es c.args.self lists c.if-self.false in
    let values = told (list_all values_fit) c.deref.result.now c.args.self.kept.items es c.values_fit.result false c.deref.ensures.0 k.0 c.values_fit.ensures c.if-not-values_fit.true in
    rw (k.1, values) refl

pub returns-then-not-addresses_fit : goal.returns-then-not-addresses_fit
returns-then-not-addresses_fit c = λ es some lists.
    let k = all_kept es c.args.self lists c.if-self.false in
    let values = told (list_all values_fit) c.deref.result.now c.args.self.kept.items es c.values_fit.result true c.deref.ensures.0 k.0 c.values_fit.ensures c.if-not-values_fit.false in
    let addrs = told (list_all addr_fits) c.deref-2.result.now c.args.self.kept.items es c.addresses_fit.result false c.deref-2.ensures.0 k.0 c.addresses_fit.ensures c.if-not-addresses_fit.true in
    rw (k.1, values, addrs) refl

pub returns-then-not-rises : goal.returns-then-not-rises
returns-then-not-rises c = λ es some lists.
    let k = all_kept es c.args.self lists c.if-self.false in
    let values = told (list_all values_fit) c.deref.result.now c.args.self.kept.items es c.values_fit.result true c.deref.ensures.0 k.0 c.values_fit.ensures c.if-not-values_fit.false in
    let addrs = told (list_all addr_fits) c.deref-2.result.now c.args.self.kept.items es c.addresses_fit.result true c.deref-2.ensures.0 k.0 c.addresses_fit.ensures c.if-not-addresses_fit.false in
    let order = told rises c.deref-3.result.now c.args.self.kept.items es c.rises.result false c.deref-3.ensures.0 k.0 c.rises.ensures c.if-not-rises.true in
    rw (k.1, values, addrs, order) refl

pub returns : goal.returns
returns c = λ es some lists.
    let k = all_kept es c.args.self lists c.if-self.false in
    let values = told (list_all values_fit) c.deref.result.now c.args.self.kept.items es c.values_fit.result true c.deref.ensures.0 k.0 c.values_fit.ensures c.if-not-values_fit.false in
    let addrs = told (list_all addr_fits) c.deref-2.result.now c.args.self.kept.items es c.addresses_fit.result true c.deref-2.ensures.0 k.0 c.addresses_fit.ensures c.if-not-addresses_fit.false in
    let order = told rises c.deref-3.result.now c.args.self.kept.items es c.rises.result true c.deref-3.ensures.0 k.0 c.rises.ensures c.if-not-rises.false in
    (rw (k.1, values, addrs, order) refl, k.0)
