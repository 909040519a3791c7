use Rattle.std.proofs.Common.{None, sym, refl, ◌∙◌, eqb-true}
use base.Stored.{coded_ℕ}
use Rattle.checker.proofs.Passed.{passes-checked}
use Rattle.checker.proofs.rules.holds_rules.Goals as goal

pub returns-then-counts-header : goal.returns-then-counts-header
returns-then-counts-header g c e =
    let m = g.K.Kind.meaning in
    let ns = c.args.nodes.now in
    let hd = c.args.header in
    let passed = c.if-not-pass_all.ensures refl in
    passes-checked m g.met.K.Kind.first g.met.K.Kind.second coded_ℕ g.row.K-Weight.coded ns hd c.if-header-eq0.false None passed.1
    (sym c.if-counts-header.true ∙ c.in-Some.ensures.0)
    (sym (eqb-true c.in-Some.counts.kept hd.count e) ∙ c.in-Some.ensures.1)
