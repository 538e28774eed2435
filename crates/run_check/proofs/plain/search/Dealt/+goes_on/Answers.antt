use Rattle.std.proofs.Common.{◌≡◌, ◌-◌, ◌∙◌, ◌++◌, [], ◌∷◌, ap, sym, subst, arith}
use Rattle.std.proofs.lemmas.List.{length-map}
use Rattle.tdb_base.specs.History.{Entry, History}
use Rattle.run_check.specs.Search.{GoesOn, vectors}
use Rattle.run_check.proofs.SearchLemmas.{GoesOnBy, goes-legally, goes-nowhere, none-more, popped}
use Rattle.run_check.proofs.plain.search.Dealt.+goes_on.Goals as goal

pub loop-i-preserved-in_default : goal.loop-i-preserved-in_default
loop-i-preserved-in_default t c =
    let d = c.args.self.now in (
      c.loop-i.invariant.0,
      none-more (GoesOnBy (vectors d) d.replies.now d.workers d.block c.args.history.now.items (c.args.left - 1)) c.loop-i.i c.loop-i.invariant.1
          (λ g. let told = g.1 in cc (told, c.in_ok-call.ensures, c.in_default.is)),
    )

pub loop-i-preserved : goal.loop-i-preserved
loop-i-preserved t c =
    let d = c.args.self.now in
    let h = c.args.history.now.items in
    let call = c.in-Some.call in
    let pushed : c.push.new.self.items ≡ h ++ call ∷ [] = c.in_ok-push.ensures.items ∙ ap (λ (s : History). s ++ call ∷ []) c.loop-i.invariant.0 in (
      popped c.goes_on.new.history.items c.pop.new.self.items h call c.goes_on.new.history.len c.goes_on.new.history.ok.0 (c.in_ok-found.ensures.kept ∙ pushed) c.pop.ensures.rest,
      none-more (GoesOnBy (vectors d) d.replies.now d.workers d.block h (c.args.left - 1)) c.loop-i.i c.loop-i.invariant.1
          (λ g.
          let told = g.1 in
          let same : g.0 ≡ call = cc (told, c.in_ok-call.ensures, c.in-Some.is) in
          let goes = subst (λ (s : History). GoesOn (vectors d) d.replies.now d.workers d.block s (c.args.left - 1)) (ap (λ (e : Entry). h ++ e ∷ []) same ∙ sym pushed) g.2 in
          let yes = c.in_ok-found.ensures.found.1 goes in
          cc (yes, c.if-found.false)),
    )

pub returns-clause-found : goal.returns-clause-found
returns-clause-found t c =
    let d = c.args.self.now in
    let agreed = rw c.deref.ensures.value at c.agrees.ensures in (
      λ yes. cc yes,
      λ g. absurd
          (goes-nowhere (vectors d) d.replies.now d.workers d.block c.args.history.now.items c.args.left
          (λ a. let yes = agreed.1 a in cc (yes, c.if-agrees.false))
          (λ some k lt by. c.loop-i.invariant.1 k (let same = length-map d.trace.now (λ v. v.items) in omega (arith, lt, same)) by)
          g),
    )

pub returns-then-not-is_legal-clause-found : goal.returns-then-not-is_legal-clause-found
returns-then-not-is_legal-clause-found t c =
    let d = c.args.self.now in
    let legal = rw c.deref-2.ensures.value at c.is_legal.ensures in (
      λ yes. cc yes,
      λ g. (let yes = legal.1 (goes-legally (vectors d) d.replies.now d.workers d.block c.args.history.now.items c.args.left g) in cc (yes, c.if-not-is_legal.true)),
    )
