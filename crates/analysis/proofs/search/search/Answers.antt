use Rattle.std.proofs.Common.{◌≡◌, ℕ, ◌+◌, ◌<◌, ◌≤◌, None, refl, subst, arith}
use Rattle.model.specs.Windows.{Rounds, found, above, again}
use Rattle.model.proofs.Searches.{exceeded_up_to_value}
use Rattle.analysis.proofs.search.search.Goals as goal

pub loop-needed-preserved : goal.loop-needed-preserved
loop-needed-preserved g c =
    let f : ℕ → ℕ = g.C.Curve.value c.args.curve.now in
    let w = c.loop-needed.window in
    let e : c.at-needed.result ≡ f w = c.at-needed.ensures in
    let lt : w < f w = omega arith in
    let le : f w ≤ c.args.deadline = omega arith in
    record {
      positive = omega arith;
      within = omega arith;
      few = omega (arith, c.loop-needed.invariant.few);
      exceeded = λ v a b. exceeded_up_to_value f w (g.met.C.Curve.rises c.args.curve.now) c.loop-needed.invariant.exceeded v a (omega arith);
      rounds = λ r n m em go. c.loop-needed.invariant.rounds r (n + 1) m (omega arith) (again w r n lt le (subst (λ x. Rounds f c.args.deadline x r n) e go));
    }

pub returns-then-needed-from-clause-rounds : goal.returns-then-needed-from-clause-rounds
returns-then-needed-from-clause-rounds g c =
    c.loop-needed.invariant.rounds _ 1 (c.loop-needed.rounds + 1) refl (found c.loop-needed.window (omega (arith, c.at-needed.ensures)))

pub returns-then-needed-from-2-clause-rounds : goal.returns-then-needed-from-2-clause-rounds
returns-then-needed-from-2-clause-rounds g c =
    let e : c.at-needed.result ≡ g.C.Curve.value c.args.curve.now c.loop-needed.window = c.at-needed.ensures in
    c.loop-needed.invariant.rounds None 1 (c.loop-needed.rounds + 1) refl (above c.loop-needed.window (omega arith) (omega arith))
