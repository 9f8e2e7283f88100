use Rattle.questions.proofs.Measuring.{measure_first, measure_second, measure_landed}
use native.Mathlib.Omega.{arith}
use Rattle.questions.proofs.measure.measure_in.Goals as goal

pub returns-then-counts-v : goal.returns-then-counts-v
returns-then-counts-v c = λ degrees sides volumes labels. measure_first _ _ _ _ c.if-counts-v.true

pub returns-then-counts-w : goal.returns-then-counts-w
returns-then-counts-w c = λ degrees sides volumes labels. measure_second _ _ _ _ c.if-counts-w.true

pub search-requires : goal.search-requires
search-requires c =
    (c.requires.0.0, (omega (arith, c.requires.0.1, c.if-counts-v.false), (omega (arith, c.requires.0.1, c.if-counts-w.false), c.requires.1)))

pub returns : goal.returns
returns c =
    λ degrees sides volumes labels. measure_landed _ _ _ _ _ (omega (arith, c.if-counts-v.false)) (omega (arith, c.if-counts-w.false)) (c.search.ensures degrees sides volumes labels)
