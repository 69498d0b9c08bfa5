-- `compare_all`: one law for each way in which it returns.
use mathlib.Core.Path.{sym, ◌∙◌}
use mathlib.Core.List.{[], ◌∷◌, ◌++◌}
use native.Mathlib.Omega.{arith}
use Rattle.engine.proofs.TermLaws.{untouched}
use Rattle.engine.proofs.RepeatsLaws.{indexed_none, comparing_fits, compared_new}
use Rattle.engine.proofs.repeats.repeated.compare_all.Goals as goal

pub fitted-requires : goal.fitted-requires
fitted-requires c = let q = c.requires.1 in (q.0 ++ (q.1 ∷ []), comparing_fits q.2 (untouched _ _ _) (omega (arith, q.2.fits)) (indexed_none _ _ _))

pub returns : goal.returns
returns c = λ ws v g. compared_new g (sym c.if-among.false ∙ c.among.ensures ws v g.earlier g.words g.whole) (untouched _ _ _) (c.fitted.ensures (ws ++ (v ∷ [])) (comparing_fits g (untouched _ _ _) (omega (arith, g.fits)) (indexed_none _ _ _)))
