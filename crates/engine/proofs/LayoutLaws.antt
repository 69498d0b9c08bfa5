-- The layout: from word 0 on, each area begins where the one before it ends, and is as long as the bound on what it holds asks for. The last ends within the words that a run uses.
use Prim.Native.Nat.{◌+◌, ◌*◌, ◌≤◌}
use mathlib.Core.Path.{◌≡◌, refl}
use mathlib.Core.List.{[], ◌∷◌}
use native.Mathlib.Omega.{arith}
use Rattle.rules.specs.Settings.{most_relations, scratch_words}
use Rattle.engine.specs.Layout.{most_variables, most_goals, most_disjunctions, most_constraints, most_pairs, trail_area, names_area, cells_area, points_area, constraints_area, pairs_area, relations_area, free_area}

pub areas_meet : trail_area ∷ names_area ∷ cells_area ∷ points_area ∷ constraints_area ∷ pairs_area ∷ relations_area ∷ free_area ∷ []
    ≡ most_variables ∷ (trail_area + most_variables) ∷ (names_area + most_variables) ∷ (cells_area + 2 * most_goals) ∷ (points_area + 8 * most_disjunctions) ∷ (constraints_area + most_constraints) ∷ (pairs_area + 2 * most_pairs) ∷ (relations_area + most_relations) ∷ []
areas_meet = refl

pub areas_fit : free_area ≤ scratch_words
areas_fit = omega arith
