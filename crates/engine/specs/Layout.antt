-- Numbers of the memory and of a path, as `layout` has them.
use Rattle.std.specs.Prelude.{ℕ, ◌+◌, ◌*◌}
use Rattle.semantics.specs.Steps.{most, variables, goals, disjunctions, constraints, waiting}

-- Bounds of one path, as document 01 has them.
abbrev pub most_variables : ℕ
most_variables = most variables

abbrev pub most_goals : ℕ
most_goals = most goals

abbrev pub most_disjunctions : ℕ
most_disjunctions = most disjunctions

abbrev pub most_constraints : ℕ
most_constraints = most constraints

-- term pairs that wait
abbrev pub most_pairs : ℕ
most_pairs = most waiting

-- how many positions a reference can have: those of the longest program
abbrev pub positions : ℕ
positions = 16384

-- how many references there are, with a base up to `most_variables`: that base is met, by a relation with no variables that is called when all are made
abbrev pub references : ℕ
references = positions * (most_variables + 1)

-- Where the areas of the scratch begin: bindings at 0, then the trail, names, cells of waiting goals, choice points, constraints, waiting term pairs and the table of relations.
abbrev pub trail_area : ℕ
trail_area = 2048

abbrev pub names_area : ℕ
names_area = 4096

abbrev pub cells_area : ℕ
cells_area = 6144

abbrev pub points_area : ℕ
points_area = 8192

abbrev pub constraints_area : ℕ
constraints_area = 10240

abbrev pub pairs_area : ℕ
pairs_area = 10752

abbrev pub relations_area : ℕ
relations_area = 11776

-- where the areas end: of the `scratch_words` that a run uses, those from here on are free
abbrev pub free_area : ℕ
free_area = 12032
