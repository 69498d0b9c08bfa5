-- Goals and constraints by reference: where they are, and what they are on a path.
use Prim.Native.Nat.{ℕ, ◌+◌, ◌≤◌, ◌<◌}
use mathlib.Core.Path.{◌≡◌, sym, subst, ◌∙◌}
use mathlib.Core.List.{List, [], ◌∷◌, map}
use native.Mathlib.Omega.{arith}
use lib.ListN.{length}
use Rattle.rules.specs.Syntax.{Term, var, atom, pair, Constraint, differ, typed, absento, Goal, Goals, one, more, constrain, conj, disj}
use Rattle.rules.specs.Reading.{kind_at, payload_at, after}
use Rattle.semantics.specs.Substitution.{shift, shift_constraint}
use Rattle.engine.specs.Layout.{references}
use Rattle.engine.specs.Reference.{TermAt, TermsAt, ConstraintAt, GoalsAt, pos_of, base_of, beyond, TaskAt, RestAt, VarsC, KeepsAt}
use Rattle.rules.specs.Settings.{most_words}
use Rattle.engine.proofs.ReferenceLaws.{pos_plus, base_plus, pos_beyond, base_beyond}

-- a sequence has a goal at least
pub goals_longer : (ws : List ℕ) (from to : ℕ) (gs : Goals) → GoalsAt ws from to gs → after ws from ≤ to
goals_longer ws from to (one g) h = omega (arith, h.1)
goals_longer ws from to (more g gs) h = omega (arith, goals_longer ws (after ws from) to gs h.1)

-- what is read with base 0 stands, in an environment, for what it is shifted to
pub term_shift : (ws : List ℕ) (base from to : ℕ) (t : Term) → TermAt ws 0 from to t → TermAt ws base from to (shift base t)
term_shift ws base from to (var x) h = (h.0, omega (arith, h.1), h.2)
term_shift ws base from to (atom a) h = h
term_shift ws base from to (pair s t) h = (h.0, term_shift ws base (from + 1) (from + 1 + payload_at ws from) s h.1, term_shift ws base (from + 1 + payload_at ws from) to t h.2)

pub terms_shift : (ws : List ℕ) (base from to : ℕ) (ts : List Term) → TermsAt ws 0 from to ts → TermsAt ws base from to (map (shift base) ts)
terms_shift ws base from to [] h = h
terms_shift ws base from to (t ∷ ts) h = (h.0, term_shift ws base from h.0 t h.1, terms_shift ws base h.0 to ts h.2)

pub constraint_shift : (ws : List ℕ) (base pos : ℕ) (c : Constraint) → ConstraintAt ws 0 pos c → ConstraintAt ws base pos (shift_constraint base c)
constraint_shift ws base pos (differ s t) h = (h.0, terms_shift ws base (pos + 1) (after ws pos) (s ∷ t ∷ []) h.1)
constraint_shift ws base pos (typed k t) h = (h.0, terms_shift ws base (pos + 1) (after ws pos) (t ∷ []) h.1)
constraint_shift ws base pos (absento a t) h = (h.0, h.1, terms_shift ws base (pos + 2) (after ws pos) (t ∷ []) h.2)

-- the goals of a sequence are one after the other
pub task_one : (ws : List ℕ) (w to base : ℕ) (g : Goal) → RestAt ws w to base (one g) → (after ws (pos_of w) ≡ to) × TaskAt ws w (base, g)
task_one ws w to base g h = (h.goals.1, record { base = h.is_base; goal = h.goals.0; small = omega (arith, h.goals.1, h.small); inside = omega (arith, h.goals.1, h.inside); below = h.below })

pub record Then (ws : List ℕ) (w to base : ℕ) (g : Goal) (gs : Goals) : Type 0 where
  pub not_last : after ws (pos_of w) < to
  pub first : TaskAt ws w (base, g)
  pub others : RestAt ws (beyond ws w) to base gs

pub task_more : (ws : List ℕ) (w to base : ℕ) (g : Goal) (gs : Goals) → RestAt ws w to base (more g gs) → Then ws w to base g gs
task_more ws w to base g gs h =
    let mid : ℕ = after ws (pos_of w) in
    let l : after ws mid ≤ to = goals_longer ws mid to gs h.goals.1 in
    let e : to ≤ most_words = h.small in
    let ins : to ≤ length ws = h.inside in
    let lt : base_of w ≤ 2048 = omega (arith, h.below) in
    record {
      not_last = omega arith;
      first = record { base = h.is_base; goal = h.goals.0; small = omega arith; inside = omega arith; below = h.below };
      others = record {
        is_base = base_beyond ws w (omega arith) ∙ h.is_base;
        goals = subst (λ k. GoalsAt ws k to gs) (sym (pos_beyond ws w (omega arith))) h.goals.1;
        small = e;
        inside = ins;
        below = omega arith;
      };
    }

-- the goals inside a conjunction or a disjunction
pub rest_inside : (ws : List ℕ) (w base : ℕ) (gs : Goals) → base_of w ≡ base → GoalsAt ws (pos_of w + 1) (after ws (pos_of w)) gs → after ws (pos_of w) ≤ most_words → after ws (pos_of w) ≤ length ws → w < references → RestAt ws (w + 1) (after ws (pos_of w)) base gs
rest_inside ws w base gs e h le ins lt =
    let l : after ws (pos_of w + 1) ≤ after ws (pos_of w) = goals_longer ws (pos_of w + 1) (after ws (pos_of w)) gs h in
    record { is_base = base_plus w 1 (omega arith) ∙ e; goals = subst (λ k. GoalsAt ws k (after ws (pos_of w)) gs) (sym (pos_plus w 1 (omega arith))) h; small = le; inside = ins; below = omega arith }

pub conj_rest : (ws : List ℕ) (w base : ℕ) (gs : Goals) → TaskAt ws w (base, conj gs) → (kind_at ws (pos_of w) ≡ 10) × RestAt ws (w + 1) (after ws (pos_of w)) base gs
conj_rest ws w base gs h = (h.goal.0, rest_inside ws w base gs h.base h.goal.1 h.small h.inside h.below)

pub disj_rest : (ws : List ℕ) (w base : ℕ) (gs : Goals) → TaskAt ws w (base, disj gs) → (kind_at ws (pos_of w) ≡ 11) × RestAt ws (w + 1) (after ws (pos_of w)) base gs
disj_rest ws w base gs h = (h.goal.0, rest_inside ws w base gs h.base h.goal.1 h.small h.inside h.below)

-- a constraint's goal, kept by its reference
pub keeps_task : (ws : List ℕ) (w base : ℕ) (c : Constraint) → TaskAt ws w (base, constrain c) → VarsC (λ x. x < 2048) (shift_constraint base c) → KeepsAt ws w (shift_constraint base c)
keeps_task ws w base c h v = record {
  reads = subst (λ b. ConstraintAt ws (base_of w) (pos_of w) (shift_constraint b c)) h.base (constraint_shift ws (base_of w) (pos_of w) c h.goal);
  small = h.small;
  inside = h.inside;
  below = h.below;
  in_range = v;
}
