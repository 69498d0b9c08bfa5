-- `repeated`: one law for each way in which it returns.
use Prim.Native.Nat.{ℕ, ◌-◌}
use mathlib.Core.List.{List, [], ◌∷◌, ◌++◌}
use Rattle.engine.specs.Index.{Comparing, EnteredAs}
use Rattle.engine.proofs.TermLaws.{untouched}
use Rattle.engine.proofs.RepeatsLaws.{comparing_all, comparing_seek, compared_from, compared_found, compared_entered, entered_touched, entered_fits}
use Rattle.engine.proofs.repeats.repeated.repeated.Goals as goal
use Rattle.engine.proofs.repeats.repeated.repeated.Goals.{After-enter}

-- what `enter` tells
told : (c : After-enter) → (ws : List (List ℕ)) (v : List ℕ) → (let a = c.args in Comparing a.output.now a.used a.next a.end a.index ws v → EnteredAs a.output.now c.enter.new.output (a.end - a.index) a.index ws v c.enter.result)
told c = λ ws v g. c.enter.ensures ws v (comparing_seek g c.if-size-eq0.false c.if-end-behind.false)

pub returns-then-size-eq0 : goal.returns-then-size-eq0
returns-then-size-eq0 c = λ ws v g. compared_from g (untouched _ _ _) (c.compare_all.ensures ws v (comparing_all g (untouched _ _ _)))

pub returns-then-end-behind : goal.returns-then-end-behind
returns-then-end-behind c = λ ws v g. compared_from g (untouched _ _ _) (c.compare_all-then-end-behind.ensures ws v (comparing_all g (untouched _ _ _)))

pub fitted-requires : goal.fitted-requires
fitted-requires c =
    let q = c.requires.1 in (q.0 ++ (q.1 ∷ []), entered_fits q.2 c.if-size-eq0.false c.if-end-behind.false (told (goal.at.fitted-requires c).After-enter q.0 q.1 q.2) c.in-New.is)

pub compare_all-requires-in-Lost : goal.compare_all-requires-in-Lost
compare_all-requires-in-Lost c =
    let q = c.requires in (q.0, (q.1.0, q.1.1, comparing_all q.1.2 (entered_touched q.1.2 c.if-size-eq0.false c.if-end-behind.false (told (goal.at.compare_all-requires-in-Lost c).After-enter q.1.0 q.1.1 q.1.2))))

pub returns-in-Repeated : goal.returns-in-Repeated
returns-in-Repeated c =
    λ ws v g. compared_found g c.if-size-eq0.false c.if-end-behind.false (told (goal.at.returns-in-Repeated c).After-enter ws v g) c.in-Repeated.is

pub returns-in-New : goal.returns-in-New
returns-in-New c =
    λ ws v g. compared_entered g c.if-size-eq0.false c.if-end-behind.false (told (goal.at.returns-in-New c).After-enter ws v g) c.in-New.is (c.fitted.ensures (ws ++ (v ∷ [])) (entered_fits g c.if-size-eq0.false c.if-end-behind.false (told (goal.at.returns-in-New c).After-enter ws v g) c.in-New.is))

pub returns-in-Lost : goal.returns-in-Lost
returns-in-Lost c =
    λ ws v g. let t = entered_touched g c.if-size-eq0.false c.if-end-behind.false (told (goal.at.returns-in-Lost c).After-enter ws v g) in compared_from g t (c.compare_all-in-Lost.ensures ws v (comparing_all g t))
