-- `build`: the answers before `place` are indexed.
use Prim.Native.Nat.{ℕ}
use mathlib.Core.List.{List}
use Rattle.engine.specs.Lines.{Rows}
use Rattle.engine.specs.Index.{EnteredAs}
use Rattle.engine.proofs.BuildLaws.{Emptied, emptied, built_from, building_seek, building_next, building_not, building_end, first}
use Rattle.engine.proofs.repeats.index.build.Goals as goal
use Rattle.engine.proofs.repeats.index.build.Goals.{After-clear, After-enter}

-- the table is cleared before the loop
empty : (c : After-clear) → (let a = c.args in Emptied a.output.now c.clear.new.words a.used a.table a.size)
empty c = emptied c.requires.0 c.clear.ensures

-- what `enter` tells of the next answer
told : (c : After-enter) → (ws : List (List ℕ)) (k : Rows c.clear.new.words 0 c.args.used ws)
    → (let g = c.loop-place.invariant ws k in let a = c.args in EnteredAs c.loop-place.output c.enter.new.output a.table a.size g.done (first g c.loop-place-test.true).one c.enter.result)
told c ws k =
    let g = c.loop-place.invariant ws k in
    let e = emptied c.requires.0 c.clear.ensures in
    c.enter.ensures g.done (first g c.loop-place-test.true).one (building_seek g c.loop-place-test.true c.from_bits.ensures c.payload-words.ensures e.there)

pub loop-place-init : goal.loop-place-init
loop-place-init c = (empty (goal.at.loop-place-init c).After-clear).start

pub enter-requires : goal.enter-requires
enter-requires c =
    let e = empty (goal.at.enter-requires c).After-clear in
    let q = c.requires.1 in
    let g = c.loop-place.invariant q.0 (e.rows q.0 q.1) in
    (g.done, (first g c.loop-place-test.true).one, building_seek g c.loop-place-test.true c.from_bits.ensures c.payload-words.ensures e.there)

pub loop-place-preserved : goal.loop-place-preserved
loop-place-preserved c = λ ws k.
    let e = empty (goal.at.loop-place-preserved c).After-clear in
    building_next (c.loop-place.invariant ws k) c.loop-place-test.true c.from_bits.ensures c.payload-words.ensures e.there (told (goal.at.loop-place-preserved c).After-enter ws k) c.in-New.is

pub returns-in-Repeated : goal.returns-in-Repeated
returns-in-Repeated c = λ ws h.
    let e = empty (goal.at.returns-in-Repeated c).After-clear in
    let k = e.rows ws h in
    built_from e (building_not (c.loop-place.invariant ws k) c.loop-place-test.true c.from_bits.ensures c.payload-words.ensures e.there (told (goal.at.returns-in-Repeated c).After-enter ws k))

pub returns : goal.returns
returns c = λ ws h. let e = empty (goal.at.returns c).After-clear in built_from e (building_end (c.loop-place.invariant ws (e.rows ws h)) c.loop-place-test.false)
